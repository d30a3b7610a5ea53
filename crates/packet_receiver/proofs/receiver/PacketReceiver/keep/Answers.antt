use Rattle.std.specs.Prelude.{option_map, is_none, OnErr}
use Rattle.std.proofs.Common.{◌≡◌, ℕ, ◌+◌, ◌≤◌, List, None, Some, Result, Ok, Err, true, sym, ap, ◌∙◌, arith, subst}
use Rattle.packet_frame.specs.View.{view}
use Rattle.pet_interp.specs.Progressive.{step_bound}
use Rattle.packet_verdicts.specs.KeptSet.{open_group, count_kept, keep_by}
use Rattle.packet_verdicts.specs.Verdicts.{opens}
use Rattle.packet_receiver.specs.Arrivals.{GroupState, ReceiverState, HasKept, kept_set, stripe_lengths}
use Rattle.packet_receiver.specs.Receiving.{IsReceiver}
use Rattle.packet_receiver.proofs.Received.{HasKeptOne, keepable_at, is_ready, kept_one, found_in, count_is}
use Rattle.packet_receiver.proofs.receiver.PacketReceiver.keep.Given.{Over}
use Rattle.packet_receiver.proofs.Fields.{receiver_of, receiver_with}
use Rattle.packet_receiver.proofs.receiver.PacketReceiver.keep.Goals as goal
use Rattle.packet_receiver.proofs.receiver.PacketReceiver.keep.Goals.{In_ok-more}

on_err : {A B : Type 0} (r : Result A B) (P : Type 0) → P → OnErr r P
on_err (Ok x) P p = tt
on_err (Err x) P p = p

pub keep_frame-requires-clause-ready : goal.keep_frame-requires-clause-ready
keep_frame-requires-clause-ready g c =
    let F = g.F.Field in
    let r = receiver_of c.self.inside in
    let f = view c.args.frame.now in
    let k = keepable_at r c.args.self.now f c.self.view_is c.requires.kept in
    is_ready F.is_element F.COUNT F.coding r c.self.inside.told c.self.inside.cost c.self.invariant f c.requires.frame
    c.requires.points k

pub returns-in_err-more-clause-err : goal.returns-in_err-more-clause-err
returns-in_err-more-clause-err g c =
    let r = receiver_of c.self.inside in
    let f = view c.args.frame.now in
    let e = c.in_err-more.ensures.err in
    let none : open_group (kept_set r) f.group ≡ None =
    found_in r f.group ∙ ap (option_map (λ (s : GroupState g.row.F-Elem.Denot). s.packets)) e.2 in
    let after = receiver_with c.self.inside c.keep_frame.new.groups.entries in
    let all : (after ≡ c.args.self.now) × (c.keep_frame.new.steps ≡ c.args.steps.now)
    × (opens (kept_set c.args.self.now) f ≡ true) = (
      ap (λ (es : List (ℕ × GroupState g.row.F-Elem.Denot)). receiver_with c.self.inside es) e.0 ∙ c.self.view_is,
      e.1,
      subst (λ (v : ReceiverState g.row.F-Elem.Denot). opens (kept_set v) f ≡ true) c.self.view_is (ap is_none none),
    ) in
    on_err c.from_residual.result ((after ≡ c.args.self.now) × (c.keep_frame.new.steps ≡ c.args.steps.now)
    × (opens (kept_set c.args.self.now) f ≡ true)) all

-- ---- a frame that was kept

-- the receiver before the call, as its fields say
abbrev before : (g : Over) → In_ok-more g → ReceiverState g.row.F-Elem.Denot
before g c =
    receiver_of c.self.inside

after : (g : Over) (c : In_ok-more g)
    → HasKeptOne g.F.Field.is_element g.F.Field.COUNT g.F.Field.coding (before g c) c.self.inside.cost
    (view c.args.frame.now) c.keep_frame.new.groups.entries
after g c =
    let F = g.F.Field in
    let f = view c.args.frame.now in
    let k = keepable_at (before g c) c.args.self.now f c.self.view_is c.requires.kept in
    kept_one F.is_element F.COUNT F.coding (before g c) c.self.inside.told c.self.inside.cost c.self.invariant f
    c.requires.frame c.requires.points k c.keep_frame.new.groups.entries c.in_ok-more.ensures.grown

pub overflow_add-self : goal.overflow_add-self
overflow_add-self g c =
    let again = (after g c).again in
    omega (arith, again.cost_is, again.set.within, c.in_ok-more.ensures.more, c.self.invariant.fits)

pub invariant_of-self-2 : goal.invariant_of-self-2
invariant_of-self-2 g c =
    let F = g.F.Field in
    subst (λ n. IsReceiver F.is_element F.COUNT F.coding
    (receiver_with c.self.inside c.keep_frame.new.groups.entries) (Some c.args.frame.now.header.groups)
    (c.self.inside.cost + n))
    (sym c.in_ok-more.ensures.more) (after g (goal.at.invariant_of-self-2 g c).In_ok-more).again

pub returns-clause-kept : goal.returns-clause-kept
returns-clause-kept g c =
    (after g (goal.at.returns-clause-kept g c).In_ok-more).set
    ∙ ap (λ (v : ReceiverState g.row.F-Elem.Denot). keep_by g.F.Field.coding.width (kept_set v)
    (view c.args.frame.now)) c.self.view_is

pub returns-clause-order : goal.returns-clause-order
returns-clause-order g c order kept =
    let F = g.F.Field in
    (after g (goal.at.returns-clause-order g c).In_ok-more).order order
    (subst (λ (v : ReceiverState g.row.F-Elem.Denot). HasKept F.is_element F.coding v order) (sym c.self.view_is) kept)

pub returns-clause-cost : goal.returns-clause-cost
returns-clause-cost g c =
    let r = receiver_of c.self.inside in
    let f = view c.args.frame.now in
    let count = count_is r f.group
    ∙ ap (λ (v : ReceiverState g.row.F-Elem.Denot). count_kept (kept_set v) f.group) c.self.view_is in
    subst (λ n. c.keep_frame.new.steps ≤ c.args.steps.now + step_bound n (stripe_lengths f.layers)) count
    c.in_ok-more.ensures.cost

pub returns-clause-sound : goal.returns-clause-sound
returns-clause-sound g c = (after g (goal.at.returns-clause-sound g c).In_ok-more).again.set
