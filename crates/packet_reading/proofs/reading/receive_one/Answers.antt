use Rattle.std.proofs.Common.{◌≡◌, ℕ, Bool, false, cond, List, [], ◌∷◌, ◌++◌, refl, sym, ap, subst, ◌∙◌, arith}
use Rattle.std.proofs.Common.{inr}
use Rattle.pet_base.specs.laws.Through.{on_any_err}
use Rattle.field_elements.specs.Field.{Coding}
use Rattle.packet_frame.specs.Planned.{planned_fields}
use Rattle.packet_frame.specs.laws.Laws.{reads_heads_in}
use Rattle.packet_receiver.specs.Arrivals.{Order, ReceiverState, HasKept, kept_set}
use Rattle.packet_verdicts.specs.declared.verdict.Verdict.{Verdict}
use Rattle.packet_verdicts.specs.declared.verdict.Verdict.TheVariants.{Damaged, Foreign, Clash, Repeated, Full, Kept}
use Rattle.packet_verdicts.specs.declared.verdict.LayerSet.{LayerSet}
use Rattle.packet_verdicts.specs.KeptSet.{KeptSet, IsKeptSetBy, open_group, group_with_by}
use Rattle.packet_receiver.specs.ShownBytes.{IsShown}
use Rattle.packet_verdicts.specs.Group.{group_in}
use Rattle.packet_verdicts.specs.Verdicts.{verdict_in, is_kept, after_in}
use Rattle.outside_files.specs.laws.OutputLaws.{puts_nothing}
use Rattle.packet_met.specs.Records.{AreShownText, IsTextAtIn, layers_in}
use Rattle.packet_met.specs.laws.KeptDatagram.{KeptShowsIn, kept_shows_in, text_at, nothing_at}
use Rattle.packet_reading.specs.inside.SoFar.{CanRead}
use Rattle.packet_reading.proofs.reading.receive_one.Goals as goal

-- what the kept datagram shows
kept_by : {E : Type 0} (c : Coding E) (r : ReceiverState E) (d : List ℕ) (shown : LayerSet) → CanRead c r
    → Kept shown ≡ verdict_in r.format (kept_set r) d → KeptShowsIn r.format (kept_set r) d shown
kept_by c r d shown ready is =
    kept_shows_in r.format ready.format ready.plan (kept_set r) d shown
    (subst (λ (w : ℕ). IsKeptSetBy w (kept_set r)) (sym ready.word) ready.sound) is

-- and its text
text_by : {E : Type 0} (P : E → Type 0) (c : Coding E) (r now : ReceiverState E) (arrival group : ℕ) (d text : List ℕ)
    (shown : LayerSet) → CanRead c r → Kept shown ≡ verdict_in r.format (kept_set r) d → group ≡ group_in d
    → kept_set now ≡ after_in r.format (kept_set r) d
    → ((order : Order) → HasKept P c r order → HasKept P c now
    (order ++ ((planned_fields r.format d).group, (planned_fields r.format d).number) ∷ []))
    → AreShownText P c now arrival group (layers_in shown) text → IsTextAtIn P c r.format r arrival d text
text_by P c r now arrival group d text shown ready is =
    text_at r.format P c r now arrival group d text shown (kept_by c r d shown ready is)

pub named_group-group-requires : goal.named_group-group-requires
named_group-group-requires g c =
    reads_heads_in c.args.receiver.now.format c.args.datagram.now
    (kept_by g.F.Field.coding c.args.receiver.now c.args.datagram.now c.in-Kept.shown c.requires.ready
    (sym c.in-Kept.is ∙ c.in_ok-verdict.ensures.verdict)).frame

pub put_shown-requires-clause-shown : goal.put_shown-requires-clause-shown
put_shown-requires-clause-shown g c layer bit =
    let d = c.args.datagram.now in
    let t = c.args.receiver.now.format in
    let S = kept_set c.args.receiver.now in
    let k = kept_by g.F.Field.coding c.args.receiver.now c.args.datagram.now c.in-Kept.shown c.requires.ready
    (sym c.in-Kept.is ∙ c.in_ok-verdict.ensures.verdict) in
    subst (λ (x : KeptSet). IsShown x c.named_group-group.result layer) (sym c.in_ok-verdict.ensures.kept)
    (subst (λ (n : ℕ). IsShown (after_in t S d) n layer) (sym c.named_group-group.ensures) (k.shows layer bit))

pub put_shown-requires-clause-held : goal.put_shown-requires-clause-held
put_shown-requires-clause-held g c =
    let f = planned_fields c.args.receiver.now.format c.args.datagram.now in (
      c.requires.held.0 ++ (f.group, f.number) ∷ [],
      c.in_ok-verdict.ensures.order (ap is_kept c.in-Kept.is) c.requires.held.0 c.requires.held.1,
    )

pub put_shown-requires-clause-narrow : goal.put_shown-requires-clause-narrow
put_shown-requires-clause-narrow g c =
    let d = c.args.datagram.now in
    let t = c.args.receiver.now.format in
    let S = kept_set c.args.receiver.now in
    let k = kept_by g.F.Field.coding c.args.receiver.now c.args.datagram.now c.in-Kept.shown c.requires.ready
    (sym c.in-Kept.is ∙ c.in_ok-verdict.ensures.verdict) in (
      group_with_by t.word S (planned_fields t d),
      ap (λ (x : KeptSet). open_group x c.named_group-group.result) c.in_ok-verdict.ensures.kept
          ∙ ap (open_group (after_in t S d)) c.named_group-group.ensures ∙ k.opened,
      k.narrow,
    )

pub returns-in-Kept-clause-puts : goal.returns-in-Kept-clause-puts
returns-in-Kept-clause-puts g c =
    let p = c.in_ok-put_shown.ensures.puts in (
      p.0,
      text_by g.F.Field.is_element g.F.Field.coding c.args.receiver.now c.accept.new.self c.args.arrival
          c.named_group-group.result c.args.datagram.now p.0 c.in-Kept.shown c.requires.ready
          (sym c.in-Kept.is ∙ c.in_ok-verdict.ensures.verdict) c.named_group-group.ensures c.in_ok-verdict.ensures.kept
          (c.in_ok-verdict.ensures.order (ap is_kept c.in-Kept.is)) p.1,
      p.2,
    )

pub returns-in_err-put_shown-clause-part : goal.returns-in_err-put_shown-clause-part
returns-in_err-put_shown-clause-part g c =
    let p = c.in_err-put_shown.ensures.part in
    on_any_err c.from_residual-in_err-put_shown.result (inr (
      p.0,
      text_by g.F.Field.is_element g.F.Field.coding c.args.receiver.now c.accept.new.self c.args.arrival
          c.named_group-group.result c.args.datagram.now p.0 c.in-Kept.shown c.requires.ready
          (sym c.in-Kept.is ∙ c.in_ok-verdict.ensures.verdict) c.named_group-group.ensures c.in_ok-verdict.ensures.kept
          (c.in_ok-verdict.ensures.order (ap is_kept c.in-Kept.is)) p.1,
      p.2,
    ))

not_kept : (v : Verdict) → ((shown : LayerSet) → v ≡ Kept shown → ⊥) → is_kept v ≡ false
not_kept Damaged none = refl
not_kept Foreign none = refl
not_kept Clash none = refl
not_kept Repeated none = refl
not_kept Full none = refl
not_kept (Kept shown) none = absurd (none shown refl)

pub returns-clause-puts : goal.returns-clause-puts
returns-clause-puts g c =
    let out = not_kept c.in_ok-verdict.verdict c.in_default.not-Kept in
    let s = g.P.Place.seen c.args.place.now in (
      [],
      nothing_at c.args.receiver.now.format g.F.Field.is_element g.F.Field.coding c.args.receiver.now c.args.arrival c.args.datagram.now
          (ap is_kept (sym c.in_ok-verdict.ensures.verdict) ∙ out),
      puts_nothing s s refl,
    )

pub returns-clause-held : goal.returns-clause-held
returns-clause-held g c order held =
    let t = c.args.receiver.now.format in
    let S = kept_set c.args.receiver.now in
    let f = planned_fields c.args.receiver.now.format c.args.datagram.now in
    let out = not_kept c.in_ok-verdict.verdict c.in_default.not-Kept in
    let verdict : is_kept (verdict_in t S c.args.datagram.now) ≡ false =
    ap is_kept (sym c.in_ok-verdict.ensures.verdict) ∙ out in
    let same = c.in_ok-verdict.ensures.unchanged out in
    subst (λ (b : Bool). HasKept g.F.Field.is_element g.F.Field.coding c.accept.new.self (cond b (order ++ (f.group, f.number) ∷ []) order)) (sym verdict)
    (subst (λ r. HasKept g.F.Field.is_element g.F.Field.coding r order) (sym same.0) held)

pub returns-clause-cost : goal.returns-clause-cost
returns-clause-cost g c =
    let out = not_kept c.in_ok-verdict.verdict c.in_default.not-Kept in
    let same = c.in_ok-verdict.ensures.unchanged out in
    omega (arith, same.1)
