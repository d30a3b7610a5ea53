use Rattle.std.specs.Prelude.{option_copied, is_none, sum_by}
use Rattle.std.proofs.Common.{◌≡◌, ℕ, ◌+◌, ◌≤◌, Option, None, Some, List, [], ◌∷◌, All, subst, sym, ap, ap₂, ◌∙◌, arith}
use Rattle.std.proofs.lemmas.List.Elements.{All-head, All-tail}
use Rattle.packet_set.specs.Packets.{Packets}
use Rattle.packet_verdicts.specs.KeptSet.{cost_in}
use Rattle.packet_verdicts.specs.Union.{first_past}
use Rattle.packet_receiver.specs.inside.Joining.{packets_by, packets_at, cost_beside, new_of}
use Rattle.packet_receiver.proofs.Clashes.{beside_next, beside_stop, past_end}
use Rattle.packet_receiver.proofs.checks.cost_with.Goals as goal

-- one group more
module _ {X : Type 0} (kept : X → Packets) (mine : List (ℕ × Packets)) (limit t : ℕ) (it : List (ℕ × X)) (e : ℕ × X)
    (rest : List (ℕ × X)) (o : Option Packets) (p : Packets) (r : Option ℕ)
    (is : it ≡ e ∷ rest) (here : o ≡ packets_at mine e.0) (packets : p ≡ kept e.1)
    (beside : r ≡ cost_beside limit t (is_none o) (cost_in p)) where
  cost : cost_beside limit t (is_none (packets_at mine e.0)) (cost_in (kept e.1)) ≡ r
  cost = sym (beside ∙ ap₂ (λ x y. cost_beside limit t (is_none x) (cost_in y)) here packets)

  next : (m sum : ℕ) (full : Option ℕ) → r ≡ Some m → t ≤ limit
      → first_past limit t (new_of mine (packets_by kept it)) ≡ full
      → t + sum_by (λ x. cost_in x.1) (new_of mine (packets_by kept it)) ≡ sum
      → (m ≤ limit) × (first_past limit m (new_of mine (packets_by kept rest)) ≡ full)
      × (m + sum_by (λ x. cost_in x.1) (new_of mine (packets_by kept rest)) ≡ sum)
  next m sum full more room past total =
      let n = beside_next mine limit t m (e.0, kept e.1) (packets_by kept rest) room (cost ∙ more) in (
        n.0,
        sym (ap (λ x. first_past limit t (new_of mine (packets_by kept x))) is ∙ n.1) ∙ past,
        sym (ap (λ x. t + sum_by (λ y. cost_in y.1) (new_of mine (packets_by kept x))) is ∙ n.2) ∙ total,
      )

  stop : (full : Option ℕ) → r ≡ None → first_past limit t (new_of mine (packets_by kept it)) ≡ full → full ≡ Some e.0
  stop full none past =
      sym past ∙ ap (λ x. first_past limit t (new_of mine (packets_by kept x))) is
      ∙ beside_stop mine limit t (e.0, kept e.1) (packets_by kept rest) (cost ∙ none)

ended : {X : Type 0} (kept : X → Packets) (mine : List (ℕ × Packets)) (limit t : ℕ) (it : List (ℕ × X))
    (full : Option ℕ) → it ≡ [] → first_past limit t (new_of mine (packets_by kept it)) ≡ full → full ≡ None
ended kept mine limit t it full is past =
    sym past ∙ ap (λ x. first_past limit t (new_of mine (packets_by kept x))) is ∙ past_end mine limit t

pub with_group-requires-clause-two : goal.with_group-requires-clause-two
with_group-requires-clause-two g c =
    let kept = g.G.HasPackets.kept in
    let all = subst (All (λ e. (kept e.1).word ≡ 2)) c.in-Some.ensures.steps c.loop-group.invariant.two in
    ap (λ (p : Packets). p.word) c.packets.ensures
    ∙ All-head (λ e. (kept e.1).word ≡ 2) (c.in-Some.group.now, c.in-Some.other.now) c.next.new.self all

pub with_group-requires-clause-room : goal.with_group-requires-clause-room
with_group-requires-clause-room g c = c.loop-group.invariant.room

pub loop-group-preserved : goal.loop-group-preserved
loop-group-preserved g c =
    let kept = g.G.HasPackets.kept in
    let n = next kept (packets_by kept c.args.groups.now.entries) c.args.limit c.loop-group.total
    c.loop-group.group-iterator (c.in-Some.group.now, c.in-Some.other.now) c.next.new.self
    (option_copied c.packets_in.result) c.packets.result.now c.with_group.result
    c.in-Some.ensures.steps c.packets_in.ensures c.packets.ensures c.with_group.ensures c.in-Some-with_group.more _ _
    c.in-Some-with_group.is c.loop-group.invariant.room c.loop-group.invariant.full c.loop-group.invariant.sum in
    let all = subst (All (λ e. (kept e.1).word ≡ 2)) c.in-Some.ensures.steps c.loop-group.invariant.two in
    record {
      two = All-tail (λ e. (kept e.1).word ≡ 2) (c.in-Some.group.now, c.in-Some.other.now) c.next.new.self all;
      room = n.0;
      full = n.1;
      sum = n.2;
    }

pub returns-in-None-with_group-clause-full : goal.returns-in-None-with_group-clause-full
returns-in-None-with_group-clause-full g c =
    let kept = g.G.HasPackets.kept in
    stop kept (packets_by kept c.args.groups.now.entries) c.args.limit c.loop-group.total c.loop-group.group-iterator
    (c.in-Some.group.now, c.in-Some.other.now) c.next.new.self
    (option_copied c.packets_in.result) c.packets.result.now c.with_group.result
    c.in-Some.ensures.steps c.packets_in.ensures c.packets.ensures c.with_group.ensures _ c.in-None-with_group.is
    c.loop-group.invariant.full

pub returns-clause-fits : goal.returns-clause-fits
returns-clause-fits g c =
    let kept = g.G.HasPackets.kept in
    ended kept (packets_by kept c.args.groups.now.entries) c.args.limit c.loop-group.total c.loop-group.group-iterator
    _ c.in-None.ensures.steps.0 c.loop-group.invariant.full

pub returns-clause-total : goal.returns-clause-total
returns-clause-total g c =
    let kept = g.G.HasPackets.kept in
    let none = ap (λ it. sum_by (λ e. cost_in e.1)
    (new_of (packets_by kept c.args.groups.now.entries) (packets_by kept it))) c.in-None.ensures.steps.0 in
    omega (arith, c.loop-group.invariant.sum, none)
