use Rattle.std.specs.Prelude.{IfOk, OnOk, map}
use Rattle.std.proofs.Common.{ℕ, ◌≡◌, ◌+◌, ◌≤◌, ◌++◌, subst}
use Rattle.packet_verdicts.specs.Union.{new_pairs, shown_by_union}
use Rattle.pet_receive.specs.Arrivals.{Order, ReceiverState, HasKept, kept_set}
use Rattle.pet_receive.specs.UnionSteps.{union_steps}
use Rattle.pet_receive.proofs.receiver.Receiver.absorb.Goals as goal

-- what the two cores promise of each other, the receivers promise that have them
both : {E : Type 0} (P : ReceiverState E → ReceiverState E → Type 0) (r v o w : ReceiverState E) → r ≡ v → o ≡ w
    → P r o → P v w
both P r v o w same alike p = subst (P v) alike (subst (λ s. P s o) same p)

pub returns-clause-shown : goal.returns-clause-shown
returns-clause-shown g c =
    both (λ r o. IfOk c.absorb.result
    (λ shown. map {A = ℕ × ℕ} {B = ℕ × ℕ} (λ s. (s.0, s.1)) shown.items ≡ shown_by_union (kept_set r) (kept_set o)))
    c.self.inside.core c.args.self.now c.other.inside.core c.args.other.now c.self.view_is c.other.view_is
    c.absorb.ensures.shown

pub returns-clause-order : goal.returns-clause-order
returns-clause-order g c =
    let F = g.F.Field in
    both (λ r o. OnOk c.absorb.result ((order : Order) → HasKept F.is_element F.coding r order
    → HasKept F.is_element F.coding c.absorb.new.self (order ++ new_pairs (kept_set r) (kept_set o))))
    c.self.inside.core c.args.self.now c.other.inside.core c.args.other.now c.self.view_is c.other.view_is
    c.absorb.ensures.order

pub returns-clause-cost : goal.returns-clause-cost
returns-clause-cost g c =
    both (λ r o. OnOk c.absorb.result (c.absorb.new.steps ≤ c.args.steps.now + union_steps (kept_set r) (kept_set o)))
    c.self.inside.core c.args.self.now c.other.inside.core c.args.other.now c.self.view_is c.other.view_is
    c.absorb.ensures.cost
