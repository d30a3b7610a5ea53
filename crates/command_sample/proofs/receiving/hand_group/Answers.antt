use Rattle.std.proofs.Common.{◌≡◌, ◌<◌, length, get_or, List, ℕ, sym, ap, ◌∙◌, arith}
use Rattle.command_sample.specs.Arrivals.{arrivals_of_group}
use Rattle.command_sample.specs.laws.ArrivalLaws.{arrivals_many}
use Rattle.command_sample.proofs.ArrivalSteps.{stopped_within, taken_more}
use Rattle.command_sample.proofs.Numbers.{number_below}
use Rattle.command_sample.proofs.receiving.hand_group.Goals as goal

-- the turn is one of the order's, and a number of the order stands there
turn_below : (place end : ℕ) (order : List ℕ) → order ≡ arrivals_of_group → end ≡ length order → place < end → place < 96
turn_below place end order is all low =
    omega (arith, low, all, ap (λ (l : List ℕ). length l) is, arrivals_many)

turn_number : (place : ℕ) (lent order : List ℕ) → lent ≡ order → order ≡ arrivals_of_group
    → get_or arrivals_of_group place 0 ≡ get_or lent place 0
turn_number place lent order same is = sym (ap (λ (l : List ℕ). get_or l place 0) (same ∙ is))

pub hand_on-requires : goal.hand_on-requires
hand_on-requires g c = record {
  number =
      let place = c.loop-place.place in
      omega (
        arith,
        c.requires.packets,
        number_below place,
        ap (λ (l : List ℕ). get_or l place 0) (c.deref.ensures.0 ∙ c.arrival_order-order.ensures),
      );
}

pub returns-in_err-hand_on-clause-cost : goal.returns-in_err-hand_on-clause-cost
returns-in_err-hand_on-clause-cost g c =
    let place = c.loop-place.place in
    stopped_within c.args.encoder.now c.args.receiver.now c.args.steps.now place (get_or c.deref.result.now place 0)
    c.loop-place.receiver c.loop-place.steps c.loop-place.invariant
    (turn_below place _ _ c.arrival_order-order.ensures c.len-place-end.ensures.value c.loop-place-test.true)
    (turn_number place _ _ c.deref.ensures.0 c.arrival_order-order.ensures)
    c.hand_on.new.steps c.hand_on.ensures.cost

pub loop-place-preserved : goal.loop-place-preserved
loop-place-preserved g c =
    let place = c.loop-place.place in
    taken_more c.args.encoder.now c.args.receiver.now c.args.steps.now place (get_or c.deref.result.now place 0)
    c.loop-place.receiver c.loop-place.steps c.loop-place.invariant
    (turn_below place _ _ c.arrival_order-order.ensures c.len-place-end.ensures.value c.loop-place-test.true)
    (turn_number place _ _ c.deref.ensures.0 c.arrival_order-order.ensures)
    c.hand_on.new.receiver c.hand_on.new.steps c.in_ok-hand_on.ensures.received c.hand_on.ensures.cost
