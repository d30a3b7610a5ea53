use Rattle.std.proofs.Common.{refl, arith}
use Rattle.std.proofs.lemmas.Bool.{eq-eqb, ne_eqb}
use Rattle.command_sample.proofs.Places.{one_arrives, one_lost, all_arrived}
use Rattle.command_sample.proofs.order.arrival_order.Goals.{then-number-ne-LOST, else-number-ne-LOST}
use Rattle.command_sample.proofs.order.arrival_order.Goals as goal

pub loop-place-preserved : goal.loop-place-preserved
loop-place-preserved c =
    elim c.if-number-ne-LOST.branch [
      | then-number-ne-LOST w ↦
          rw w.order-is (record {
            order =
                one_arrives c.loop-place.place _ c.loop-place.order.items _ _ c.loop-place-test.true refl
                (ne_eqb _ 24 w.if-number-ne-LOST.true) w.push.ensures.items c.loop-place.invariant.order;
            room = omega (arith, w.push.ensures.len, c.loop-place.invariant.room);
          })
      | else-number-ne-LOST w ↦
          rw w.order-is (record {
            order =
                one_lost c.loop-place.place _ c.loop-place.order.items _ c.loop-place-test.true refl
                (eq-eqb _ 24 w.if-number-ne-LOST.false) c.loop-place.invariant.order;
            room = omega (arith, c.loop-place.invariant.room);
          })
    ]

pub returns : goal.returns
returns c =
    all_arrived c.loop-place.place c.loop-place.order.items _ c.loop-place-test.false c.loop-place.invariant.order
