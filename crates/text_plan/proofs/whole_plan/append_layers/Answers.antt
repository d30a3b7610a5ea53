-- The lines so far, and one more.
use Rattle.text_plan.proofs.Rows.{front_kept}
use Rattle.text_plan.proofs.PlanTexts.{layer_next}
use Rattle.text_plan.proofs.whole_plan.append_layers.Goals as goal

pub loop-layer-preserved : goal.loop-layer-preserved
loop-layer-preserved c =
    let old = c.args.into.now.items in
    let into = c.loop-layer.into.items in
    let new = c.append_layer.new.into.items in
    let line = c.in_ok-append_layer.ensures.ok in
    record {
      text =
          layer_next c.args.priority.now.layers c.args.table.now.layers c.loop-layer.layer old into new line
          c.loop-layer.invariant.text;
      front = front_kept old into _ new line c.loop-layer.invariant.front;
    }
