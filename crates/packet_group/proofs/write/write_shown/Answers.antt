use Rattle.std.proofs.Common.{length, sym, ap, ◌∙◌, arith, subst, inl, inr}
use Rattle.std.proofs.lemmas.Bool.{cases_eq}
use Rattle.stripe_plan.specs.Layers.{count_of}
use Rattle.stripe_plan.specs.laws.CountLaws.{length-counts_of}
use Rattle.packet_group.specs.OpenGroup.{layers_of}
use Rattle.packet_group.specs.Written.{HasLayer}
use Rattle.packet_group.proofs.Known.{on_then}
use Rattle.packet_group.proofs.write.write_shown.Goals as goal

pub write_if_shown-requires-clause-layer : goal.write_if_shown-requires-clause-layer
write_if_shown-requires-clause-layer g c =
    omega (
      arith,
      c.loop-layer-test.true,
      c.loop-layer.auto.layer-end,
      ap length c.counts-layer-end.ensures.value,
      length-counts_of (layers_of c.args.packets.now),
    )

pub loop-layer-preserved : goal.loop-layer-preserved
loop-layer-preserved g c =
    let layers = layers_of c.args.packets.now in
    let coding = g.F.Field.coding in
    let held = c.args.progress.now in
    let old = c.loop-layer.message.items in
    let new = c.write_if_shown.new.message.items in
    let step = c.write_if_shown.ensures.on in
    record {
      room = omega (arith, c.loop-layer.invariant.room, c.write_if_shown.ensures.room);
      on = on_then coding layers held c.args.message.now.items old new c.loop-layer.invariant.on step;
      shown =
          λ i l shown.
          elim (cases_eq i c.loop-layer.layer) [
            | inl here ↦
                subst (HasLayer coding layers held new) (sym here)
                (c.write_if_shown.ensures.shown (ap (count_of layers) (sym here) ∙ shown))
            | inr other ↦ λ j m meets.
                step.kept j m (c.loop-layer.invariant.shown i (omega (arith, l, other)) shown j m meets)
          ];
    }

pub returns-clause-shown : goal.returns-clause-shown
returns-clause-shown g c layer l =
    c.loop-layer.invariant.shown layer
    (omega (
      arith,
      l,
      c.loop-layer-test.false,
      c.loop-layer.auto.layer-end,
      ap length c.counts-layer-end.ensures.value,
      length-counts_of (layers_of c.args.packets.now),
    ))
