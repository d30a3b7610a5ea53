use Rattle.packet_rebuild.specs.laws.MessageLaws.{layers_more}
use Rattle.packet_rebuild.proofs.message.message_of.Goals as goal

pub loop-layer-preserved : goal.loop-layer-preserved
loop-layer-preserved g c =
    layers_more g.F.Field.is_element g.F.Field.coding c.args.receiver.now c.args.group c.loop-layer.layer _ _ _
    c.loop-layer.invariant c.shown_layer.ensures c.in_ok-append_padded.ensures
