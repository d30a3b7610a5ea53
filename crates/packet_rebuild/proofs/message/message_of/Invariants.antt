use Rattle.packet_rebuild.specs.Making.{HasLayers}
use Rattle.packet_rebuild.proofs.message.message_of.Given as goal

abbrev pub invariant-loop-layer : goal.invariant-loop-layer
invariant-loop-layer g l = HasLayers g.F.Field.is_element g.F.Field.coding l.receiver l.group l.layer l.message.items
