use Rattle.std.proofs.Common.{◌≡◌, ◌*◌}
use Rattle.packet_encoder.specs.Payloads.{HasPayloads}
use Rattle.packet_encoder.proofs.encoder.PacketEncoder.spell.Given as goal

abbrev pub invariant-loop-p : goal.invariant-loop-p
invariant-loop-p g l = record {
  place : l.at ≡ l.p * l.wide;
  so_far : HasPayloads g.F.Field.coding l.self.encoding l.first l.p l.into.items;
}
