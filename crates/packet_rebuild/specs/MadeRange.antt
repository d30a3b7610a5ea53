-- The payloads of a range of an encoder's packets, as they are kept. This project's own.
use Rattle.std.specs.Prelude.{◌+◌, ◌≤◌}
use Rattle.pet_base.specs.declared.limits.TheConstants.{MAX_PACKETS}
use Rattle.field_elements.specs.Field.{Coding}
use Rattle.packet_session.specs.Encoding.{Encoding}
use Rattle.packet_encoder.specs.Payloads.{HasPayloads}
use Rattle.packet_rebuild.specs.declared.ranges.MadeRange.{MadeRange}

-- the payloads are those of the encoder's packets of these numbers
pub record IsMadeRange {E : Type 0} (c : Coding E) (e : Encoding) (made : MadeRange) : Type 0 where
  pub few : e.header.table.packets ≤ MAX_PACKETS
  pub within : made.first + made.count ≤ e.header.table.packets
  pub payloads : HasPayloads c e made.first made.count made.payloads.items
