-- What contracts see of an encoder, and the frames that it makes. This project's own.
use Rattle.std.specs.Prelude.{◌≡◌, ℕ, List, length, map, slice_get, Some}
use Rattle.std.specs.List.{flat_map, range_with_len}
use Rattle.field_elements.specs.Field.{Coding}
use Rattle.packet_frame.specs.declared.frame.Header.{Header}
use Rattle.packet_frame.specs.declared.format.Format.{Format}
use Rattle.packet_frame.specs.declared.format.TheConstants.{FORMAT}
use Rattle.packet_frame.specs.Frame.{Fields}
use Rattle.packet_frame.specs.Planned.{planned_text}
use Rattle.packet_frame.specs.View.{fields_with}
use Rattle.pet_poly.specs.Value.{value}
use Rattle.packet_session.specs.Payload.{payload_at, stripes_in}
use Rattle.packet_session.specs.Session.{Session}

-- what the packets of one group share, and the message that they carry
pub record Encoding : Type 0 where
  pub header : Header
  pub message : List ℕ

-- packet `number` of the group
abbrev pub frame_of : {E : Type 0} → Coding E → Encoding → ℕ → Fields
frame_of c e number =
    fields_with e.header number (payload_at c e.header.table.layers e.message (c.point_of number))

-- the values that it carries: those of the group's stripes, in order
abbrev pub values_at : {E : Type 0} → Coding E → Encoding → ℕ → List E
values_at c e number =
    map (λ stripe. value c.ops stripe (c.point_of number)) (stripes_in c e.header.table.layers e.message)

-- the packets `first` to `first + count - 1` as frames of a format, on end
abbrev pub frames_text_in : {E : Type 0} → Format → Coding E → Encoding → ℕ → ℕ → List ℕ
frames_text_in t c e first count = flat_map (λ number. planned_text t (frame_of c e number)) (range_with_len first count)

-- as the frames that are written today
abbrev pub frames_text : {E : Type 0} → Coding E → Encoding → ℕ → ℕ → List ℕ
frames_text c e first count = frames_text_in FORMAT c e first count

-- the encoder is that of one of the session's groups
pub record IsGroupOf (s : Session) (e : Encoding) : Type 0 where
  pub number : e.header.session ≡ s.number
  pub groups : e.header.groups ≡ length s.groups
  pub source : slice_get s.groups e.header.group
      ≡ Some (record { packets = e.header.table.packets; layers = e.header.table.layers; message = e.message })
