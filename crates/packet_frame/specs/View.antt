-- The fields that a header and a frame show.
use Rattle.std.specs.Prelude.{ℕ, List}
use Rattle.packet_frame.specs.Frame.{Fields}
use Rattle.packet_frame.specs.declared.frame.Frame.{Frame}
use Rattle.packet_frame.specs.declared.frame.Header.{Header}
use Rattle.packet_frame.specs.declared.old.OldFrame.{OldFrame}
use Rattle.packet_frame.specs.declared.byte.ByteFrame.{ByteFrame}

-- the fields of the packet of this header, number and payload
abbrev pub fields_with : Header → ℕ → List ℕ → Fields
fields_with header number payload = record {
  session = header.session;
  groups = header.groups;
  group = header.group;
  packets = header.table.packets;
  number = number;
  layers = header.table.layers;
  payload = payload;
}

-- the fields of a frame
abbrev pub view : Frame → Fields
view frame = fields_with frame.header frame.number frame.payload.now

-- the fields of a frame of the first version
abbrev pub old_view : OldFrame → Fields
old_view frame = record {
  session = frame.session;
  groups = frame.groups;
  group = frame.group;
  packets = frame.table.packets;
  number = frame.number;
  layers = frame.table.layers;
  payload = frame.payload.now;
}

-- the fields of a frame of the byte profile
abbrev pub byte_view : ByteFrame → Fields
byte_view frame = record {
  session = frame.session;
  groups = frame.groups;
  group = frame.group;
  packets = frame.table.packets;
  number = frame.number;
  layers = frame.table.layers;
  payload = frame.payload.now;
}
