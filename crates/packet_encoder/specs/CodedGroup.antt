-- What contracts see of an encoder of any format. This project's own.
use Rattle.packet_frame.specs.declared.format.Format.{Format}
use Rattle.packet_session.specs.Encoding.{Encoding}

-- the format of its frames, and what the packets share with the message that they carry
pub record CodedGroup : Type 0 where
  pub format : Format
  pub encoding : Encoding
