use Rattle.std.proofs.Common.{arith}
use Rattle.packet_frame.specs.declared.format.TheConstants.{BYTE_FORMAT}
use Rattle.packet_frame.specs.View.{byte_view}
use Rattle.packet_frame.specs.laws.Formats.{byte_format_is}
use Rattle.packet_frame.proofs.Results.{is_frame_ok, is_text_ok, is_read_ok}
use Rattle.packet_frame.proofs.byte.read_byte_frame.Goals as goal

pub returns-clause-ranges : goal.returns-clause-ranges
returns-clause-ranges c =
    let read = c.read_fields in
    is_frame_ok BYTE_FORMAT byte_format_is c.args.bytes.now byte_view read.result _ read.ensures.refused
    read.ensures.fields

pub returns-clause-spelled : goal.returns-clause-spelled
returns-clause-spelled c =
    let read = c.read_fields in
    is_text_ok BYTE_FORMAT c.args.bytes.now byte_view read.result _
    (λ i. omega (arith, c.type_inv.bytes i)) read.ensures.refused read.ensures.fields

pub returns-clause-read : goal.returns-clause-read
returns-clause-read c =
    let read = c.read_fields in
    is_read_ok BYTE_FORMAT byte_format_is byte_view c.args.bytes.now read.result read.ensures.refused
    read.ensures.fields
