use Rattle.std.proofs.Common.{arith}
use Rattle.packet_frame.specs.declared.format.TheConstants.{OLD_FORMAT}
use Rattle.packet_frame.specs.View.{old_view}
use Rattle.packet_frame.specs.laws.Formats.{old_format_is}
use Rattle.packet_frame.proofs.Results.{is_frame_ok, is_text_ok, is_read_ok}
use Rattle.packet_frame.proofs.old.read_old_frame.Goals as goal

pub returns-clause-ranges : goal.returns-clause-ranges
returns-clause-ranges c =
    is_frame_ok OLD_FORMAT old_format_is c.args.bytes.now old_view c.read_fields.result _ c.read_fields.ensures.refused
    c.read_fields.ensures.fields

pub returns-clause-spelled : goal.returns-clause-spelled
returns-clause-spelled c =
    is_text_ok OLD_FORMAT c.args.bytes.now old_view c.read_fields.result _
    (λ i. omega (arith, c.type_inv.bytes i)) c.read_fields.ensures.refused c.read_fields.ensures.fields

pub returns-clause-read : goal.returns-clause-read
returns-clause-read c =
    is_read_ok OLD_FORMAT old_format_is old_view c.args.bytes.now c.read_fields.result c.read_fields.ensures.refused
    c.read_fields.ensures.fields
