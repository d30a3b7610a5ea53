use Rattle.std.proofs.Common.{arith}
use Rattle.packet_frame.specs.declared.format.TheConstants.{FORMAT}
use Rattle.packet_frame.specs.View.{view}
use Rattle.packet_frame.specs.laws.Formats.{format_is}
use Rattle.packet_frame.proofs.Results.{is_text_ok, is_read_ok}
use Rattle.packet_frame.proofs.read.read_frame.Goals as goal

pub returns-clause-spelled : goal.returns-clause-spelled
returns-clause-spelled c =
    let read = c.read_planned in
    is_text_ok FORMAT c.args.bytes.now view read.result _
    (λ i. omega (arith, c.type_inv.bytes i)) read.ensures.refused read.ensures.fields

pub returns-clause-read : goal.returns-clause-read
returns-clause-read c =
    let read = c.read_planned in
    is_read_ok FORMAT format_is view c.args.bytes.now read.result read.ensures.refused read.ensures.fields
