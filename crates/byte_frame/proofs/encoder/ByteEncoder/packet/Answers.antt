use Rattle.std.specs.Prelude.{OnOk}
use Rattle.std.proofs.Common.{subst}
use Rattle.packet_frame.specs.declared.format.Format.{Format}
use Rattle.packet_frame.specs.declared.format.TheConstants.{BYTE_FORMAT}
use Rattle.packet_frame.specs.Planned.{IsPlannedFrame}
use Rattle.packet_session.specs.Encoding.{Encoding, frame_of}
use Rattle.byte_frame.proofs.encoder.ByteEncoder.packet.Goals as goal

pub returns-clause-ranges : goal.returns-clause-ranges
returns-clause-ranges g c =
    let frame = λ (e : Encoding). frame_of g.F.Field.coding e c.args.number in
    let own = subst (λ (t : Format). OnOk c.packet.result (IsPlannedFrame t (frame c.self.inside.core.encoding)))
    c.self.invariant c.packet.ensures.ranges in
    subst (λ (e : Encoding). OnOk c.packet.result (IsPlannedFrame BYTE_FORMAT (frame e))) c.self.view_is own
