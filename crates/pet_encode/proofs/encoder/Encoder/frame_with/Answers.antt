use Rattle.std.specs.Prelude.{OnOk}
use Rattle.std.proofs.Common.{subst}
use Rattle.packet_encoder.proofs.Ranges.{on_ok}
use Rattle.packet_frame.specs.declared.format.Format.{Format}
use Rattle.packet_frame.specs.declared.format.TheConstants.{FORMAT}
use Rattle.packet_frame.specs.Frame.{IsFrame}
use Rattle.packet_frame.specs.Planned.{IsPlannedFrame}
use Rattle.packet_session.specs.Encoding.{Encoding, frame_of}
use Rattle.pet_encode.proofs.encoder.Encoder.frame_with.Goals as goal

pub returns-clause-ranges : goal.returns-clause-ranges
returns-clause-ranges g c =
    let frame = λ (e : Encoding). frame_of g.F.Field.coding e c.args.number in
    let own = subst (λ (t : Format). OnOk c.frame_with.result (IsPlannedFrame t (frame c.self.inside.core.encoding)))
    c.self.invariant c.frame_with.ensures.ranges in
    let same = subst (λ (e : Encoding). OnOk c.frame_with.result (IsPlannedFrame FORMAT (frame e))) c.self.view_is own in
    on_ok (λ _. IsPlannedFrame FORMAT (frame c.args.self.now)) (λ _. IsFrame (frame c.args.self.now)) c.frame_with.result
    (λ _ h. h.frame) same
