use Rattle.std.proofs.Common.{◌≡◌, ℕ, ◌+◌, ◌*◌, ◌++◌, ◌<◌, ◌≤◌}
use Rattle.packet_frame.specs.Planned.{IsPlannedFrame}
use Rattle.packet_session.specs.Encoding.{frame_of}
use Rattle.packet_session.specs.Encoding.{frames_text_in}
use Rattle.packet_encoder.proofs.encoder.PacketEncoder.frames.Given as goal

abbrev pub invariant-loop-p : goal.invariant-loop-p
invariant-loop-p g l = record {
  place : l.at ≡ l.p * l.wide;
  so_far : l.into.items ≡ l.initial.into.items ++ frames_text_in l.self.format g.F.Field.coding l.self.encoding l.first l.p;
  ranges : (k : ℕ) → l.first ≤ k → k < l.first + l.p
      → IsPlannedFrame l.self.format (frame_of g.F.Field.coding l.self.encoding k);
}
