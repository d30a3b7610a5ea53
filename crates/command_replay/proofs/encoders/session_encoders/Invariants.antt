use Rattle.std.proofs.Common.{◌≡◌, ◌≤◌, ℕ, length}
use Rattle.std.specs.Prelude.{slice_get, Some}
use Rattle.packet_session.specs.Encoding.{Encoding}
use Rattle.command_replay.specs.inside.Held.{IsEncoderAt, held_session}
use Rattle.command_replay.proofs.encoders.session_encoders.Given as goal

abbrev pub invariant-loop-group : goal.invariant-loop-group
invariant-loop-group l = record {
  many : length l.encoders.items ≡ l.group;
  few : l.group ≤ length l.cuts.items;
  each : (i : ℕ) (e : Encoding) → slice_get l.encoders.items i ≡ Some e → IsEncoderAt (held_session l.whole) i e;
}
