use Rattle.std.proofs.Common.{◌≡◌, ◌+◌, ◌*◌, ◌++◌, drop}
use Rattle.arrayvec.specs.ArrayVec.{array_vec_len}
use Rattle.text_plan.specs.PlanLines.{hex_text}
use Rattle.text_pieces.proofs.append.append_session.Given as goal

abbrev pub invariant-loop-byte : goal.invariant-loop-byte
invariant-loop-byte l = record {
  text : l.into.items ++ hex_text (drop l.byte-index l.session) ≡ l.initial.into.items ++ hex_text l.session;
  len : array_vec_len l.into ≡ array_vec_len l.initial.into + 2 * l.byte-index;
}
