use Rattle.std.proofs.Common.{◌≡◌, ◌*◌, length, take, drop}
use Rattle.pet_text.specs.Words.{bytes_of}
use Rattle.pet_text.proofs.SessionBytes.{followed}
use Rattle.pet_text.proofs.session.read_session.Given as goal

abbrev pub invariant-loop-at : goal.invariant-loop-at
invariant-loop-at l = record {
  eight : length l.session ≡ 8;
  so_far : bytes_of l.digits ≡ followed (take l.at l.session) (bytes_of (drop (2 * l.at) l.digits));
}
