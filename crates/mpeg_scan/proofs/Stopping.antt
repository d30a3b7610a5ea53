-- Where the byte that decides a refusal stands, and what had ended before it.
use Rattle.std.proofs.Common.{◌≡◌, ℕ, List, [], ◌∷◌, ◌++◌, length, refl, sym, ◌∙◌, ap, subst, append_assoc}
use Rattle.std.specs.Prelude.{Some}
use Rattle.mpeg_scan.specs.declared.piece.Piece.{Piece}
use Rattle.mpeg_scan.specs.declared.scanner.Scanner.{Scanner}
use Rattle.mpeg_scan.specs.declared.refusal.Scan.{Scan}
use Rattle.mpeg_scan.specs.Refusals.{decided_at}
use Rattle.mpeg_scan.specs.Scanning.{HasRead, HasStopped}
use Rattle.mpeg_scan.specs.inside.Moves.{Decides}
use Rattle.mpeg_scan.specs.laws.EndedLaws.{read_ended}

-- the byte behind what was read decides it
pub stopped_by : (c : Scanner) (s : List ℕ) (x : ℕ) (scan : Scan) (given : List Piece) → HasRead c s given
    → Decides s x (Some scan) → HasStopped (s ++ x ∷ []) scan given
stopped_by c s x scan given r decides = record {
  before = s;
  behind = x ∷ [];
  parts = refl;
  decided = λ rest. subst (λ S. decided_at S scan ≡ length s) (sym (append_assoc s (x ∷ []) rest)) (decides rest).1;
  undecided = r.undecided;
  ended = read_ended c s given r;
}

-- the stream goes on behind it
pub stopped_more : (s t : List ℕ) (scan : Scan) (given : List Piece) → HasStopped s scan given
    → HasStopped (s ++ t) scan given
stopped_more s t scan given h = record {
  before = h.before;
  behind = h.behind ++ t;
  parts = ap (λ S. S ++ t) h.parts ∙ append_assoc h.before h.behind t;
  decided = λ rest. subst (λ S. decided_at S scan ≡ length h.before) (sym (append_assoc s t rest))
      (h.decided (t ++ rest));
  undecided = h.undecided;
  ended = h.ended;
}
