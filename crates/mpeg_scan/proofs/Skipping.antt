-- A run of bytes that end nothing is read at once, as if byte by byte.
use Rattle.std.proofs.Common.{◌≡◌, ◌≢◌, ℕ, suc, ◌+◌, ◌-◌, ◌<◌, ◌≤◌, List, [], ◌∷◌, ◌++◌, length, take, drop, get_or}
use Rattle.std.proofs.Common.{refl, sym, ◌∙◌, ap, subst, arith, inl, inr, append_assoc, length-append}
use Rattle.std.proofs.lemmas.List.{append-nil, get_or-append-add, get_or-take, length-take-le}
use Rattle.mpeg_scan.specs.declared.piece.Piece.{Piece}
use Rattle.mpeg_scan.specs.declared.scanner.Scanner.{Scanner}
use Rattle.mpeg_scan.specs.declared.refusal.Scan.TheVariants.{TooLong}
use Rattle.mpeg_scan.specs.Refusals.{max_stream, Refuses}
use Rattle.mpeg_scan.specs.Scanning.{HasRead, HasStopped, back, openers_from}
use Rattle.mpeg_scan.specs.inside.Moves.{Advances, Lacks, IsQuiet}
use Rattle.mpeg_scan.specs.Pieces.{pieces_of, pieces_from}
use Rattle.mpeg_scan.proofs.LastBytes.{at_back}
use Rattle.mpeg_scan.proofs.Deciding.{decides_too_long}
use Rattle.mpeg_scan.proofs.Reading.{CodeFields, TypeFields, none_in_piece_by, in_piece}
use Rattle.mpeg_scan.proofs.Stepping.{plain, at_true}
use Rattle.mpeg_scan.proofs.Feeding.{cut_here, cut_at}
use Rattle.mpeg_scan.proofs.Stopping.{stopped_by, stopped_more}

-- the scanner after a byte that ends nothing, and after a run of them
abbrev advanced : Scanner → ℕ → Scanner
advanced c x = record c { at = c.at + 1; back1 = x; back2 = c.back1; back3 = c.back2; back4 = c.back3; back5 = c.back4 }

abbrev pub run_through : Scanner → List ℕ → Scanner
run_through c [] = c
run_through c (x ∷ xs) = run_through (advanced c x) xs

advances : (c : Scanner) (x : ℕ) → Advances c (advanced c x) x
advances c x =
    record {
      at = refl;
      back1 = refl;
      back2 = refl;
      back3 = refl;
      back4 = refl;
      back5 = refl;
      opened = refl;
      from = refl;
      code = refl;
      kind = refl;
      refused = refl;
    }

lacks_rest : (v x : ℕ) (xs : List ℕ) → Lacks v (x ∷ xs) → Lacks v xs
lacks_rest v x xs h k lt = h (suc k) (omega arith)

lacks_first : (v x : ℕ) (xs : List ℕ) → Lacks v (x ∷ xs) → x ≢ v
lacks_first v x xs h = h 0 (omega arith)

-- Where a run ends nothing, its first byte ends nothing, nor does what is behind that.
record QuietStep (c : Scanner) (x : ℕ) (xs : List ℕ) : Type 0 where
  no_code : CodeFields c → ⊥
  no_type : TypeFields c → ⊥
  later : IsQuiet (advanced c x) xs

quiet_step : (c : Scanner) (x : ℕ) (xs : List ℕ) → IsQuiet c (x ∷ xs) → QuietStep c x xs
quiet_step c x xs (opened, inl h) = record {
  no_code = λ f. h.1 f.1;
  no_type = λ f. h.1 f.3;
  later = (opened, inl (lacks_first 0 x xs h.2, h.0, lacks_rest 0 x xs h.2));
}
quiet_step c x xs (opened, inr h) = record {
  no_code = λ f. h.0 f.2;
  no_type = λ f. h.2 f.2;
  later = (opened, inr (lacks_first 1 x xs h.3, h.0, h.1, lacks_rest 1 x xs h.3));
}

pub read_run : (c : Scanner) (run s : List ℕ) (p : List Piece) → IsQuiet c run → c.at + length run ≤ max_stream
    → HasRead c s p → HasRead (run_through c run) (s ++ run) p
read_run c [] s p quiet fits r = subst (λ S. HasRead c S p) (sym (append-nil s)) r
read_run c (x ∷ xs) s p quiet fits r =
    let now = quiet_step c x xs quiet in
    let one = plain c (advanced c x) x (none_in_piece_by c x (omega arith) quiet.0 (λ h. absurd (now.no_code h))
    (λ h. absurd (now.no_type h))) (advances c x) (λ h. absurd (now.no_code h)) now.no_type s p r in
    subst (λ S. HasRead (run_through (advanced c x) xs) S p) (append_assoc s (x ∷ []) xs)
    (read_run (advanced c x) xs (s ++ x ∷ []) p now.later (omega arith) one)

-- what the run leaves alone
record Kept (c d : Scanner) : Type 0 where
  opened : d.opened ≡ c.opened
  from : d.from ≡ c.from
  code : d.code ≡ c.code
  kind : d.kind ≡ c.kind
  refused : d.refused ≡ c.refused

run_keeps : (c : Scanner) (run : List ℕ) → Kept c (run_through c run)
run_keeps c [] = record { opened = refl; from = refl; code = refl; kind = refl; refused = refl }
run_keeps c (x ∷ xs) =
    let k = run_keeps (advanced c x) xs in
    record { opened = k.opened; from = k.from; code = k.code; kind = k.kind; refused = k.refused }

-- one scanner for another of the same fields
pub record Skips (old new : Scanner) (run : List ℕ) : Type 0 where
  pub at : new.at ≡ old.at + length run
  pub back1 : new.back1 ≡ get_or run (length run - 1) 0
  pub back2 : new.back2 ≡ get_or run (length run - 2) 0
  pub back3 : new.back3 ≡ get_or run (length run - 3) 0
  pub back4 : new.back4 ≡ get_or run (length run - 4) 0
  pub back5 : new.back5 ≡ get_or run (length run - 5) 0
  pub opened : new.opened ≡ old.opened
  pub from : new.from ≡ old.from
  pub code : new.code ≡ old.code
  pub kind : new.kind ≡ old.kind
  pub refused : new.refused ≡ old.refused

back_of_run : (s run : List ℕ) (j : ℕ) → 1 ≤ j → j ≤ length run → get_or run (length run - j) 0 ≡ back (s ++ run) j
back_of_run s run j one le =
    sym (get_or-append-add s run (length run - j) 0)
    ∙ (ap (λ l. get_or l (length s + (length run - j)) 0) (sym (append-nil (s ++ run)))
    ∙ at_back (s ++ run) [] (length s + (length run - j)) j (omega (arith, length-append s run)) one)

pub skips : (c d : Scanner) (run : List ℕ) → IsQuiet c run → 5 ≤ length run → c.at + length run ≤ max_stream
    → Skips c d run → (s : List ℕ) (p : List Piece) → HasRead c s p → HasRead d (s ++ run) p
skips c d run quiet five fits skip s p r =
    let r' = read_run c run s p quiet fits r in
    let k = run_keeps c run in
    let h = in_piece (run_through c run) (s ++ run) p r' (k.opened ∙ quiet.0) in
    let from : (run_through c run).from ≡ d.from = k.from ∙ sym skip.from in
    record {
      live = skip.refused ∙ (sym k.refused ∙ r'.live);
      at = skip.at ∙ (let a = r.at in omega (arith, length-append s run));
      bounded = r'.bounded;
      back1 = skip.back1 ∙ back_of_run s run 1 (omega arith) (omega arith);
      back2 = skip.back2 ∙ back_of_run s run 2 (omega arith) (omega arith);
      back3 = skip.back3 ∙ back_of_run s run 3 (omega arith) (omega arith);
      back4 = skip.back4 ∙ back_of_run s run 4 (omega arith) (omega arith);
      back5 = skip.back5 ∙ back_of_run s run 5 (omega arith) (omega arith);
      undecided = r'.undecided;
      place = at_true d.opened _ _ (skip.opened ∙ quiet.0) (record {
        opener = h.opener;
        stands = h.stands;
        last = h.last;
        code = skip.code ∙ (sym k.code ∙ h.code);
        kind = λ known. skip.kind ∙ (sym k.kind ∙ h.kind known);
        head = h.head;
        pieces = λ rest. subst (λ f. pieces_of ((s ++ run) ++ rest)
            ≡ p ++ pieces_from ((s ++ run) ++ rest) h.opener f
            (openers_from ((s ++ run) ++ rest) (length (s ++ run) - 3))) from (h.pieces rest);
      });
    }

lacks_take : (v : ℕ) (run : List ℕ) (n : ℕ) → n ≤ length run → Lacks v run → Lacks v (take n run)
lacks_take v run n le h k lt =
    let l : k < n = omega (arith, length-take-le n run le) in λ e. h k (omega arith) (sym (get_or-take n run k 0 l) ∙ e)

quiet_take : (c : Scanner) (run : List ℕ) (n : ℕ) → n ≤ length run → IsQuiet c run → IsQuiet c (take n run)
quiet_take c run n le (opened, inl h) = (opened, inl (h.0, h.1, lacks_take 0 run n le h.2))
quiet_take c run n le (opened, inr h) = (opened, inr (h.0, h.1, h.2, lacks_take 1 run n le h.3))

-- the byte past the limit stands in the run
pub skips_too_far : (c : Scanner) (run : List ℕ) → IsQuiet c run → c.at ≤ max_stream → max_stream < c.at + length run
    → (s : List ℕ) (p : List Piece) → HasRead c s p
    → ((rest : List ℕ) → Refuses ((s ++ run) ++ rest) TooLong) × HasStopped (s ++ run) TooLong p
skips_too_far c run quiet short far s p r =
    let n : ℕ = max_stream - c.at in
    let lt : n < length run = omega arith in
    let len : length (take n run) ≡ n = length-take-le n run (omega arith) in
    let r' = read_run c (take n run) s p (quiet_take c run n (omega arith) quiet) (omega arith) r in
    let full : length (s ++ take n run) ≡ max_stream = (let a = r.at in omega (arith, length-append s (take n run))) in
    let decides = decides_too_long (s ++ take n run) (get_or run n 0) r'.undecided full in (
      λ rest. subst (λ S. Refuses S TooLong) (cut_at s run rest n lt) (decides (drop (n + 1) run ++ rest)).0,
      subst (λ S. HasStopped S TooLong p) (cut_here s run n lt)
          (stopped_more _ (drop (n + 1) run) TooLong p
          (stopped_by (run_through c (take n run)) (s ++ take n run) (get_or run n 0) TooLong p r' decides)),
    )
