-- How the reading of a plan file goes through printed lines (this project's own): past those of other words, and over a
-- line of lengths.
use Rattle.std.proofs.Common.{◌≡◌, ◌≢◌, ℕ, ◌+◌, ◌^◌, ◌<◌, ◌≤◌, Bool, true, false, not, List, [], ◌∷◌, ◌++◌, length, map}
use Rattle.std.proofs.Common.{Some, Ok, decimal, codes, refl, sym, ap, subst, ◌∙◌, arith, append_assoc, append-nil}
use Rattle.std.specs.Prelude.{◌==◌}
use Rattle.std.specs.List.{list_all, flat_map}
use Rattle.std.specs.Str.Parse.{AllDigits}
use Rattle.std.proofs.lemmas.Bool.{and_from, and_parts, not-true, not_from_false, ne_eqb, eq-eqb, cond-true, cond-false}
use Rattle.std.proofs.lemmas.List.Folds.{list_all-append}
use Rattle.std.proofs.lemmas.Str.Parse.{digit_from_value}
use Rattle.std.proofs.lemmas.Fmt.{decimal_is_IsNumeral}
use Rattle.text_plan.specs.declared.plan_file.Repeat.{Repeat}
use Rattle.text_plan.specs.PlanLines.{rows_of, row_text, lengths_text}
use Rattle.text_cuts.specs.Cuts.{split_from, split_at, without_empty_end, lines_of}
use Rattle.text_plan.specs.PlanFile.{number_of, repeat_of, repeat_in}
use Rattle.text_plan.specs.PlanFile.{both_of, repeats_in, is_lengths_line, repeats_of_line, then_lists, lists_from}
use Rattle.text_plan.specs.PlanText.{repeat_of_row}
use Rattle.text_plan.specs.laws.NumberLaws.{number_back}
use Rattle.text_plan.specs.laws.RowLaws.{AllFit, RowsFit, rows_fit}

-- none of the bytes has this value
abbrev pub lacks : ℕ → List ℕ → Bool
lacks mark bytes = list_all (λ b. not (b == mark)) bytes

pub lacks-append : (mark : ℕ) (front bytes : List ℕ) → lacks mark front ≡ true → lacks mark bytes ≡ true
    → lacks mark (front ++ bytes) ≡ true
lacks-append mark front bytes before after =
    list_all-append (λ b. not (b == mark)) front bytes ∙ and_from _ _ before after

lacks-digits : (mark : ℕ) (digits : List ℕ) → ((c : ℕ) → 48 ≤ c → c ≤ 57 → c ≢ mark) → AllDigits 10 digits
    → lacks mark digits ≡ true
lacks-digits mark [] other all = refl
lacks-digits mark (c ∷ digits) other all =
    let here = digit_from_value c all.0 in
    and_from _ _ (not_from_false _ (ne_eqb c mark (other c (omega arith) (omega arith))))
    (lacks-digits mark digits other all.1)

pub lacks-decimal : (mark n : ℕ) → ((c : ℕ) → 48 ≤ c → c ≤ 57 → c ≢ mark) → n < 2 ^ 32 → lacks mark (decimal n) ≡ true
lacks-decimal mark n other small = lacks-digits mark (decimal n) other (decimal_is_IsNumeral n (omega arith)).0.1

-- a part without the byte is not cut
pub split_last : (mark : ℕ) (part bytes : List ℕ) → lacks mark bytes ≡ true
    → split_from mark part bytes ≡ (part ++ bytes) ∷ []
split_last mark part [] lacking = ap (λ p. p ∷ []) (sym (append-nil part))
split_last mark part (b ∷ bytes) lacking =
    let both = and_parts (not (b == mark)) (lacks mark bytes) lacking in
    cond-false (b == mark) (part ∷ split_from mark [] bytes) (split_from mark (part ++ b ∷ []) bytes)
    (not-true _ both.0)
    ∙ split_last mark (part ++ b ∷ []) bytes both.1
    ∙ ap (λ p. p ∷ []) (append_assoc part (b ∷ []) bytes)

-- and ends where the byte stands
pub split_first : (mark : ℕ) (part bytes rest : List ℕ) → lacks mark bytes ≡ true
    → split_from mark part (bytes ++ mark ∷ rest) ≡ (part ++ bytes) ∷ split_from mark [] rest
split_first mark part [] rest lacking =
    cond-true (mark == mark) (part ∷ split_from mark [] rest) (split_from mark (part ++ mark ∷ []) rest)
    (eq-eqb mark mark refl)
    ∙ ap (λ p. p ∷ split_from mark [] rest) (sym (append-nil part))
split_first mark part (b ∷ bytes) rest lacking =
    let both = and_parts (not (b == mark)) (lacks mark bytes) lacking in
    cond-false (b == mark) (part ∷ split_from mark [] (bytes ++ mark ∷ rest))
    (split_from mark (part ++ b ∷ []) (bytes ++ mark ∷ rest)) (not-true _ both.0)
    ∙ split_first mark (part ++ b ∷ []) bytes rest both.1
    ∙ ap (λ p. p ∷ split_from mark [] rest) (append_assoc part (b ∷ []) bytes)

-- from any line's number on the text lists this
abbrev pub Reads : List ℕ → List (List Repeat) → Type 0
Reads text lists = (number : ℕ) → lists_from number (lines_of text) ≡ Ok lists

line_first : (body rest : List ℕ) → 0 < length body → lacks 10 body ≡ true
    → lines_of (body ++ 10 ∷ rest) ≡ body ∷ lines_of rest
line_first [] rest some lacking = absurd (omega arith)
line_first (c ∷ body) rest some lacking = ap without_empty_end (split_first 10 [] (c ∷ body) rest lacking)

-- a line that does not begin with `lengths`
skip_line : (body rest : List ℕ) (lists : List (List Repeat)) → 0 < length body → lacks 10 body ≡ true
    → is_lengths_line body ≡ false → Reads rest lists → Reads (body ++ 10 ∷ rest) lists
skip_line body rest lists some lacking other reads number =
    ap (lists_from number) (line_first body rest some lacking)
    ∙ cond-false (is_lengths_line body) (then_lists number (repeats_of_line body)
    (lists_from (number + 1) (lines_of rest))) (lists_from (number + 1) (lines_of rest)) other
    ∙ reads (number + 1)

-- and one that does
take_line : (body rest : List ℕ) (repeats : List Repeat) (lists : List (List Repeat)) → 0 < length body
    → lacks 10 body ≡ true → is_lengths_line body ≡ true → repeats_of_line body ≡ Some repeats → Reads rest lists
    → Reads (body ++ 10 ∷ rest) (repeats ∷ lists)
take_line body rest repeats lists some lacking own listed reads number =
    ap (lists_from number) (line_first body rest some lacking)
    ∙ cond-true (is_lengths_line body) (then_lists number (repeats_of_line body)
    (lists_from (number + 1) (lines_of rest))) (lists_from (number + 1) (lines_of rest)) own
    ∙ ap (λ r. then_lists number r (lists_from (number + 1) (lines_of rest))) listed
    ∙ ap (then_lists number (Some repeats)) (reads (number + 1))

-- the reading goes past the text
abbrev pub Skips : List ℕ → Type 0
Skips text = (rest : List ℕ) (lists : List (List Repeat)) → Reads rest lists → Reads (text ++ rest) lists

pub skips-append : (text more : List ℕ) → Skips text → Skips more → Skips (text ++ more)
skips-append text more first second rest lists reads =
    subst (λ t. Reads t lists) (sym (append_assoc text more rest))
    (first (more ++ rest) lists (second rest lists reads))

pub skips-line : (body : List ℕ) → 0 < length body → lacks 10 body ≡ true → is_lengths_line body ≡ false
    → Skips (body ++ codes "\n")
skips-line body some lacking other rest lists reads =
    subst (λ t. Reads t lists) (sym (append_assoc body (10 ∷ []) rest))
    (skip_line body rest lists some lacking other reads)

-- a length and how often it stands
abbrev word_of : ℕ × ℕ → List ℕ
word_of row = decimal row.0 ++ codes "x" ++ decimal row.1

word_lacks : (mark : ℕ) (row : ℕ × ℕ) → ((c : ℕ) → 48 ≤ c → c ≤ 57 → c ≢ mark) → lacks mark (codes "x") ≡ true
    → row.0 < 2 ^ 32 → row.1 < 2 ^ 32 → lacks mark (word_of row) ≡ true
word_lacks mark row digits letter small few =
    lacks-append mark (decimal row.0 ++ codes "x") (decimal row.1)
    (lacks-append mark (decimal row.0) (codes "x") (lacks-decimal mark row.0 digits small) letter)
    (lacks-decimal mark row.1 digits few)

word_back : (row : ℕ × ℕ) → 0 < row.0 → row.0 < 2 ^ 32 → 0 < row.1 → row.1 < 2 ^ 32
    → repeat_in (split_at 120 (word_of row)) ≡ Some (repeat_of_row row)
word_back row some small often few =
    let digits : (c : ℕ) → 48 ≤ c → c ≤ 57 → c ≢ 120 = λ c low high e. omega arith in
    ap (λ w. repeat_in (split_at 120 w)) (append_assoc (decimal row.0) (codes "x") (decimal row.1))
    ∙ ap repeat_in (split_first 120 [] (decimal row.0) (decimal row.1) (lacks-decimal 120 row.0 digits small)
    ∙ ap (λ p. decimal row.0 ∷ p) (split_last 120 [] (decimal row.1) (lacks-decimal 120 row.1 digits few)))
    ∙ ap (λ s. repeat_of s (number_of (decimal row.1))) (number_back row.0 some small)
    ∙ ap (repeat_of (Some row.0)) (number_back row.1 often few)

-- the words behind `lengths` list the rows
words_back : (row : ℕ × ℕ) (rows : List (ℕ × ℕ)) (most : ℕ) → most < 2 ^ 32 → RowsFit most (row ∷ rows)
    → repeats_in (split_at 32 (word_of row ++ flat_map row_text rows)) ≡ Some (map repeat_of_row (row ∷ rows))
words_back row [] most few fit =
    let lacking = word_lacks 32 row (λ c low high e. omega arith) refl fit.1 (omega (arith, fit.3)) in
    ap repeats_in (ap (split_at 32) (append-nil (word_of row)) ∙ split_last 32 [] (word_of row) lacking)
    ∙ ap (λ r. both_of r (Some [])) (word_back row fit.0 fit.1 fit.2 (omega (arith, fit.3)))
words_back row (next ∷ rows) most few fit =
    let lacking = word_lacks 32 row (λ c low high e. omega arith) refl fit.1 (omega (arith, fit.3)) in
    ap repeats_in (split_first 32 [] (word_of row) (word_of next ++ flat_map row_text rows) lacking)
    ∙ ap (λ r. both_of r (repeats_in (split_at 32 (word_of next ++ flat_map row_text rows))))
    (word_back row fit.0 fit.1 fit.2 (omega (arith, fit.3)))
    ∙ ap (both_of (Some (repeat_of_row row))) (words_back next rows most few fit.4)

rows_lack : (rows : List (ℕ × ℕ)) (most : ℕ) → most < 2 ^ 32 → RowsFit most rows
    → lacks 10 (flat_map row_text rows) ≡ true
rows_lack [] most few fit = refl
rows_lack (row ∷ rows) most few fit =
    lacks-append 10 (word_of row) (flat_map row_text rows)
    (word_lacks 10 row (λ c low high e. omega arith) refl fit.1 (omega (arith, fit.3)))
    (rows_lack rows most few fit.4)

rows_read : (row : ℕ × ℕ) (rows : List (ℕ × ℕ)) (most : ℕ) (rest : List ℕ) (lists : List (List Repeat)) → most < 2 ^ 32
    → RowsFit most (row ∷ rows) → Reads rest lists
    → Reads (codes "lengths" ++ flat_map row_text (row ∷ rows) ++ codes "\n" ++ rest)
    (map repeat_of_row (row ∷ rows) ∷ lists)
rows_read row rows most rest lists few fit reads =
    let body : List ℕ = codes "lengths" ++ flat_map row_text (row ∷ rows) in
    let line : List (List Repeat) = map repeat_of_row (row ∷ rows) ∷ lists in
    subst (λ t. Reads t line) (sym (append_assoc body (10 ∷ []) rest))
    (take_line body rest (map repeat_of_row (row ∷ rows)) lists (omega arith)
    (rows_lack (row ∷ rows) most few fit) refl (words_back row rows most few fit) reads)

-- a line of lengths lists its rows
pub lengths_read : (sizes rest : List ℕ) (lists : List (List Repeat)) → 0 < length sizes → length sizes < 2 ^ 32
    → AllFit sizes → Reads rest lists → Reads (lengths_text sizes ++ rest) (map repeat_of_row (rows_of sizes) ∷ lists)
unfolding lengths_text
lengths_read sizes rest lists some few fit reads =
    go (rows_of sizes) (rows_fit sizes fit).1 ((rows_fit sizes fit).0 some)
  where
    go : (rows : List (ℕ × ℕ)) → RowsFit (length sizes) rows → 0 < length rows
        → Reads (codes "lengths" ++ flat_map row_text rows ++ codes "\n" ++ rest) (map repeat_of_row rows ∷ lists)
    go [] rows_are none = absurd (omega arith)
    go (row ∷ rows) rows_are more = rows_read row rows (length sizes) rest lists few rows_are reads
