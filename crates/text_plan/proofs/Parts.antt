-- The parts of a plan file: lines, words and numbers.
use Rattle.std.proofs.Common.{◌≡◌, ◌≢◌, ℕ, ◌+◌, ◌-◌, List, [], ◌∷◌, ◌++◌, length, take, drop, append_assoc, refl}
use Rattle.std.proofs.Common.{sym, ap, ◌∙◌, Bool, true, false, arith}
use Rattle.std.specs.Prelude.{Option, Some, None, Result, Ok, Err, option_map}
use Rattle.std.specs.Prelude.{if◌then◌else◌}
use Rattle.std.proofs.lemmas.List.{take_all, length-drop}
use Rattle.text_plan.specs.declared.plan_file.Repeat.{Repeat}
use Rattle.text_plan.specs.declared.plan_file.PlanFault.{PlanFault}
use Rattle.text_plan.specs.declared.plan_file.PlanFault.TheVariants.{Text, NoMemory}
use Rattle.text_cuts.specs.laws.CutLaws.{parts_some}
use Rattle.text_cuts.specs.Cuts.{split_at, lines_of}
use Rattle.text_plan.specs.PlanFile.{repeat_in, repeats_in}
use Rattle.text_plan.specs.PlanFile.{behind_lengths, repeats_of_line, is_lengths_line, then_lists, with_line}
use Rattle.text_plan.specs.PlanFile.{behind_lists, lists_from, lists_of, IsRefused}

-- the repeats that were read, and those of the words ahead
abbrev pub repeats_ahead : List Repeat → Option (List ℕ) → Option (List Repeat)
repeats_ahead list None = Some list
repeats_ahead list (Some words) = option_map (λ later. list ++ later) (repeats_in (split_at 32 words))

abbrev pub size_ahead : Option (List ℕ) → ℕ
size_ahead None = 0
size_ahead (Some words) = length words + 1

-- a word of three parts or more
pub three_parts : (word size behind times more : List ℕ) → split_at 120 word ≡ size ∷ split_at 120 behind
    → split_at 120 behind ≡ times ∷ split_at 120 more → None ≡ repeat_in (split_at 120 word)
three_parts word size behind times more first second =
    let third = parts_some 120 [] more in
    sym (ap repeat_in (first ∙ ap (λ p. size ∷ p) (second ∙ ap (λ p. times ∷ p) third.2)))

behind_none : (r : Result (List (List Repeat)) ℕ) → r ≡ behind_lists [] r
behind_none (Ok lists) = refl
behind_none (Err line) = refl

-- nothing is read yet
pub lists_begun : (bytes : List ℕ) → lists_of bytes ≡ behind_lists [] (lists_from 1 (lines_of bytes))
unfolding lists_of
lists_begun bytes = behind_none (lists_from 1 (lines_of bytes))

-- a line that lists nothing
pub line_skipped : (lists : List (List Repeat)) (number : ℕ) (line : List ℕ) (later : Result (List (List Repeat)) ℕ)
    → is_lengths_line line ≡ false → behind_lists lists (with_line number line later) ≡ behind_lists lists later
line_skipped lists number line later other =
    ap (λ (b : Bool). behind_lists lists (if b then then_lists number (repeats_of_line line) later else later)) other

-- the part of a line that is read
behind_word : (line : List ℕ) → take (length line - 7) (drop 7 line) ≡ drop 7 line
behind_word line = take_all (length line - 7) (drop 7 line) (omega (arith, length-drop 7 line))

one_list : (lists : List (List Repeat)) (list : List Repeat) (number : ℕ) (later : Result (List (List Repeat)) ℕ)
    → behind_lists lists (then_lists number (Some list) later) ≡ behind_lists (lists ++ list ∷ []) later
one_list lists list number (Ok later) = ap Ok (sym (append_assoc lists (list ∷ []) later))
one_list lists list number (Err line) = refl

with_repeats : (number : ℕ) (line : List ℕ) (later : Result (List (List Repeat)) ℕ)
    (repeats read : Option (List Repeat)) → is_lengths_line line ≡ true
    → read ≡ behind_lengths (take (length line - 7) (drop 7 line)) → read ≡ repeats
    → with_line number line later ≡ then_lists number repeats later
with_repeats number line later repeats read starts is same =
    ap (λ (b : Bool). if b then then_lists number (repeats_of_line line) later else later) starts
    ∙ ap (λ (r : Option (List Repeat)). then_lists number r later)
    (sym (sym same ∙ (is ∙ ap behind_lengths (behind_word line))))

-- a line whose list was read, and one of another form
pub line_read : (lists : List (List Repeat)) (number : ℕ) (line : List ℕ) (later : Result (List (List Repeat)) ℕ)
    (list : List Repeat) (read : Option (List Repeat)) → is_lengths_line line ≡ true
    → read ≡ behind_lengths (take (length line - 7) (drop 7 line)) → read ≡ Some list
    → behind_lists lists (with_line number line later) ≡ behind_lists (lists ++ list ∷ []) later
line_read lists number line later list read starts is some =
    ap (behind_lists lists) (with_repeats number line later (Some list) read starts is some)
    ∙ one_list lists list number later

pub line_refused : (number : ℕ) (line : List ℕ) (later : Result (List (List Repeat)) ℕ) (read : Option (List Repeat))
    → is_lengths_line line ≡ true → read ≡ behind_lengths (take (length line - 7) (drop 7 line)) → read ≡ None
    → with_line number line later ≡ Err number
line_refused number line later read starts is none = with_repeats number line later None read starts is none

-- a line of another form
pub refused_at : (bytes : List ℕ) (lists : List (List Repeat)) (number : ℕ) (line rest behind : List ℕ)
    (fault : PlanFault)
    → lists_of bytes ≡ behind_lists lists (lists_from (number + 1) (lines_of rest))
    → lines_of rest ≡ line ∷ lines_of behind
    → (fault ≢ NoMemory
    → (fault ≡ Text (number + 1))
    × ((later : Result (List (List Repeat)) ℕ) → with_line (number + 1) line later ≡ Err (number + 1)))
    → IsRefused bytes fault
refused_at bytes lists number line rest behind NoMemory so is told = tt
refused_at bytes lists number line rest behind (Text n) so is told =
    let t = told (λ e. absurd cc) in
    let same : n ≡ number + 1 = grind (arith, t.0) in
    so ∙ ap (λ p. behind_lists lists (lists_from (number + 1) p)) is
    ∙ ap (behind_lists lists) (t.1 (lists_from (number + 1 + 1) (lines_of behind))) ∙ ap Err (sym same)
