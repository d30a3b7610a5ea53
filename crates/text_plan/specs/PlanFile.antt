-- The plan file that `check` reads: lines, of which those that begin with `lengths` list stripe lengths. This project's
-- own format.
use Rattle.std.specs.Prelude.{◌≡◌, ⊤, ℕ, ◌+◌, ◌==◌, nat_eq, Bool, if◌then◌else◌, List, [], ◌∷◌, ◌++◌, drop, Option}
use Rattle.std.specs.Prelude.{None, Some, option_map, Result, Ok, Err, codes}
use Rattle.std.specs.List.{starts_with}
use Rattle.text_cuts.specs.Cuts.{split_at, lines_of}
use Rattle.text_lines.specs.Digits.{number_up_to}
use Rattle.text_plan.specs.declared.plan_file.Repeat.{Repeat}
use Rattle.text_plan.specs.declared.plan_file.PlanFault.{PlanFault}
use Rattle.text_plan.specs.declared.plan_file.PlanFault.TheVariants.{Text, NoMemory}

-- a number from 1 to 4,294,967,295 without a leading zero
abbrev pub number_of : List ℕ → Option ℕ
number_of [] = None
number_of (c ∷ digits) = if c == 48 then None else number_up_to 4294967295 (c ∷ digits)

abbrev pub repeat_of : Option ℕ → Option ℕ → Option Repeat
repeat_of None times = None
repeat_of (Some size) None = None
repeat_of (Some size) (Some times) = Some (record { length = size; times = times })

-- `LENGTHxTIMES`
abbrev pub repeat_in : List (List ℕ) → Option Repeat
repeat_in (size ∷ times ∷ []) = repeat_of (number_of size) (number_of times)
repeat_in _ = None

abbrev pub both_of : Option Repeat → Option (List Repeat) → Option (List Repeat)
both_of None rest = None
both_of (Some first) rest = option_map (λ repeats. first ∷ repeats) rest

-- each word is `LENGTHxTIMES`
abbrev pub repeats_in : List (List ℕ) → Option (List Repeat)
repeats_in [] = Some []
repeats_in (word ∷ words) = both_of (repeat_in (split_at 120 word)) (repeats_in words)

-- a line that is read
abbrev pub is_lengths_line : List ℕ → Bool
is_lengths_line line = starts_with nat_eq line (codes "lengths")

-- what stands behind `lengths`: one or more times a space and `LENGTHxTIMES`
abbrev pub behind_lengths : List ℕ → Option (List Repeat)
behind_lengths [] = None
behind_lengths (c ∷ words) = if c == 32 then repeats_in (split_at 32 words) else None

abbrev pub repeats_of_line : List ℕ → Option (List Repeat)
repeats_of_line line = behind_lengths (drop 7 line)

abbrev pub then_lists : ℕ → Option (List Repeat) → Result (List (List Repeat)) ℕ → Result (List (List Repeat)) ℕ
then_lists number None later = Err number
then_lists number (Some repeats) (Ok lists) = Ok (repeats ∷ lists)
then_lists number (Some repeats) (Err line) = Err line

-- a line in front of later ones; it has this number
abbrev pub with_line : ℕ → List ℕ → Result (List (List Repeat)) ℕ → Result (List (List Repeat)) ℕ
with_line number line later = if is_lengths_line line then then_lists number (repeats_of_line line) later else later

-- the lists of these lines, the first of which has this number; or the number of the first of another form
abbrev pub lists_from : ℕ → List (List ℕ) → Result (List (List Repeat)) ℕ
lists_from number [] = Ok []
lists_from number (line ∷ lines) = with_line number line (lists_from (number + 1) lines)

-- one list for each line that begins with `lengths`, or the first of those of another form, numbered from 1 over all
-- lines
unfoldable pub lists_of : List ℕ → Result (List (List Repeat)) ℕ
lists_of bytes = lists_from 1 (lines_of bytes)

-- lists that were read in front of those of later lines
abbrev pub behind_lists : List (List Repeat) → Result (List (List Repeat)) ℕ → Result (List (List Repeat)) ℕ
behind_lists lists (Ok later) = Ok (lists ++ later)
behind_lists lists (Err line) = Err line

-- what a refusal says of the bytes
abbrev pub IsRefused : List ℕ → PlanFault → Type 0
IsRefused bytes (Text line) = lists_of bytes ≡ Err line
IsRefused bytes NoMemory = ⊤
