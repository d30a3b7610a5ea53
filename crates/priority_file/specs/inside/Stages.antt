-- The same reading stage by stage, for the functions that each do one stage.
use Rattle.std.specs.Prelude.{ℕ, ◌≡◌, nat_lt, List, [], ◌∷◌, ◌++◌, length, Option, Some, None, Result, Ok, Err}
use Rattle.std.specs.Prelude.{if◌then◌else◌}
use Rattle.toml.specs.Data.{Members}
use Rattle.pet_base.specs.declared.limits.TheConstants.{MAX_PRIORITY_FILE}
use Rattle.priority_file.specs.declared.fault.PriorityFault.{PriorityFault}
use Rattle.priority_file.specs.declared.fault.PriorityFault.TheVariants as fault
use Rattle.priority_file.specs.Priority.{Priorities}
use Rattle.priority_file.specs.Document.{document, has_unknown_key, misses_key}
use Rattle.priority_file.specs.Draft.{FileText, file_text}
use Rattle.priority_file.specs.Refusals.{first_of, number_rows, layer_rows, priorities_of_text}

abbrev pub answer : {A : Type 0} → Option PriorityFault → Result A PriorityFault → Result A PriorityFault
answer None read = read
answer (Some f) read = Err f

abbrev pub read_draft : FileText → Result Priorities PriorityFault
read_draft file = answer (first_of (number_rows file ++ layer_rows file)) (Ok (priorities_of_text file))

abbrev pub read_typed : Option FileText → Result Priorities PriorityFault
read_typed None = Err fault.WrongType
read_typed (Some file) = read_draft file

abbrev pub read_members : Members → Result Priorities PriorityFault
read_members doc =
    answer (first_of ((has_unknown_key doc, fault.UnknownKey) ∷ (misses_key doc, fault.MissingKey) ∷ []))
    (read_typed (file_text doc))

abbrev pub read_document : Option Members → Result Priorities PriorityFault
read_document None = Err fault.Text
read_document (Some doc) = read_members doc

unfoldable pub read_bytes : List ℕ → Result Priorities PriorityFault
read_bytes bytes =
    if nat_lt MAX_PRIORITY_FILE (length bytes) then Err fault.Long else read_document (document bytes)

-- what a function returned is what was to be read, unless memory ran out
abbrev pub Reads : Result Priorities PriorityFault → Result Priorities PriorityFault → Type 0
Reads (Ok p) read = read ≡ Ok p
Reads (Err fault.NoMemory) read = Unit {0}
Reads (Err f) read = read ≡ Err f

-- what a function returned, seen by view, is the typed value, unless memory ran out
abbrev pub Gives : {X Y : Type 0} → (X → Y) → Result X PriorityFault → Option Y → Type 0
Gives view (Ok x) read = read ≡ Some (view x)
Gives view (Err fault.NoMemory) read = Unit {0}
Gives view (Err fault.WrongType) read = read ≡ None
Gives view (Err _) read = ⊥
