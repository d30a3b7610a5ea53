-- What callers know of a session: the length of its number, how many tables it has, that each has the layers of the
-- priority and
-- a word, and how the layers of an accepted priority file are named. This project's own.
use Rattle.std.proofs.Common.{◌≡◌, ℕ, ◌<◌, ◌≤◌, Bool, true, false, not, ◌||◌, List, [], ◌∷◌, map, length, replicate}
use Rattle.std.proofs.Common.{Option, Some, None, refl, ◌∙◌, arith, if◌then◌else◌}
use Rattle.std.specs.Prelude.{All, bytes_eq}
use Rattle.std.specs.List.{list_any, range_with_len}
use Rattle.std.proofs.lemmas.Bool.{ltb-false}
use Rattle.std.proofs.lemmas.List.{length-append, length-map, length-replicate, length-take}
use Rattle.std.proofs.lemmas.List.Elements.{All-cons, All-nil}
use Rattle.std.proofs.lemmas.List.FromFn.{length-map-range_with_len}
use Rattle.pet_base.specs.declared.limits.TheConstants.{MAX_GROUPS, MAX_LAYERS, MAX_SESSION}
use Rattle.pet_base.specs.declared.Kind.TheVariants.{D}
use Rattle.sha2.specs.Sha256.{sha256}
use Rattle.mpeg_scan.specs.declared.piece.Piece.{Piece}
use Rattle.priority_file.specs.declared.fault.PriorityFault.{PriorityFault}
use Rattle.priority_file.specs.Bounds.{packets_of, listed_kinds, is_name, has_repeat, has_bad_name, has_too_many_layers}
use Rattle.priority_file.specs.Kinds.{index_of, lists}
use Rattle.priority_file.specs.Draft.{LayerText, FileText, text_in}
use Rattle.priority_file.specs.Priority.{Rule, Priorities, layer_of}
use Rattle.priority_file.specs.Refusals.{Row, rows, first_of, refusal_of, rule_of, priorities_of, priorities_of_text}
use Rattle.layer_split.specs.declared.cut.Run.{Run}
use Rattle.layer_split.specs.Groups.{groups_of}
use Rattle.layer_split.specs.Layers.{cut_of, lengths_of, layer_length}
use Rattle.layer_split.specs.Runs.{runs_of}
use Rattle.layer_split.specs.Splitting.{cuts_of}
use Rattle.stripe_plan.specs.declared.layer.LayerSize.{LayerSize}
use Rattle.stripe_plan.specs.Layers.{words_of, needs_of}
use Rattle.stripe_plan.specs.Sizes.{Sizes}
use Rattle.stripe_plan.specs.laws.ByteLaws.{length-planned}
use Rattle.packet_frame.specs.declared.format.Format.{Format}
use Rattle.stream_session.specs.laws.FitLaws.{few_groups_in, few_groups_within}
use Rattle.stream_session.specs.Number.{hashed, session_number}
use Rattle.stream_session.specs.Refusals.{session_fault, session_fault_in, session_fault_within}
use Rattle.stream_session.specs.Tables.{sizes_with, sizes_of, table_of, tables_of, table_of_in, tables_of_in}

-- a session number has no more than eight bytes
pub number_short : (priority stream : List ℕ) → length (session_number priority stream) ≤ 8
unfolding session_number
number_short priority stream = omega (arith, length-take 8 (sha256 (hashed priority stream)))

-- as many tables as groups, in a format
pub length-tables_in : (t : Format) (priority : Priorities) (groups : List (List Piece))
    → length (tables_of_in t priority (cuts_of priority groups)) ≡ length groups
length-tables_in t priority groups =
    let tables = length-map (cuts_of priority groups) (table_of_in t priority) in
    let cuts = length-map groups (cut_of (layer_of priority) (length priority.layers)) in
    omega (arith, tables, cuts)

pub tables_few_in : (t : Format) (limit : ℕ) (priority : Priorities) (pieces : List Piece)
    → session_fault_in t limit priority pieces ≡ None
    → length (tables_of_in t priority (cuts_of priority (groups_of pieces))) ≤ MAX_GROUPS
tables_few_in t limit priority pieces e =
    omega (arith, length-tables_in t priority (groups_of pieces), few_groups_in t limit priority pieces e)

-- and in the one that is written today
pub length-tables : (priority : Priorities) (groups : List (List Piece))
    → length (tables_of priority (cuts_of priority groups)) ≡ length groups
length-tables priority groups =
    let tables = length-map (cuts_of priority groups) (table_of priority) in
    let cuts = length-map groups (cut_of (layer_of priority) (length priority.layers)) in
    omega (arith, tables, cuts)

-- no more than a session may have
pub tables_few_within : (limit : ℕ) (priority : Priorities) (pieces : List Piece)
    → session_fault_within limit priority pieces ≡ None
    → length (tables_of priority (cuts_of priority (groups_of pieces))) ≤ MAX_GROUPS
tables_few_within limit priority pieces e =
    omega (arith, length-tables priority (groups_of pieces), few_groups_within limit priority pieces e)

pub tables_few : (priority : Priorities) (pieces : List Piece) → session_fault priority pieces ≡ None
    → length (tables_of priority (cuts_of priority (groups_of pieces))) ≤ MAX_GROUPS
tables_few priority pieces e = tables_few_within MAX_SESSION priority pieces e

length-sizes_with : (lengths : List ℕ) (rules : List Rule) → length lengths ≡ length rules
    → length (sizes_with lengths rules) ≡ length rules
length-sizes_with [] [] e = refl
length-sizes_with [] (rule ∷ rules) e = absurd (omega (arith, e))
length-sizes_with (l ∷ lengths) [] e = absurd (omega (arith, e))
length-sizes_with (l ∷ lengths) (rule ∷ rules) e =
    let rest = length-sizes_with lengths rules (omega (arith, e)) in omega (arith, rest)

-- a cut of so many layers has a size for each layer
pub length-sizes_of : (priority : Priorities) (group : List Piece)
    → length (sizes_of priority (cut_of (layer_of priority) (length priority.layers) group)) ≡ length priority.layers
length-sizes_of priority group =
    length-sizes_with (cut_of (layer_of priority) (length priority.layers) group).lengths priority.layers
    (length-map-range_with_len _ 0 (length priority.layers))

-- each table of a stream's groups has the layers of the priority
pub tables_layered : (priority : Priorities) (groups : List (List Piece))
    → All (λ t. length t.layers ≡ length priority.layers) (tables_of priority (cuts_of priority groups))
tables_layered priority [] = All-nil (λ (t : Sizes). length t.layers ≡ length priority.layers)
tables_layered priority (group ∷ groups) =
    All-cons (λ (t : Sizes). length t.layers ≡ length priority.layers)
    (table_of priority (cut_of (layer_of priority) (length priority.layers) group))
    (tables_of priority (cuts_of priority groups))
    (length-sizes_of priority group) (tables_layered priority groups)

pub tables_layered_in : (t : Format) (priority : Priorities) (groups : List (List Piece))
    → All (λ table. length table.layers ≡ length priority.layers) (tables_of_in t priority (cuts_of priority groups))
tables_layered_in t priority [] = All-nil (λ (table : Sizes). length table.layers ≡ length priority.layers)
tables_layered_in t priority (group ∷ groups) =
    let cut = cut_of (layer_of priority) (length priority.layers) group in
    All-cons (λ (table : Sizes). length table.layers ≡ length priority.layers)
    (table_of_in t priority cut)
    (tables_of_in t priority (cuts_of priority groups))
    (length-planned t.bounds (sizes_of priority cut) ∙ length-sizes_of priority group)
    (tables_layered_in t priority groups)

-- a first layer with bytes has a word
first_word : (bytes : ℕ) (lengths : List ℕ) (rule : Rule) (rules : List Rule) → 0 < bytes
    → 0 < length (needs_of (sizes_with (bytes ∷ lengths) (rule ∷ rules)))
first_word bytes lengths rule rules some =
    let size : LayerSize = record { length = bytes; need = rule.need } in
    let words : 0 < words_of size = omega (arith, some) in
    omega (
      arith,
      words,
      length-append (replicate (words_of size) rule.need) (needs_of (sizes_with lengths rules)),
      length-replicate (words_of size) rule.need,
    )

-- layer 0 has the run table
rules_word : (runs : List Run) (rules : List Rule) → 0 < length rules
    → 0 < length (needs_of (sizes_with (lengths_of runs (length rules)) rules))
rules_word runs [] some = absurd (omega (arith, some))
rules_word runs (rule ∷ rules) some =
    let table : 0 < layer_length runs 0 = omega arith in
    first_word (layer_length runs 0) (map (layer_length runs) (range_with_len 1 (length rules))) rule rules table

abbrev HasWord : Sizes → Type 0
HasWord table = 0 < length (needs_of table.layers)

-- so each table of a priority with layers has a word
pub tables_some : (priority : Priorities) (groups : List (List Piece)) → 0 < length priority.layers
    → All (λ t. 0 < length (needs_of t.layers)) (tables_of priority (cuts_of priority groups))
tables_some priority [] some = All-nil HasWord
tables_some priority (group ∷ groups) some =
    All-cons HasWord (table_of priority (cut_of (layer_of priority) (length priority.layers) group))
    (tables_of priority (cuts_of priority groups))
    (rules_word (runs_of (layer_of priority) group) priority.layers some) (tables_some priority groups some)

-- no row's test holds
abbrev AllFalse : List Row → Type 0
AllFalse [] = Unit {0}
AllFalse (row ∷ rows) = (row.0 ≡ false) × AllFalse rows

pub none_here : (b : Bool) (fault : PriorityFault) (rest : Option PriorityFault)
    → (if b then Some fault else rest) ≡ None → (b ≡ false) × (rest ≡ None)
none_here true fault rest e = absurd (cc)
none_here false fault rest e = (refl, e)

all_false : (rows : List Row) → first_of rows ≡ None → AllFalse rows
all_false [] e = tt
all_false (row ∷ rows) e = let both = none_here row.0 row.1 (first_of rows) e in (both.0, all_false rows both.1)

neither : (a b : Bool) → (a || b) ≡ false → (a ≡ false) × (b ≡ false)
neither false b e = (refl, e)
neither true b e = absurd (cc)

pub from_not : (b : Bool) → not b ≡ false → b ≡ true
from_not true e = refl
from_not false e = absurd (cc)

all_named : (packets : ℕ) (with_d : Bool) (layers : List LayerText)
    → list_any (λ l. not (is_name l.name)) layers ≡ false
    → All (λ rule. is_name rule.name ≡ true) (map (rule_of packets with_d) layers)
all_named packets with_d [] e = All-nil (λ (rule : Rule). is_name rule.name ≡ true)
all_named packets with_d (layer ∷ layers) e =
    let both = neither (not (is_name layer.name)) (list_any (λ (l : LayerText). not (is_name l.name)) layers) e in
    All-cons (λ (rule : Rule). is_name rule.name ≡ true) (rule_of packets with_d layer)
    (map (rule_of packets with_d) layers)
    (from_not (is_name layer.name) both.0) (all_named packets with_d layers both.1)

-- the layers of an accepted priority file: each has a name, and they are few
pub record AreNamed (rules : List Rule) : Type 0 where
  pub names : All (λ rule. is_name rule.name ≡ true) rules
  pub few : length rules ≤ MAX_LAYERS

text_named : (text : FileText) → has_bad_name text ≡ false → has_too_many_layers text ≡ false
    → AreNamed (priorities_of_text text).layers
text_named text named few =
    let packets : ℕ = packets_of text in
    let with_d : Bool = lists (index_of D) (listed_kinds text) in
    let none : list_any (λ (l : LayerText). not (is_name l.name)) text.layers ≡ false =
    (neither (list_any (λ (l : LayerText). not (is_name l.name)) text.layers)
    (has_repeat (λ l m. bytes_eq l.name m.name) text.layers) named).0 in
    record {
      names = all_named packets with_d text.layers none;
      few =
          omega (arith, length-map text.layers (rule_of packets with_d), ltb-false MAX_LAYERS (length text.layers) few);
    }

pub layers_named : (bytes : List ℕ) → refusal_of bytes ≡ None → AreNamed (priorities_of bytes).layers
unfolding refusal_of priorities_of
layers_named bytes e =
    let a = all_false (rows bytes) e in
    text_named (text_in bytes) a.1.1.1.1.1.1.1.0 a.1.1.1.1.1.1.1.1.1.1.1.0
