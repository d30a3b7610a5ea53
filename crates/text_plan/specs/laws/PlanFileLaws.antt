-- What callers may cite of a printed plan (this project's own): a plan file of it lists the lengths of its stripes.
use Rattle.std.proofs.Common.{◌≡◌, ℕ, ◌+◌, ◌/◌, ◌%◌, ◌^◌, ◌<◌, ◌≤◌, true, not, List, [], ◌∷◌, ◌++◌, length, All, Ok}
use Rattle.std.proofs.Common.{decimal, codes, refl, sym, subst, arith, append_assoc}
use Rattle.std.specs.Prelude.{◌==◌, nat_lt}
use Rattle.std.specs.List.{list_all}
use Rattle.std.proofs.lemmas.Bool.{and_from, and_parts, not-true, not_from_false, ne_eqb, ltb-false, false≢true}
use Rattle.std.proofs.lemmas.Bool.{cond_both}
use Rattle.std.proofs.lemmas.List.Elements.{All-head, All-tail}
use Rattle.pet_base.specs.declared.limits.TheConstants.{MAX_PACKETS, MAX_GROUPS}
use Rattle.priority_file.specs.Bounds.{is_name_byte, is_name}
use Rattle.priority_file.specs.Priority.{Rule, Priorities}
use Rattle.stripe_plan.specs.declared.layer.LayerSize.{LayerSize}
use Rattle.stripe_plan.specs.Layers.{needs_of, plan_ends, bound_of, count_of}
use Rattle.stripe_plan.specs.Sizes.{Sizes, IsTable, datagram_length_of}
use Rattle.text_plan.specs.declared.plan_file.Repeat.{Repeat}
use Rattle.text_plan.specs.PlanLines.{hex_digit, hex_text, plan_session_text, plan_group_text, plan_layer_text}
use Rattle.text_plan.specs.PlanLines.{lengths_text, plan_lengths}
use Rattle.text_plan.specs.PlanFile.{lists_of}
use Rattle.text_plan.specs.PlanText.{layers_text, groups_text, plan_text, plan_lists}
use Rattle.text_plan.specs.laws.TableLaws.{words_few, length-plan_lengths, lengths_fit, ends_few, lengths_some}
use Rattle.text_plan.specs.laws.TableLaws.{NumbersFit, LayersFit, layers_fit, GroupFits, group_fits}
use Rattle.text_plan.specs.laws.ReadingLaws.{lacks, lacks-append, lacks-decimal, Reads, Skips, skips-append, skips-line}
use Rattle.text_plan.specs.laws.ReadingLaws.{lengths_read}

number_lacks : (n : ℕ) → n < 2 ^ 32 → lacks 10 (decimal n) ≡ true
number_lacks n small = lacks-decimal 10 n (λ c low high e. omega arith) small

-- a word and a number more
with_number : (front word : List ℕ) (n : ℕ) → lacks 10 front ≡ true → lacks 10 word ≡ true → n < 2 ^ 32
    → lacks 10 (front ++ word ++ decimal n) ≡ true
with_number front word n before own small =
    lacks-append 10 (front ++ word) (decimal n) (lacks-append 10 front word before own) (number_lacks n small)

digit_is_none : (n : ℕ) → not (hex_digit n == 10) ≡ true
digit_is_none n =
    not_from_false _ (ne_eqb (hex_digit n) 10
    (cond_both (nat_lt n 10) (48 + n) (87 + n) (λ c. c ≡ 10 → ⊥) (λ low e. omega arith) (λ high e. omega arith)))

hex_lacks : (bytes : List ℕ) → lacks 10 (hex_text bytes) ≡ true
hex_lacks [] = refl
hex_lacks (b ∷ bytes) = and_from _ _ (digit_is_none (b / 16)) (and_from _ _ (digit_is_none (b % 16)) (hex_lacks bytes))

session_skips : (session : List ℕ) (groups packets : ℕ) → groups < 2 ^ 32 → packets < 2 ^ 32
    → Skips (plan_session_text session groups packets)
session_skips session groups packets few small =
    let front : List ℕ = codes "session " ++ hex_text session in
    let middle : List ℕ = front ++ codes " groups " ++ decimal groups in
    skips-line (middle ++ codes " packets " ++ decimal packets) (omega arith)
    (with_number middle (codes " packets ") packets
    (with_number front (codes " groups ") groups (hex_lacks session) refl few) refl small)
    refl

group_skips : (group : ℕ) (layers : List LayerSize) → group < 2 ^ 32 → GroupFits layers
    → Skips (plan_group_text group (length (needs_of layers)) (length (plan_ends layers)) (bound_of layers)
    (datagram_length_of layers))
group_skips group layers small fits =
    let number : List ℕ = codes "group " ++ decimal group in
    let words : List ℕ = number ++ codes " words " ++ decimal (length (needs_of layers)) in
    let stripes : List ℕ = words ++ codes " stripes " ++ decimal (length (plan_ends layers)) in
    let bound : List ℕ = stripes ++ codes " bound " ++ decimal (bound_of layers) in
    skips-line (bound ++ codes " datagram " ++ decimal (datagram_length_of layers)) (omega arith)
    (with_number bound (codes " datagram ") (datagram_length_of layers)
    (with_number stripes (codes " bound ") (bound_of layers)
    (with_number words (codes " stripes ") (length (plan_ends layers))
    (with_number number (codes " words ") (length (needs_of layers)) (number_lacks group small) refl fits.words)
    refl fits.stripes)
    refl fits.bound)
    refl fits.datagram)
    refl

layer_skips : (layer : ℕ) (name : List ℕ) (size : LayerSize) (count : ℕ) → lacks 10 name ≡ true
    → NumbersFit layer size count → Skips (plan_layer_text layer name size count)
layer_skips layer name size count plain fits =
    let number : List ℕ = codes "layer " ++ decimal layer ++ codes " " in
    let named : List ℕ = number ++ name in
    let bytes : List ℕ = named ++ codes " bytes " ++ decimal size.length in
    let need : List ℕ = bytes ++ codes " need " ++ decimal size.need in
    skips-line (need ++ codes " count " ++ decimal count) (omega arith)
    (with_number need (codes " count ") count
    (with_number bytes (codes " need ") size.need
    (with_number named (codes " bytes ") size.length
    (lacks-append 10 number name
    (lacks-append 10 (codes "layer " ++ decimal layer) (codes " ") (number_lacks layer fits.number) refl) plain)
    refl fits.bytes)
    refl fits.need)
    refl fits.shown)
    refl

layers_skip : (layer : ℕ) (rules : List Rule) (sizes all : List LayerSize)
    → All (λ rule. lacks 10 rule.name ≡ true) rules → LayersFit layer sizes all
    → Skips (layers_text layer rules sizes all)
layers_skip layer [] sizes all plain fit = λ rest lists reads. reads
layers_skip layer (rule ∷ rules) [] all plain fit = λ rest lists reads. reads
layers_skip layer (rule ∷ rules) (size ∷ sizes) all plain fit =
    skips-append (plan_layer_text layer rule.name size (count_of all layer)) (layers_text (layer + 1) rules sizes all)
    (layer_skips layer rule.name size (count_of all layer)
    (All-head (λ (r : Rule). lacks 10 r.name ≡ true) rule rules plain) fit.0)
    (layers_skip (layer + 1) rules sizes all (All-tail (λ (r : Rule). lacks 10 r.name ≡ true) rule rules plain) fit.1)

-- the tables of an accepted session: each within its bounds, and with a word
pub record AreTables (tables : List Sizes) : Type 0 where
  pub bounds : All (λ table. IsTable table.packets table.layers) tables
  pub some_words : All (λ table. 0 < length (needs_of table.layers)) tables

groups_read : (group : ℕ) (rules : List Rule) (tables : List Sizes) → All (λ rule. lacks 10 rule.name ≡ true) rules
    → AreTables tables → group + length tables < 2 ^ 32 → Reads (groups_text group rules tables) (plan_lists tables)
groups_read group rules [] plain are few = λ number. refl
groups_read group rules (table ∷ tables) plain are few =
    let bounds : IsTable table.packets table.layers =
    All-head (λ (t : Sizes). IsTable t.packets t.layers) table tables are.bounds in
    let some : 0 < length (needs_of table.layers) =
    All-head (λ (t : Sizes). 0 < length (needs_of t.layers)) table tables are.some_words in
    let later : AreTables tables = record {
      bounds = All-tail (λ (t : Sizes). IsTable t.packets t.layers) table tables are.bounds;
      some_words = All-tail (λ (t : Sizes). 0 < length (needs_of t.layers)) table tables are.some_words;
    } in
    let first : List ℕ = plan_group_text group (length (needs_of table.layers)) (length (plan_ends table.layers))
    (bound_of table.layers) (datagram_length_of table.layers) in
    let shown : List ℕ = layers_text 0 rules table.layers table.layers in
    let line : List ℕ = lengths_text (plan_lengths table.layers) in
    let rest : List ℕ = groups_text (group + 1) rules tables in
    let lists : List (List Repeat) = plan_lists (table ∷ tables) in
    subst (λ t. Reads t lists) (sym (append_assoc (first ++ shown) line rest))
    (skips-append first shown
    (group_skips group table.layers (omega arith) (group_fits table.packets table.layers bounds))
    (layers_skip 0 rules table.layers table.layers plain (layers_fit table.packets table.layers bounds))
    (line ++ rest) lists
    (lengths_read (plan_lengths table.layers) rest (plan_lists tables)
    (lengths_some table.packets table.layers bounds some)
    (omega (
      arith,
      length-plan_lengths table.layers,
      ends_few table.packets table.layers bounds,
      words_few table.packets table.layers bounds,
    ))
    (lengths_fit table.packets table.layers bounds)
    (groups_read (group + 1) rules tables plain later (omega arith))))

-- an accepted name has no newline
bytes_plain : (name : List ℕ) → list_all is_name_byte name ≡ true → lacks 10 name ≡ true
bytes_plain [] all = refl
bytes_plain (c ∷ name) all =
    let both = and_parts (is_name_byte c) (list_all is_name_byte name) all in
    and_from _ _ (not_from_false _ (ne_eqb c 10 (λ e. false≢true (subst (λ b. is_name_byte b ≡ true) e both.0))))
    (bytes_plain name both.1)

pub name_plain : (name : List ℕ) → is_name name ≡ true → lacks 10 name ≡ true
name_plain name own = bytes_plain name (and_parts _ _ own).1

-- and at most 16 bytes
pub name_short : (name : List ℕ) → is_name name ≡ true → length name ≤ 16
name_short name own = ltb-false 16 (length name) (not-true _ (and_parts _ _ (and_parts _ _ own).0).1)

-- for callers: a plan file of a printed plan lists the stripes of each group
pub printed_lists : (session : List ℕ) (priority : Priorities) (tables : List Sizes)
    → All (λ rule. lacks 10 rule.name ≡ true) priority.layers → priority.packets ≤ MAX_PACKETS
    → length tables ≤ MAX_GROUPS → AreTables tables
    → lists_of (plan_text session priority tables) ≡ Ok (plan_lists tables)
unfolding plan_text lists_of
printed_lists session priority tables plain small few are =
    session_skips session (length tables) priority.packets (omega arith) (omega arith)
    (groups_text 0 priority.layers tables) (plan_lists tables)
    (groups_read 0 priority.layers tables plain are (omega arith))
    1
