-- What callers may cite of the length of a printed plan (this project's own): it is no more than a plan file may have.
use Rattle.std.proofs.Common.{◌≡◌, ℕ, ◌+◌, ◌*◌, ◌^◌, ◌<◌, ◌≤◌, List, [], ◌∷◌, ◌++◌, length, All, decimal, codes, arith}
use Rattle.std.specs.List.{flat_map}
use Rattle.std.proofs.lemmas.Fmt.{length-decimal-le}
use Rattle.std.proofs.lemmas.List.{length-append}
use Rattle.std.proofs.lemmas.List.Elements.{All-head, All-tail}
use Rattle.pet_base.specs.declared.limits.TheConstants.{MAX_PACKETS, MAX_GROUPS, MAX_PLAN_FILE}
use Rattle.priority_file.specs.Priority.{Rule, Priorities}
use Rattle.stripe_plan.specs.declared.layer.LayerSize.{LayerSize}
use Rattle.stripe_plan.specs.Layers.{needs_of, plan_ends, bound_of, count_of}
use Rattle.stripe_plan.specs.Sizes.{Sizes, IsTable, datagram_length_of}
use Rattle.text_plan.specs.PlanLines.{hex_text, plan_session_text, plan_group_text, plan_layer_text, rows_of, row_text}
use Rattle.text_plan.specs.PlanLines.{lengths_text, plan_lengths}
use Rattle.text_plan.specs.PlanText.{layers_text, group_text, groups_text, plan_text}
use Rattle.text_plan.specs.laws.RowLaws.{RowsFit, rows_fit}
use Rattle.text_plan.specs.laws.TableLaws.{length-plan_lengths, lengths_fit, NumbersFit, LayersFit, layers_fit}
use Rattle.text_plan.specs.laws.TableLaws.{GroupFits, group_fits}
use Rattle.text_plan.specs.laws.PlanRowLaws.{rows_few}

-- a word and a number of so many digits more
with_digits : (digits most words : ℕ) (front word : List ℕ) (n : ℕ) → 0 < digits → n < 10 ^ digits → n < 2 ^ 32
    → length front ≤ most → length word ≤ words → length (front ++ word ++ decimal n) ≤ most + words + digits
with_digits digits most words front word n some few small before own =
    omega (
      arith,
      length-append (front ++ word) (decimal n),
      length-append front word,
      length-decimal-le digits n some few (omega arith),
    )

with_number : (most words : ℕ) (front word : List ℕ) (n : ℕ) → length front ≤ most → length word ≤ words → n < 2 ^ 32
    → length (front ++ word ++ decimal n) ≤ most + words + 10
with_number most words front word n before own small =
    with_digits 10 most words front word n (omega arith) (omega arith) small before own

hex_length : (bytes : List ℕ) → length (hex_text bytes) ≡ 2 * length bytes
hex_length [] = omega arith
hex_length (b ∷ bytes) = omega (arith, hex_length bytes)

session_length : (session : List ℕ) (groups packets : ℕ) → length session ≤ 8 → groups < 2 ^ 32 → packets < 2 ^ 32
    → length (plan_session_text session groups packets) ≤ 62
session_length session groups packets short few small =
    let front : List ℕ = codes "session " ++ hex_text session in
    let middle : List ℕ = front ++ codes " groups " ++ decimal groups in
    let body : List ℕ = middle ++ codes " packets " ++ decimal packets in
    omega (
      arith,
      length-append body (codes "\n"),
      with_number 42 9 middle (codes " packets ") packets
          (with_number 24 8 front (codes " groups ") groups (omega (arith, hex_length session)) (omega arith) few)
          (omega arith) small,
    )

group_length : (group : ℕ) (layers : List LayerSize) → group < 2 ^ 32 → GroupFits layers
    → length (plan_group_text group (length (needs_of layers)) (length (plan_ends layers)) (bound_of layers)
    (datagram_length_of layers)) ≤ 90
group_length group layers small fits =
    let number : List ℕ = [] ++ codes "group " ++ decimal group in
    let words : List ℕ = number ++ codes " words " ++ decimal (length (needs_of layers)) in
    let stripes : List ℕ = words ++ codes " stripes " ++ decimal (length (plan_ends layers)) in
    let bound : List ℕ = stripes ++ codes " bound " ++ decimal (bound_of layers) in
    let body : List ℕ = bound ++ codes " datagram " ++ decimal (datagram_length_of layers) in
    omega (
      arith,
      length-append body (codes "\n"),
      with_number 69 10 bound (codes " datagram ") (datagram_length_of layers)
          (with_number 52 7 stripes (codes " bound ") (bound_of layers)
          (with_number 33 9 words (codes " stripes ") (length (plan_ends layers))
          (with_number 16 7 number (codes " words ") (length (needs_of layers))
          (with_number 0 6 [] (codes "group ") group (omega arith) (omega arith) small)
          (omega arith) fits.words)
          (omega arith) fits.stripes)
          (omega arith) fits.bound)
          (omega arith) fits.datagram,
    )

layer_length : (layer : ℕ) (name : List ℕ) (size : LayerSize) (count : ℕ) → length name ≤ 16
    → NumbersFit layer size count → length (plan_layer_text layer name size count) ≤ 84
layer_length layer name size count short fits =
    let number : List ℕ = [] ++ codes "layer " ++ decimal layer in
    let named : List ℕ = number ++ codes " " ++ name in
    let bytes : List ℕ = named ++ codes " bytes " ++ decimal size.length in
    let need : List ℕ = bytes ++ codes " need " ++ decimal size.need in
    let body : List ℕ = need ++ codes " count " ++ decimal count in
    let first : length number
    ≤ 16 = with_number 0 6 [] (codes "layer ") layer (omega arith) (omega arith) fits.number in
    let second : length named
    ≤ 33 = omega (arith, length-append (number ++ codes " ") name, length-append number (codes " ")) in
    omega (
      arith,
      length-append body (codes "\n"),
      with_number 66 7 need (codes " count ") count
          (with_number 50 6 bytes (codes " need ") size.need
          (with_number 33 7 named (codes " bytes ") size.length second (omega arith) fits.bytes)
          (omega arith) fits.need)
          (omega arith) fits.shown,
    )

layers_length : (layer : ℕ) (rules : List Rule) (sizes all : List LayerSize)
    → All (λ rule. length rule.name ≤ 16) rules → LayersFit layer sizes all
    → length (layers_text layer rules sizes all) ≤ 84 * length sizes
layers_length layer [] sizes all short fit = omega arith
layers_length layer (rule ∷ rules) [] all short fit = omega arith
layers_length layer (rule ∷ rules) (size ∷ sizes) all short fit =
    omega (
      arith,
      length-append (plan_layer_text layer rule.name size (count_of all layer))
          (layers_text (layer + 1) rules sizes all),
      layer_length layer rule.name size (count_of all layer)
          (All-head (λ (r : Rule). length r.name ≤ 16) rule rules short) fit.0,
      layers_length (layer + 1) rules sizes all (All-tail (λ (r : Rule). length r.name ≤ 16) rule rules short) fit.1,
    )

-- a row of no more stripes than a datagram has words
row_length : (row : ℕ × ℕ) → row.0 < 2 ^ 32 → row.1 < 10 ^ 5 → length (row_text row) ≤ 17
row_length row small few =
    with_digits 5 11 1 ([] ++ codes " " ++ decimal row.0) (codes "x") row.1 (omega arith) few (omega arith)
    (with_number 0 1 [] (codes " ") row.0 (omega arith) (omega arith) small) (omega arith)

rows_length : (most : ℕ) (rows : List (ℕ × ℕ)) → most < 10 ^ 5 → RowsFit most rows
    → length (flat_map row_text rows) ≤ 17 * length rows
rows_length most [] few fit = omega arith
rows_length most (row ∷ rows) few fit =
    omega (
      arith,
      length-append (row_text row) (flat_map row_text rows),
      row_length row fit.1 (omega (arith, fit.3)),
      rows_length most rows few fit.4,
    )

-- two rows for each layer
lengths_length : (packets : ℕ) (layers : List LayerSize) → IsTable packets layers
    → length (lengths_text (plan_lengths layers)) ≤ 1096
unfolding lengths_text
lengths_length packets layers table =
    let sizes : List ℕ = plan_lengths layers in
    let few : length sizes < 10 ^ 5 = omega (arith, length-plan_lengths layers, table.narrow) in
    let rows : List ℕ = flat_map row_text (rows_of sizes) in
    omega (
      arith,
      length-append (codes "lengths" ++ rows) (codes "\n"),
      length-append (codes "lengths") rows,
      rows_length (length sizes) (rows_of sizes) few (rows_fit sizes (lengths_fit packets layers table)).1,
      rows_few packets layers table,
      table.few_layers,
    )

-- a group takes 3,874 bytes at most, and a plan file has room for 4,096
group_text_length : (group packets : ℕ) (rules : List Rule) (layers : List LayerSize) → group < 2 ^ 32
    → All (λ rule. length rule.name ≤ 16) rules → IsTable packets layers → length (group_text group rules layers) ≤ 3874
group_text_length group packets rules layers small short table =
    let first : List ℕ = plan_group_text group (length (needs_of layers)) (length (plan_ends layers)) (bound_of layers)
    (datagram_length_of layers) in
    let shown : List ℕ = layers_text 0 rules layers layers in
    omega (
      arith,
      length-append (first ++ shown) (lengths_text (plan_lengths layers)),
      length-append first shown,
      group_length group layers small (group_fits packets layers table),
      layers_length 0 rules layers layers short (layers_fit packets layers table),
      lengths_length packets layers table,
      table.few_layers,
    )

groups_length : (group : ℕ) (rules : List Rule) (tables : List Sizes) → group + length tables < 2 ^ 32
    → All (λ rule. length rule.name ≤ 16) rules → All (λ table. IsTable table.packets table.layers) tables
    → length (groups_text group rules tables) ≤ 3874 * length tables
groups_length group rules [] few short are = omega arith
groups_length group rules (table ∷ tables) few short are =
    omega (
      arith,
      length-append (group_text group rules table.layers) (groups_text (group + 1) rules tables),
      group_text_length group table.packets rules table.layers (omega arith) short
          (All-head (λ (t : Sizes). IsTable t.packets t.layers) table tables are),
      groups_length (group + 1) rules tables (omega arith) short
          (All-tail (λ (t : Sizes). IsTable t.packets t.layers) table tables are),
    )

-- for callers: a printed plan is no longer than a plan file may be
pub printed_short : (session : List ℕ) (priority : Priorities) (tables : List Sizes) → length session ≤ 8
    → priority.packets ≤ MAX_PACKETS → All (λ rule. length rule.name ≤ 16) priority.layers → length tables ≤ MAX_GROUPS
    → All (λ table. IsTable table.packets table.layers) tables
    → length (plan_text session priority tables) ≤ MAX_PLAN_FILE
unfolding plan_text
printed_short session priority tables short small names few are =
    omega (
      arith,
      length-append (plan_session_text session (length tables) priority.packets) (groups_text 0 priority.layers tables),
      session_length session (length tables) priority.packets short (omega arith) (omega arith),
      groups_length 0 priority.layers tables (omega arith) names are,
    )
