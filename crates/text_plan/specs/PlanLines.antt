-- The lines of `plan`, `check` and `send`. This project's own.
use Rattle.std.specs.Prelude.{ℕ, ◌+◌, ◌/◌, ◌%◌, ◌==◌, nat_lt, if◌then◌else◌, List, [], ◌∷◌, ◌++◌, map, codes, decimal}
use Rattle.std.specs.List.{flat_map}
use Rattle.stripe_plan.specs.declared.layer.LayerSize.{LayerSize}
use Rattle.stripe_plan.specs.Layers.{plan_stripes, stripes_from}

-- a digit out of 0 to 9 and a to f
abbrev pub hex_digit : ℕ → ℕ
hex_digit n = if nat_lt n 10 then 48 + n else 87 + n

-- bytes in lower-case hexadecimal digits, two each, the high one first
abbrev pub hex_text : List ℕ → List ℕ
hex_text bytes = flat_map (λ b. hex_digit (b / 16) ∷ hex_digit (b % 16) ∷ []) bytes

-- a session: its number, its groups, and the packets of each
abbrev pub plan_session_text : List ℕ → ℕ → ℕ → List ℕ
plan_session_text session groups packets =
    codes "session " ++ hex_text session ++ codes " groups " ++ decimal groups ++ codes " packets " ++ decimal packets
    ++ codes "\n"

-- a session that was sent: its number, its groups, and the datagrams of all of them
abbrev pub send_text : List ℕ → ℕ → ℕ → List ℕ
send_text session groups datagrams =
    codes "session " ++ hex_text session ++ codes " groups " ++ decimal groups ++ codes " datagrams "
    ++ decimal datagrams ++ codes "\n"

-- a group: its words, the stripes of its plan and their bound, and the length of its datagrams
abbrev pub plan_group_text : ℕ → ℕ → ℕ → ℕ → ℕ → List ℕ
plan_group_text group words stripes bound datagram =
    codes "group " ++ decimal group ++ codes " words " ++ decimal words ++ codes " stripes " ++ decimal stripes
    ++ codes " bound " ++ decimal bound ++ codes " datagram " ++ decimal datagram ++ codes "\n"

-- a layer: its name, its bytes and its need, and the count at which it is shown
abbrev pub plan_layer_text : ℕ → List ℕ → LayerSize → ℕ → List ℕ
plan_layer_text layer name size count =
    codes "layer " ++ decimal layer ++ codes " " ++ name ++ codes " bytes " ++ decimal size.length ++ codes " need "
    ++ decimal size.need
    ++ codes " count " ++ decimal count ++ codes "\n"

-- one length more in front of rows of equal lengths, each a length and how often it stands
abbrev pub with_length : ℕ → List (ℕ × ℕ) → List (ℕ × ℕ)
with_length size [] = (size, 1) ∷ []
with_length size (row ∷ rows) = if size == row.0 then (size, row.1 + 1) ∷ rows else (size, 1) ∷ row ∷ rows

-- the maximal rows of equal adjacent lengths
abbrev pub rows_of : List ℕ → List (ℕ × ℕ)
rows_of [] = []
rows_of (size ∷ sizes) = with_length size (rows_of sizes)

abbrev pub row_text : ℕ × ℕ → List ℕ
row_text row = codes " " ++ decimal row.0 ++ codes "x" ++ decimal row.1

-- stripe lengths, row by row
unfoldable pub lengths_text : List ℕ → List ℕ
lengths_text sizes = codes "lengths" ++ flat_map row_text (rows_of sizes) ++ codes "\n"

-- the lengths of the plan's stripes from the word `at` on, where a stripe begins
abbrev pub lengths_from : List LayerSize → ℕ → List ℕ
lengths_from layers at = map (λ stripe. stripe.1) (stripes_from layers at)

-- the lengths of the plan's stripes
abbrev pub plan_lengths : List LayerSize → List ℕ
plan_lengths layers = map (λ stripe. stripe.1) (plan_stripes layers)

-- so many groups have plans of the fewest stripes
abbrev pub least_text : ℕ → List ℕ
least_text groups = codes "least " ++ decimal groups ++ codes "\n"
