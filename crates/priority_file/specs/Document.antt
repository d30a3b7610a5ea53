-- The document of a priority file (TOML 1.0, as the crate `toml` reads it): its members, its layers and their keys.
-- Which keys there are is this project's own.
use Rattle.std.specs.Prelude.{codes, ℕ, Bool, false, not, ◌&&◌, ◌||◌, is_some, List, [], ◌∷◌, Option, Some, None}
use Rattle.std.specs.Prelude.{option_and_then, unwrap_or, if◌then◌else◌, bytes_eq}
use Rattle.std.specs.Str.{is_utf8}
use Rattle.std.specs.List.{list_any}
use Rattle.toml.specs.Data.{Data, table, Items, no_items, item, Members, no_members, member, get_member, as_array}
use Rattle.toml.specs.Parse.{parse_document}

-- the document that the bytes are
abbrev pub document : List ℕ → Option Members
document bytes = if is_utf8 bytes then parse_document bytes else None

-- its members, and none where the bytes are no document
abbrev pub members_in : List ℕ → Members
members_in bytes = unwrap_or (document bytes) no_members

abbrev pub has_key : List ℕ → Members → Bool
has_key key ms = is_some (get_member key ms)

abbrev pub array_at : List ℕ → Members → Option Items
array_at key ms = option_and_then as_array (get_member key ms)

abbrev pub is_one_of : List (List ℕ) → List ℕ → Bool
is_one_of words word = list_any (bytes_eq word) words

-- a member with a key that is not one of these
abbrev pub has_other_key : List (List ℕ) → Members → Bool
has_other_key known no_members = false
has_other_key known (member key d ms) = not (is_one_of known key) || has_other_key known ms

-- the layers of the document: the tables in its array `layer`
abbrev pub tables_of : Items → List Members
tables_of no_items = []
tables_of (item (table ms) ds) = ms ∷ tables_of ds
tables_of (item _ ds) = tables_of ds

abbrev pub tables_in : Option Items → List Members
tables_in None = []
tables_in (Some ds) = tables_of ds

abbrev pub layers_of : Members → List Members
layers_of doc = tables_in (array_at (codes "layer") doc)

-- the test, of a value that is a table
abbrev pub on_table : (Members → Bool) → Data → Bool
on_table test (table ms) = test ms
on_table test _ = false

-- UnknownKey: another key at the top or in a layer, or two needs in a layer
abbrev pub file_keys : List (List ℕ)
file_keys = codes "packets" ∷ codes "layer" ∷ []

abbrev pub layer_keys : List (List ℕ)
layer_keys = codes "name" ∷ codes "kinds" ∷ codes "need" ∷ codes "percent" ∷ []

abbrev pub has_two_needs : Members → Bool
has_two_needs ms = has_key (codes "need") ms && has_key (codes "percent") ms

abbrev pub layer_has_unknown_key : Members → Bool
layer_has_unknown_key ms = has_other_key layer_keys ms || has_two_needs ms

abbrev pub has_unknown_key : Members → Bool
has_unknown_key doc =
    has_other_key file_keys doc || list_any layer_has_unknown_key (layers_of doc)

-- MissingKey: `packets` or `layer` is missing, or a layer lacks its name, its kinds or a need
abbrev pub has_file_keys : Members → Bool
has_file_keys doc = has_key (codes "packets") doc && has_key (codes "layer") doc

abbrev pub has_name_and_kinds : Members → Bool
has_name_and_kinds ms = has_key (codes "name") ms && has_key (codes "kinds") ms

abbrev pub has_a_need : Members → Bool
has_a_need ms = has_key (codes "need") ms || has_key (codes "percent") ms

abbrev pub layer_misses_key : Members → Bool
layer_misses_key ms = not (has_name_and_kinds ms) || not (has_a_need ms)

abbrev pub misses_key : Members → Bool
misses_key doc = not (has_file_keys doc) || list_any layer_misses_key (layers_of doc)
