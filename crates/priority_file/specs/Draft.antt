-- A priority file as it is written, this project's own: the typed values of its members, before a number, a name or a
-- kind is looked at.
use Rattle.std.specs.Prelude.{codes, ℕ, ℤ, pos, List, [], ◌∷◌, Option, Some, option_map, option_and_then, unwrap_or}
use Rattle.std.specs.Prelude.{position, if◌then◌else◌, bytes_eq}
use Rattle.toml.specs.Data.{Data, Items, no_items, item, Members, get_member, as_str, as_integer, as_table}
use Rattle.priority_file.specs.declared.draft.Need.{Need}
use Rattle.priority_file.specs.declared.draft.Need.TheVariants.{Packets, Percent}
use Rattle.priority_file.specs.Document.{has_key, array_at, members_in}

-- a layer as it is written, with the classes that it lists
pub record LayerText : Type 0 where
  pub name : List ℕ
  pub kinds : List ℕ
  pub need : Need

pub record FileText : Type 0 where
  pub packets : ℤ
  pub layers : List LayerText

infixl 10 ◌>>=◌
abbrev pub ◌>>=◌ : {A B : Type 0} → Option A → (A → Option B) → Option B
o >>= f = option_and_then f o

abbrev pub text_at : List ℕ → Members → Option (List ℕ)
text_at key ms = option_and_then as_str (get_member key ms)

abbrev pub integer_at : List ℕ → Members → Option ℤ
integer_at key ms = option_and_then as_integer (get_member key ms)

-- the words of `kinds`, in the order of the bits of what they list
abbrev pub kind_words : List (List ℕ)
kind_words =
    codes "head" ∷ codes "I" ∷ codes "P" ∷ codes "B" ∷ codes "D"
    ∷ codes "P1" ∷ codes "P2" ∷ codes "P3" ∷ codes "P4" ∷ codes "P5" ∷ codes "P6" ∷ codes "P7" ∷ codes "P8" ∷ codes "P9"
    ∷ codes "B1" ∷ codes "B2" ∷ codes "B3" ∷ codes "B4" ∷ codes "B5" ∷ codes "B6" ∷ codes "B7" ∷ codes "B8" ∷ codes "B9"
    ∷ []

-- the class that a word lists
abbrev pub class_named : List ℕ → Option ℕ
class_named word = position (bytes_eq word) kind_words

abbrev pub class_of : Data → Option ℕ
class_of d = as_str d >>= class_named

-- the value of each item, where each has one
abbrev pub each_of : {A : Type 0} → (Data → Option A) → Items → Option (List A)
each_of read no_items = Some []
each_of read (item d ds) = read d >>= (λ x. option_map (λ xs. x ∷ xs) (each_of read ds))

-- the need that stands in a layer
abbrev pub need_of : Members → Option Need
need_of ms =
    if has_key (codes "need") ms
    then option_map Packets (integer_at (codes "need") ms)
    else option_map Percent (integer_at (codes "percent") ms)

abbrev pub layer_in : Members → Option LayerText
layer_in ms =
    text_at (codes "name") ms >>= (λ name.
    (array_at (codes "kinds") ms >>= each_of class_of) >>= (λ kinds.
    option_map (λ need. record { name = name; kinds = kinds; need = need }) (need_of ms)))

abbrev pub layer_of : Data → Option LayerText
layer_of d = as_table d >>= layer_in

-- what the document says, where each of its values has the right type
abbrev pub file_text : Members → Option FileText
file_text doc =
    integer_at (codes "packets") doc >>= (λ packets.
    (array_at (codes "layer") doc >>= each_of layer_of) >>= (λ layers.
    Some (record { packets = packets; layers = layers })))

abbrev pub no_text : FileText
no_text = record { packets = pos 0; layers = [] }

-- what the file says, and nothing where a value has another type
abbrev pub text_in : List ℕ → FileText
text_in bytes = unwrap_or (file_text (members_in bytes)) no_text
