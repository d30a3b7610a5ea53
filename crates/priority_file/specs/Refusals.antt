-- The refusal of a priority file, this project's own, and what an accepted file stands for.
use Rattle.std.specs.Prelude.{ℕ, Bool, not, ◌&&◌, nat_lt, List, [], ◌∷◌, ◌++◌, map, length, Option, Some, None, is_none}
use Rattle.std.specs.Prelude.{if◌then◌else◌}
use Rattle.pet_base.specs.declared.Kind.TheVariants.{I, D}
use Rattle.pet_base.specs.declared.limits.TheConstants.{MAX_PRIORITY_FILE}
use Rattle.priority_file.specs.declared.fault.PriorityFault.{PriorityFault}
use Rattle.priority_file.specs.declared.fault.PriorityFault.TheVariants as fault
use Rattle.priority_file.specs.Kinds.{index_of, lists, bits_of}
use Rattle.priority_file.specs.Priority.{Rule, Priorities}
use Rattle.priority_file.specs.Document.{document, members_in, has_unknown_key, misses_key}
use Rattle.priority_file.specs.Draft.{LayerText, FileText, file_text, text_in}
use Rattle.priority_file.specs.Bounds.{packets_of, need_in, listed_kinds, packets_out_of_range, need_out_of_range}
use Rattle.priority_file.specs.Bounds.{has_bad_name, lists_kind_twice, misses_kind, head_is_not_first}
use Rattle.priority_file.specs.Bounds.{has_too_many_layers}

-- a test of the whole file, and the fault that it shows
abbrev pub Row : Type 0
Row = Bool × PriorityFault

abbrev pub number_rows : FileText → List Row
number_rows file =
    (packets_out_of_range file, fault.PacketsRange)
    ∷ (need_out_of_range file, fault.NeedRange)
    ∷ (has_bad_name file, fault.Name)
    ∷ []

abbrev pub layer_rows : FileText → List Row
layer_rows file =
    (lists_kind_twice file, fault.KindTwice)
    ∷ (misses_kind file, fault.KindMissing)
    ∷ (head_is_not_first file, fault.HeadNotFirst)
    ∷ (has_too_many_layers file, fault.TooManyLayers)
    ∷ []

-- the causes of a refusal, in their order
abbrev pub rows : List ℕ → List Row
rows bytes =
    (nat_lt MAX_PRIORITY_FILE (length bytes), fault.Long)
    ∷ (is_none (document bytes), fault.Text)
    ∷ (has_unknown_key (members_in bytes), fault.UnknownKey)
    ∷ (misses_key (members_in bytes), fault.MissingKey)
    ∷ (is_none (file_text (members_in bytes)), fault.WrongType)
    ∷ (number_rows (text_in bytes) ++ layer_rows (text_in bytes))

-- the first row whose test holds
abbrev pub first_of : List Row → Option PriorityFault
first_of [] = None
first_of (row ∷ rest) = if row.0 then Some row.1 else first_of rest

-- why these bytes are refused as a priority file, and None where they are accepted
unfoldable pub refusal_of : List ℕ → Option PriorityFault
refusal_of bytes = first_of (rows bytes)

-- the classes of a layer, with D beside I where the file lists D nowhere
abbrev pub kinds_with_d : Bool → List ℕ → List ℕ
kinds_with_d d_is_listed kinds =
    if not d_is_listed && lists (index_of I) kinds then kinds ++ index_of D ∷ [] else kinds

abbrev pub rule_of : ℕ → Bool → LayerText → Rule
rule_of packets d_is_listed l = record {
  name = l.name;
  kinds = bits_of (kinds_with_d d_is_listed l.kinds);
  need = need_in packets l.need;
}

abbrev pub priorities_of_text : FileText → Priorities
priorities_of_text file = record {
  packets = packets_of file;
  layers = map (rule_of (packets_of file) (lists (index_of D) (listed_kinds file))) file.layers;
}

-- what an accepted file stands for
unfoldable pub priorities_of : List ℕ → Priorities
priorities_of bytes = priorities_of_text (text_in bytes)
