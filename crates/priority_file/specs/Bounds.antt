-- The bounds of a priority file, this project's own. Each is a test of all that the file says.
use Rattle.std.specs.Prelude.{ℕ, ◌*◌, ◌/◌, max, ℤ, pos, negsuc, Bool, false, not, ◌&&◌, ◌||◌, ◌==◌, nat_lt, nat_eq}
use Rattle.std.specs.Prelude.{List, [], ◌∷◌, flat_map, length, bytes_eq}
use Rattle.std.specs.List.{list_any, list_all}
use Rattle.std.specs.Char.{is_ascii_alphanumeric}
use Rattle.pet_base.specs.declared.Kind.TheVariants.{Head}
use Rattle.pet_base.specs.declared.limits.TheConstants.{MAX_LAYERS}
use Rattle.priority_file.specs.declared.draft.Need.{Need}
use Rattle.priority_file.specs.declared.draft.Need.TheVariants.{Packets, Percent}
use Rattle.priority_file.specs.declared.bounds.TheConstants.{LONGEST_NAME}
use Rattle.priority_file.specs.Kinds.{index_of, lists, required_kinds}
use Rattle.priority_file.specs.Priority.{is_packets, is_need}
use Rattle.priority_file.specs.Draft.{LayerText, FileText}

-- a number that is not below zero, and else 0, which is in no range here
abbrev pub count_of : ℤ → ℕ
count_of (pos n) = n
count_of (negsuc n) = 0

abbrev pub packets_of : FileText → ℕ
packets_of d = count_of d.packets

-- the need in packets: of p percent the whole packets, and at least one
abbrev pub need_in : ℕ → Need → ℕ
need_in packets (Packets n) = count_of n
need_in packets (Percent p) = max 1 (count_of p * packets / 100)

-- PacketsRange: not from 1 to the most packets of a group
abbrev pub packets_out_of_range : FileText → Bool
packets_out_of_range d = not (is_packets (packets_of d))

-- NeedRange: not from 1 to the number of packets, or in percent not from 1 to 100
abbrev pub is_need_out_of_range : ℕ → Need → Bool
is_need_out_of_range packets (Packets n) = not (is_need packets (count_of n))
is_need_out_of_range packets (Percent p) = not (is_need 100 (count_of p))

abbrev pub need_out_of_range : FileText → Bool
need_out_of_range d = list_any (λ l. is_need_out_of_range (packets_of d) l.need) d.layers

-- Name: not 1 to LONGEST_NAME letters, digits, `-`, `_` and `+` of ASCII, or the name of an earlier layer
abbrev pub is_name_byte : ℕ → Bool
is_name_byte c = ((is_ascii_alphanumeric c || c == 45) || c == 95) || c == 43

abbrev pub is_name : List ℕ → Bool
is_name name =
    (nat_lt 0 (length name) && not (nat_lt LONGEST_NAME (length name))) && list_all is_name_byte name

-- an element that is the same as a later one
abbrev pub has_repeat : {A : Type 0} → (A → A → Bool) → List A → Bool
has_repeat same [] = false
has_repeat same (x ∷ xs) = list_any (same x) xs || has_repeat same xs

abbrev pub has_bad_name : FileText → Bool
has_bad_name d =
    list_any (λ l. not (is_name l.name)) d.layers || has_repeat (λ l m. bytes_eq l.name m.name) d.layers

-- KindTwice: a kind or a place is listed twice, in one layer or in two
abbrev pub listed_kinds : FileText → List ℕ
listed_kinds d = flat_map (λ l. l.kinds) d.layers

abbrev pub lists_kind_twice : FileText → Bool
lists_kind_twice d = has_repeat nat_eq (listed_kinds d)

-- KindMissing: a kind that has to be listed is listed nowhere
abbrev pub misses_kind : FileText → Bool
misses_kind d = list_any (λ k. not (lists (index_of k) (listed_kinds d))) required_kinds

-- HeadNotFirst: Head is not in layer 0
abbrev pub kinds_of_first : List LayerText → List ℕ
kinds_of_first [] = []
kinds_of_first (l ∷ ls) = l.kinds

abbrev pub head_is_not_first : FileText → Bool
head_is_not_first d = not (lists (index_of Head) (kinds_of_first d.layers))

-- TooManyLayers
abbrev pub has_too_many_layers : FileText → Bool
has_too_many_layers d = nat_lt MAX_LAYERS (length d.layers)
