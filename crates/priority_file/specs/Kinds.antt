-- The kinds of pieces and the places of P and B pictures, as this project's own sets of bits. What a kind is follows
-- ISO/IEC 11172-2 (start codes and picture_coding_type). A class is a kind, or a place of the P or of the B pictures of
-- a
-- group, which are each numbered from 1 in stream order. It is named by the number of its bit.
use Rattle.std.specs.Prelude.{ℕ, ◌+◌, ◌^◌, Bool, true, false, not, ◌&&◌, ◌==◌, nat_lt, List, [], ◌∷◌, Option, Some}
use Rattle.std.specs.Prelude.{None, fold, bit_and, bit_or, if◌then◌else◌}
use Rattle.std.specs.List.{list_any}
use Rattle.pet_base.specs.declared.Kind.{Kind}
use Rattle.pet_base.specs.declared.Kind.TheVariants.{Head, I, P, B, D}
use Rattle.priority_file.specs.declared.kinds.TheConstants.{LAST_PLACE}

-- which bit of a set a kind is
abbrev pub index_of : Kind → ℕ
index_of Head = 0
index_of I = 1
index_of P = 2
index_of B = 3
index_of D = 4

-- the kinds whose pictures have places
abbrev pub has_places : Kind → Bool
has_places P = true
has_places B = true
has_places _ = false

-- the n-th bit after this one, for each n that is a place
abbrev pub place_after : ℕ → ℕ → Option ℕ
place_after bit n = if nat_lt 0 n && not (nat_lt LAST_PLACE n) then Some (bit + n) else None

-- which bit of a set the n-th P or B picture of a group is, where that is a place
abbrev pub place_index : Kind → ℕ → Option ℕ
place_index P n = place_after 4 n
place_index B n = place_after 13 n
place_index _ n = None

-- the class is in the list
abbrev pub lists : ℕ → List ℕ → Bool
lists i classes = list_any (λ j. i == j) classes

-- the bits of the classes in the list
abbrev pub bits_of : List ℕ → ℕ
bits_of classes = fold (λ bits i. bit_or bits (2 ^ i)) 0 classes

-- the class is in the set with these bits
abbrev pub has_class : ℕ → ℕ → Bool
has_class bits i = not (bit_and bits (2 ^ i) == 0)

-- the kind is in the set
abbrev pub has_kind : ℕ → Kind → Bool
has_kind bits k = has_class bits (index_of k)

-- the place is in the set
abbrev pub has_some_class : ℕ → Option ℕ → Bool
has_some_class bits None = false
has_some_class bits (Some i) = has_class bits i

abbrev pub has_place : ℕ → Kind → ℕ → Bool
has_place bits k n = has_some_class bits (place_index k n)

abbrev pub all_kinds : List Kind
all_kinds = Head ∷ I ∷ P ∷ B ∷ D ∷ []

-- the kinds that a file has to list
abbrev pub required_kinds : List Kind
required_kinds = Head ∷ I ∷ P ∷ B ∷ []
