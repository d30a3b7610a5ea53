-- The packets that arrive at the receiver of `sample`. This project's own.
use Rattle.std.specs.Prelude.{ℕ, ◌*◌, ◌%◌, ◌==◌, not, Bool, List, map}
use Rattle.std.specs.List.{filter, flat_map, range_with_len}

-- a packet of this number does not arrive
abbrev pub is_lost : ℕ → Bool
is_lost number = number % 25 == 24

-- the number of the packet that is handed on at this place
abbrev pub number_at : ℕ → ℕ
number_at place = 37 * place % 100

-- the numbers of the packets that arrive out of so many places of a group, from this place on
unfoldable pub arriving : ℕ → ℕ → List ℕ
arriving place places = filter (λ n. not (is_lost n)) (map number_at (range_with_len place places))

-- those of a group
abbrev pub arrivals_of_group : List ℕ
arrivals_of_group = arriving 0 100

-- those of a group, each with the number of the group
abbrev pub arrivals_in : ℕ → List (ℕ × ℕ)
arrivals_in group = map (λ n. (group, n)) arrivals_of_group

-- those of so many groups, in order
abbrev pub arrivals_of : ℕ → List (ℕ × ℕ)
arrivals_of groups = flat_map arrivals_in (range_with_len 0 groups)
