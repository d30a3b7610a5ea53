-- Law of the numbers of a width, for callers: each is an element of the binary field of as many bits.
use Rattle.std.proofs.Common.{ℕ, ◌<◌, ◌^◌, List, All, get_or, Fits}
use mir.Syntax.{Width}
use mir.Val.{bits}
use Rattle.std.proofs.lemmas.List.{get_or_default}

pub all_elements : (w : Width) (row : List ℕ) → ((i : ℕ) → Fits w (get_or row i 0)) → All (λ a. a < 2 ^ bits w) row
all_elements w row fit i d l = rw (get_or_default row i d 0 l) (fit i).fits
