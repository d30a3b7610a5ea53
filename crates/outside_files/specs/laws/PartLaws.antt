-- Laws of fronts of what is put, for the proofs of callers.
use Rattle.std.proofs.Common.{◌≡◌, ℕ, take, drop, List, [], ◌++◌, append_assoc, refl, sym, ap, ◌∙◌}
use Rattle.std.proofs.lemmas.List.{append-nil, take-append-drop}
use Rattle.pet_base.specs.Seen.{Seen}
use Rattle.outside_files.specs.Outputs.{IsPrefix, Puts, PutsPart}
use Rattle.outside_files.specs.laws.OutputLaws.{puts_then, puts_nothing}

-- nothing was put yet
pub part_nothing : (bytes : List ℕ) (s : Seen) → PutsPart bytes s s
part_nothing bytes s = ([], (bytes, refl), puts_nothing s s refl)

-- a front of the bytes was put
pub part_of_take : (k : ℕ) (bytes : List ℕ) (old new : Seen) → Puts (take k bytes) old new → PutsPart bytes old new
part_of_take k bytes old new puts = (take k bytes, (drop k bytes, sym (take-append-drop k bytes)), puts)

-- a front of what stands at the front
pub part_within : (a whole : List ℕ) (old new : Seen) → IsPrefix a whole → PutsPart a old new → PutsPart whole old new
part_within a whole old new within part = (
  part.0,
  (
    part.1.0 ++ within.0,
    within.1 ∙ ap (λ (t : List ℕ). t ++ within.0) part.1.1 ∙ append_assoc part.0 part.1.0 within.0,
  ),
  part.2,
)

-- what was put, and a front of what comes next
pub part_after : (a b : List ℕ) (first before after : Seen) → before.target ≡ first.target → Puts a first before
    → PutsPart b before after → PutsPart (a ++ b) first after
part_after a b first before after same p part = (
  a ++ part.0,
  (part.1.0, ap (λ (t : List ℕ). a ++ t) part.1.1 ∙ sym (append_assoc a part.0 part.1.0)),
  puts_then a part.0 first before after same p part.2,
)

-- what was put whole is a front of itself
pub part_whole : (bytes : List ℕ) (old new : Seen) → Puts bytes old new → PutsPart bytes old new
part_whole bytes old new puts = (bytes, ([], sym (append-nil bytes)), puts)
