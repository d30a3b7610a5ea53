-- Laws of what is put piece after piece, for the proofs of callers.
use Rattle.std.proofs.Common.{◌≡◌, ℕ, take, drop, List, [], ◌++◌, Option, append_assoc, sym, ap, subst, ◌∙◌}
use Rattle.std.proofs.lemmas.List.{take-append-drop}
use Rattle.std.specs.Prelude.{Result, Ok, Err, OnOk, OnErr}
use Rattle.pet_base.specs.Seen.{Seen, Files, Grows}
use Rattle.pet_base.specs.laws.SeenLaws.{Grows-nil, Grows-then}
use Rattle.outside_files.specs.Outputs.{Puts, PutsPart}

pub on_ok : {A E P Q : Type 0} (r : Result A E) → (P → Q) → OnOk r P → OnOk r Q
on_ok (Ok x) h p = h p
on_ok (Err e) h p = p

pub on_err : {A E P Q : Type 0} (r : Result A E) → (P → Q) → OnErr r P → OnErr r Q
on_err (Ok x) h p = p
on_err (Err e) h p = h p

pub puts_then : (a b : List ℕ) (first before after : Seen) → before.target ≡ first.target → Puts a first before
    → Puts b before after → Puts (a ++ b) first after
puts_then a b first before after same p q =
    Grows-then first.target a b first.files before.files after.files p
    (subst (λ (t : Option (List ℕ)). Grows t b before.files after.files) same q)

pub part_of_front : (k : ℕ) (a b : List ℕ) (old new : Seen) → Puts (take k a) old new → PutsPart (a ++ b) old new
part_of_front k a b old new puts = (
  take k a,
  (drop k a ++ b, ap (λ (t : List ℕ). t ++ b) (sym (take-append-drop k a)) ∙ append_assoc (take k a) (drop k a) b),
  puts,
)

pub part_then : (a b c : List ℕ) (first before after : Seen) → before.target ≡ first.target → Puts a first before
    → PutsPart b before after → PutsPart ((a ++ b) ++ c) first after
part_then a b c first before after same p part = (
  a ++ part.0,
  (part.1.0 ++ c, ap (λ (t : List ℕ). (a ++ t) ++ c) part.1.1 ∙ simp append_assoc),
  puts_then a part.0 first before after same p part.2,
)

pub part_of_back : (k : ℕ) (a b : List ℕ) (first before after : Seen) → before.target ≡ first.target
    → Puts a first before → Puts (take k b) before after → PutsPart (a ++ b) first after
part_of_back k a b first before after same p q = (
  a ++ take k b,
  (drop k b, ap (λ (t : List ℕ). a ++ t) (sym (take-append-drop k b)) ∙ sym (append_assoc a (take k b) (drop k b))),
  puts_then a (take k b) first before after same p q,
)

pub puts_nothing : (s now : Seen) → now.files ≡ s.files → Puts [] s now
puts_nothing s now same =
    subst (λ (f : Option Files). Grows s.target [] s.files f) (sym same) (Grows-nil s.target s.files)
