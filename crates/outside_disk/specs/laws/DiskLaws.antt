-- How calls of a disk go on from each other. For the proofs of callers.
use Rattle.std.proofs.Common.{inl, inr, ⊎_elim, ℕ, List, refl, sym, ◌∙◌, subst, arith}
use Rattle.std.specs.Prelude.{Result, Ok, Err, OnOk}
use Rattle.outside_disk.specs.Disk.{Told, DiskSeen, Untold, Tells, IfTold, Between, image, Passes, Leaves, LeavesNoMore}
use Rattle.outside_disk.specs.Disk.{LeavesOnly, Reads}

-- nothing was done
pub only_same : (P : List ℕ → Type 0) (old : Told) → LeavesOnly P old old
only_same P old = record { later = omega arith; each = λ t c le here. inl here }

-- one after the other
pub only_then : (P : List ℕ → Type 0) (old between new : Told) → LeavesOnly P old between → LeavesOnly P between new
    → LeavesOnly P old new
only_then P old between new first next = record {
  later = omega (arith, first.later, next.later);
  each = λ t c le here. ⊎_elim (first.each t c le) (λ p. inr p) (next.each t c (omega (arith, le, first.later)) here);
}

-- with less asked of them
pub only_weaker : (P Q : List ℕ → Type 0) (old new : Told) → ((c : List ℕ) → P c → Q c) → LeavesOnly P old new
    → LeavesOnly Q old new
only_weaker P Q old new weaker only = record {
  later = only.later;
  each = λ t c le here. ⊎_elim (λ was. inl was) (λ p. inr (weaker c p)) (only.each t c le here);
}

-- a call after which each image has P
pub only_passes : (P : List ℕ → Type 0) (old new : Told) → Passes old new → ((c : List ℕ) → image new c → P c)
    → LeavesOnly P old new
only_passes P old new time now = record {
  later = time.later;
  each = λ t c le here. ⊎_elim (λ was. inl was) (λ is. inr (now c is)) (time.since t c le here);
}

-- a call that writes nothing
pub only_leaves : (P : List ℕ → Type 0) (old new : Told) → LeavesNoMore old new → ((c : List ℕ) → image old c → P c)
    → LeavesOnly P old new
only_leaves P old new leaves was = only_passes P old new leaves.time (λ c now. was c (leaves.from c now))

-- each image since a call began has P, where each image at its beginning had it
pub since_has : (P : List ℕ → Type 0) (old new : Told) → LeavesOnly P old new → ((c : List ℕ) → image old c → P c)
    → (c : List ℕ) → new.images old.clock c → P c
since_has P old new only first c here = ⊎_elim (first c) (λ p. p) (only.each old.clock c (omega arith) here)

-- calls that write nothing
pub reads_same : (old : Told) → Reads old old
reads_same old = record { bytes = refl; only = only_same (image old) old; from = λ c now. now }

pub reads_no_more : (old new : Told) → LeavesNoMore old new → Reads old new
reads_no_more old new leaves =
    record { bytes = leaves.bytes; only = only_leaves (image old) old new leaves (λ c was. was); from = leaves.from }

pub reads_leaves : (old new : Told) → Leaves old new → Reads old new
reads_leaves old new leaves = reads_no_more old new leaves.no_more

pub reads_then : (old between new : Told) → Reads old between → Reads between new → Reads old new
reads_then old between new first next = record {
  bytes = next.bytes ∙ first.bytes;
  only =
      only_then (image old) old between new first.only
      (only_weaker (image between) (image old) between new first.from next.only);
  from = λ c now. first.from c (next.from c now);
}

-- one after the other, told or not
pub between_then : (R S T : Told → Told → Type 0) → ((a b c : Told) → R a b → S b c → T a c) → (a b c : DiskSeen)
    → Between R a b → Between S b c → Between T a c
between_then R S T h Untold Untold Untold p q = tt
between_then R S T h Untold Untold (Tells c) p q = q
between_then R S T h Untold (Tells b) c p q = absurd p
between_then R S T h (Tells a) Untold c p q = absurd p
between_then R S T h (Tells a) (Tells b) Untold p q = absurd q
between_then R S T h (Tells a) (Tells b) (Tells c) p q = h a b c p q

pub between_both : (R S : Told → Told → Type 0) → (a b : DiskSeen) → Between R a b → Between S a b
    → Between (λ x y. R x y × S x y) a b
between_both R S Untold Untold p q = tt
between_both R S Untold (Tells b) p q = p
between_both R S (Tells a) Untold p q = p
between_both R S (Tells a) (Tells b) p q = (p, q)

-- what holds of a success, handed on
pub ok_then : {T E : Type 0} (P Q : Type 0) → (P → Q) → (r : Result T E) → OnOk r P → OnOk r Q
ok_then P Q h (Ok x) p = h p
ok_then P Q h (Err e) p = tt

pub between_same : (R : Told → Told → Type 0) → ((a : Told) → R a a) → (a : DiskSeen) → Between R a a
between_same R h Untold = tt
between_same R h (Tells a) = h a

pub between_weaker : (R S : Told → Told → Type 0) → ((a b : Told) → R a b → S a b) → (a b : DiskSeen) → Between R a b
    → Between S a b
between_weaker R S h Untold Untold p = tt
between_weaker R S h Untold (Tells b) p = p
between_weaker R S h (Tells a) Untold p = p
between_weaker R S h (Tells a) (Tells b) p = h a b p

pub if_told : (P Q : Told → Type 0) → ((a : Told) → P a → Q a) → (a : DiskSeen) → IfTold a P → IfTold a Q
if_told P Q h Untold p = tt
if_told P Q h (Tells a) p = h a p

pub reads_call : (a b : DiskSeen) → Between Leaves a b → Between Reads a b
reads_call a b leaves = between_weaker Leaves Reads reads_leaves a b leaves

pub reads_more : (a b c : DiskSeen) → Between Reads a b → Between Leaves b c → Between Reads a c
reads_more a b c first next = between_then Reads Reads Reads reads_then a b c first (reads_call b c next)

pub reads_on : (a b c : DiskSeen) → Between Reads a b → Between Reads b c → Between Reads a c
reads_on a b c first next = between_then Reads Reads Reads reads_then a b c first next

pub reads_none : (a : DiskSeen) → Between Reads a a
reads_none a = between_same Reads reads_same a

-- what is told of the bytes holds after calls that write nothing
pub bytes_stay : (P : List ℕ → Type 0) (a b : DiskSeen) → Between Reads a b → IfTold a (λ disk. P disk.bytes)
    → IfTold b (λ disk. P disk.bytes)
bytes_stay P Untold Untold reads p = tt
bytes_stay P Untold (Tells b) reads p = absurd reads
bytes_stay P (Tells a) Untold reads p = absurd reads
bytes_stay P (Tells a) (Tells b) reads p = subst P (sym reads.bytes) p

pub bytes_stood : (P : List ℕ → Type 0) (a b : DiskSeen) → Between Reads a b → IfTold b (λ disk. P disk.bytes)
    → IfTold a (λ disk. P disk.bytes)
bytes_stood P Untold Untold reads p = tt
bytes_stood P Untold (Tells b) reads p = tt
bytes_stood P (Tells a) Untold reads p = absurd reads
bytes_stood P (Tells a) (Tells b) reads p = subst P reads.bytes p

pub if_both : (P Q R : Told → Type 0) → ((a : Told) → P a → Q a → R a) → (a : DiskSeen) → IfTold a P → IfTold a Q
    → IfTold a R
if_both P Q R h Untold p q = tt
if_both P Q R h (Tells a) p q = h a p q
