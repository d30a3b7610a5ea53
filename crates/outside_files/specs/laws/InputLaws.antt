-- What is taken from an input portion by portion, and what it is of the file.
use Rattle.std.proofs.Common.{◌≡◌, ℕ, ◌+◌, ◌≤◌, List, [], ◌++◌, length, take, Option, None, Some, refl, sym, ap}
use Rattle.std.proofs.Common.{subst, ◌∙◌, arith}
use Rattle.std.proofs.lemmas.List.{append-nil, length-append, length-take-le}
use Rattle.std.specs.Prelude.{◌<◌, ◌≢◌, IfSome, MatchOption, IsSome, Result, Ok, Err, IfOk}
use Rattle.std.specs.Io.KnownBytes.{prepend_known, IsAtEnd}
use Rattle.pet_base.proofs.Filled.{prepend-prepend}
use Rattle.pet_base.specs.declared.faults.Stop.{Stop}
use Rattle.pet_base.specs.declared.faults.Stop.TheVariants.{NoMemory, Failed}
use Rattle.pet_base.specs.declared.place.Side.TheVariants.{Read}
use Rattle.pet_base.specs.Causes.{Blames}
use Rattle.pet_base.specs.Seen.{Seen, Files, Names, OnlyReads, HadFault, bytes_at}
use Rattle.pet_base.specs.laws.SeenLaws.{Blames-named, HadFault-since}
use Rattle.outside_files.specs.Inputs.{IsFrontOf, IsRead, Licensed, HasTaken, HasTakenAll}
use Rattle.outside_files.specs.Portions.{IsReadOf, IsPortion, IsNoPortion, room_left}

-- no byte before what is known
pub prepend_none : (known : Option (List ℕ)) → known ≡ prepend_known [] known
prepend_none None = refl
prepend_none (Some bytes) = refl

-- nothing is taken yet
pub taken_none : (limit : ℕ) (s : Seen) → HasTaken limit [] s s
taken_none limit s = record {
  rest = prepend_none s.rest;
  few = omega arith;
  others = record { files = refl; source = refl; target = refl; has_input = refl; has_output = refl };
  later = omega arith;
}

-- one more portion
pub taken_more : (limit : ℕ) (bytes portion : List ℕ) (first before after : Seen) → HasTaken limit bytes first before
    → before.rest ≡ prepend_known portion after.rest → length bytes + length portion ≤ limit + 1
    → OnlyReads before after → before.faults ≤ after.faults
    → HasTaken limit (bytes ++ portion) first after
taken_more limit bytes portion first before after taken step few others later =
    let o = taken.others in
    record {
      rest = taken.rest ∙ ap (prepend_known bytes) step ∙ prepend-prepend bytes portion after.rest;
      few = rw (length-append bytes portion) few;
      others = record {
        files = others.files ∙ o.files;
        source = others.source ∙ o.source;
        target = others.target ∙ o.target;
        has_input = others.has_input ∙ o.has_input;
        has_output = others.has_output ∙ o.has_output;
      };
      later = let l = taken.later in omega (arith, l, later);
    }

none_some : {A : Type 0} (x : A) → None ≡ Some x → ⊥
none_some x e = cc

some_same : {A : Type 0} (x y : A) → Some x ≡ Some y → x ≡ y
some_same x y e = cc

-- what was taken of an input that is told stands at its front
front_at : (limit : ℕ) (bytes all : List ℕ) (now : Option (List ℕ)) → Some all ≡ prepend_known bytes now
    → (length bytes ≤ limit → IsAtEnd now)
    → (more : List ℕ) × ((all ≡ bytes ++ more) × (length bytes ≤ limit → more ≡ []))
front_at limit bytes all None e whole = absurd (none_some all (sym e))
front_at limit bytes all (Some more) e whole = (more, (some_same _ _ e, whole))

file_at : (o : Option (List ℕ)) → IsSome o → (bytes : List ℕ) × (o ≡ Some bytes)
file_at None is = absurd cc
file_at (Some bytes) is = (bytes, refl)

front_in : (limit : ℕ) (bytes name : List ℕ) (files : Option Files) (first now : Option (List ℕ))
    → first ≡ bytes_at files name
    → IfSome files (λ f. IsSome (f name)) → first ≡ prepend_known bytes now → (length bytes ≤ limit → IsAtEnd now)
    → length bytes ≤ limit + 1
    → IsFrontOf limit bytes files name
front_in limit bytes name None first now rest found taken whole few =
    record { more = []; told = tt; whole = λ _. refl; few = few }
front_in limit bytes name (Some f) first now rest found taken whole few =
    let file = file_at (f name) found in
    let at = front_at limit bytes file.0 now (sym file.1 ∙ sym rest ∙ taken) whole in
    record { more = at.0; told = file.1 ∙ ap (λ (b : List ℕ). Some b) at.1.0; whole = at.1.1; few = few }

-- what was taken of a file that was entered
pub front_of : (limit : ℕ) (bytes name : List ℕ) (old entered new : Seen) → entered.rest ≡ bytes_at old.files name
    → IfSome old.files (λ f. IsSome (f name)) → HasTakenAll limit bytes entered new
    → IsFrontOf limit bytes old.files name
front_of limit bytes name old entered new rest found all =
    front_in limit bytes name old.files entered.rest new.rest rest found all.taken.rest all.whole all.taken.few

pub front_ok : {A E : Type 0} (items : A → List ℕ) (result : Result A E) (limit : ℕ) (name : List ℕ)
    (old entered new : Seen) → entered.rest ≡ bytes_at old.files name
    → IfSome old.files (λ f. IsSome (f name)) → IfOk result (λ bytes. HasTakenAll limit (items bytes) entered new)
    → IfOk result (λ bytes. IsFrontOf limit (items bytes) old.files name)
front_ok items (Ok bytes) limit name old entered new rest found all =
    front_of limit (items bytes) name old entered new rest found all
front_ok items (Err e) limit name old entered new rest found all = tt

-- a fault of the reading is one at the file that was entered
pub failed_at : (name : List ℕ) (stop : Stop) (old entered new : Seen) → Names old.files entered.source name
    → old.faults ≤ entered.faults
    → Licensed (HadFault entered new (Blames Read entered.source)) stop → Licensed (HadFault old new (IsRead name)) stop
failed_at name NoMemory old entered new is later failed = tt
failed_at name Failed old entered new is later failed =
    HadFault-since old entered new _ _ later (λ b. Blames-named old.files entered.source name Read b is) failed

-- at most one byte past the limit is read
pub read_few : (limit : ℕ) (left : Option ℕ) (read : ℕ) → IsReadOf limit left read → read ≤ limit + 1
read_few limit None read is = omega (arith, is)
read_few limit (Some left) read is = omega (arith, is)

-- with one more portion
pub read_more : (limit count : ℕ) (bytes buffer : List ℕ) (left later : Option ℕ) (before after : Seen)
    → IsReadOf limit left (length bytes) → IsPortion count buffer left later before after
    → IsReadOf limit later (length (bytes ++ take count buffer))
read_more limit count bytes buffer left later before after is portion =
    rw (length-append bytes (take count buffer)) (rw (length-take-le count buffer portion.bound)
    (portion.read limit (length bytes) is))

fewer_from : (left later : Option ℕ) (count : ℕ) → 0 < count
    → ((limit read : ℕ) → IsReadOf limit left read → IsReadOf limit later (read + count))
    → room_left later < room_left left
fewer_from None None count some read = absurd (let one = read 0 1 refl in omega (arith, one, some))
fewer_from None (Some more) count some read = absurd (let one = read 0 1 refl in omega (arith, one))
fewer_from (Some left) None count some read = omega arith
fewer_from (Some left) (Some more) count some read = let all = read left 0 (omega arith) in omega (arith, all, some)

-- then less is left
pub fewer_left : (count : ℕ) (buffer : List ℕ) (left later : Option ℕ) (before after : Seen)
    → IsPortion count buffer left later before after → room_left later < room_left left
fewer_left count buffer left later before after portion = fewer_from left later count portion.some portion.read

-- what is taken with one more portion
pub taken_next : (limit count : ℕ) (bytes buffer : List ℕ) (left later : Option ℕ) (first before after : Seen)
    → HasTaken limit bytes first before → IsReadOf limit left (length bytes)
    → IsPortion count buffer left later before after → OnlyReads before after → before.faults ≤ after.faults
    → HasTaken limit (bytes ++ take count buffer) first after
taken_next limit count bytes buffer left later first before after taken is portion others more =
    let few = read_few limit later (length (bytes ++ take count buffer))
    (read_more limit count bytes buffer left later before after is portion) in
    taken_more limit bytes (take count buffer) first before after taken portion.taken
    (omega (arith, few, length-append bytes (take count buffer))) others more

is_at_end : (limit : ℕ) (left : Option ℕ) (read : ℕ) (end : Type 0) → IsReadOf limit left read → (left ≢ None → end)
    → read ≤ limit → end
is_at_end limit None read end is at few = absurd (omega (arith, is, few))
is_at_end limit (Some left) read end is at few = at (λ e. cc)

-- where no portion came, the input is at its end, or it is read past the limit
pub read_whole : (limit : ℕ) (bytes : List ℕ) (left : Option ℕ) (before after : Seen)
    → IsReadOf limit left (length bytes) → IsNoPortion left before after → length bytes ≤ limit → IsAtEnd after.rest
read_whole limit bytes left before after is none = is_at_end limit left (length bytes) (IsAtEnd after.rest) is none.end

-- and all is taken
pub taken_all : (limit : ℕ) (bytes : List ℕ) (left : Option ℕ) (first before after : Seen)
    → HasTaken limit bytes first before → IsReadOf limit left (length bytes) → IsNoPortion left before after
    → OnlyReads before after → before.faults ≤ after.faults
    → HasTakenAll limit bytes first after
taken_all limit bytes left first before after taken is none others later =
    let few = taken.few in
    record {
      taken = subst (λ (b : List ℕ). HasTaken limit b first after) (append-nil bytes)
          (taken_more limit bytes [] first before after taken (none.same ∙ prepend_none after.rest) (omega (arith, few)) others
          later);
      whole = read_whole limit bytes left before after is none;
    }

-- the portion of an answer, and where there is none
pub is_portion : {A : Type 0} (answer : Option A) (none : Type 0) (some : A → Type 0) (x : A) → answer ≡ Some x
    → MatchOption answer none some → some x
is_portion {A = A} answer none some x is given = subst (λ (o : Option A). MatchOption o none some) is given

pub is_none : {A : Type 0} (answer : Option A) (none : Type 0) (some : A → Type 0)
    → ((x : A) → answer ≡ Some x → ⊥) → MatchOption answer none some → none
is_none None none some not given = given
is_none (Some x) none some not given = absurd (not x refl)
