-- Loops over a list: what one more element makes of what was found in those before it.
use Rattle.std.proofs.Common.{◌≡◌, ℕ, ◌+◌, ◌<◌, ◌≤◌, Bool, true, false, List, [], ◌∷◌, ◌++◌, length, map, take, drop}
use Rattle.std.proofs.Common.{get_or, ◌-◌, ap, sym, ◌∙◌, inl, inr}
use Rattle.std.specs.List.{list_any}
use Rattle.std.proofs.lemmas.List.{at_drop_more, at_drop_all, take_more, take_rest, map-append}
use Rattle.std.proofs.lemmas.List.Folds.{list_any_at}
use Rattle.std.proofs.lemmas.Bool.{cases_Bool}
use Rattle.priority_file.specs.Bounds.{has_repeat}

-- where none passes it, this element does not
pub fails_at : {A : Type 0} (test : A → Bool) (xs : List A) (i : ℕ) (x : A) → i < length xs → x ≡ get_or xs i x
    → list_any test xs ≡ false → test x ≡ false
fails_at test xs i x within is none =
    elim (cases_Bool (test x)) [
      | inl passes ↦ absurd (cc (list_any_at test xs i x within (rw (← is) passes), none))
      | inr fails ↦ fails
    ]

-- one more element, and one more of what the elements are made to
pub made_more : {A B : Type 0} (f : A → B) (xs : List A) (i : ℕ) (x : A) (made : List B) (y : B) → i < length xs
    → x ≡ get_or xs i x → y ≡ f x
    → made ≡ map f (take i xs) → made ++ y ∷ [] ≡ map f (take (i + 1) xs)
made_more f xs i x made y within is made_of before =
    rw (before, made_of) (sym (rw (take_more xs i x within, ← is) (map-append f (take i xs) (x ∷ []))))

-- where an element is like none behind it, those behind it settle whether one is repeated
pub unlike_later : {A : Type 0} (same : A → A → Bool) (xs : List A) (i : ℕ) (x : A) → i < length xs → x ≡ get_or xs i x
    → list_any (same x) (take (length xs - (i + 1)) (drop (i + 1) xs)) ≡ false
    → has_repeat same (drop i xs) ≡ has_repeat same xs → has_repeat same (drop (i + 1) xs) ≡ has_repeat same xs
unlike_later same xs i x within is unlike before =
    let other : list_any (same x) (drop (i + 1) xs) ≡ false =
    ap (list_any (same x)) (sym (take_rest xs (i + 1))) ∙ unlike in
    let next : has_repeat same (drop i xs) ≡ has_repeat same (drop (i + 1) xs) =
    at_drop_more (has_repeat same) xs i x within ∙ rw (← is, other) in
    sym next ∙ before

-- where it is like one behind it, one is repeated
pub like_later : {A : Type 0} (same : A → A → Bool) (xs : List A) (i : ℕ) (x : A) → i < length xs → x ≡ get_or xs i x
    → list_any (same x) (take (length xs - (i + 1)) (drop (i + 1) xs)) ≡ true
    → has_repeat same (drop i xs) ≡ has_repeat same xs → true ≡ has_repeat same xs
like_later same xs i x within is like before =
    let again : list_any (same x) (drop (i + 1) xs) ≡ true =
    ap (list_any (same x)) (sym (take_rest xs (i + 1))) ∙ like in
    let next : has_repeat same (drop i xs) ≡ true = at_drop_more (has_repeat same) xs i x within ∙ rw (← is, again) in
    sym next ∙ before

-- where none is left, none is repeated
pub none_like : {A : Type 0} (same : A → A → Bool) (xs : List A) (i : ℕ) → length xs ≤ i
    → has_repeat same (drop i xs) ≡ has_repeat same xs → false ≡ has_repeat same xs
none_like same xs i all before = sym (at_drop_all (has_repeat same) xs i all) ∙ before
