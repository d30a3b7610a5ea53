-- Rows that are made place by place: they are elements again.
use Rattle.std.proofs.Common.{◌≡◌, ℕ, ◌<◌, List, length, take, drop, get_or, All, sym, subst, arith}
use Rattle.std.proofs.lemmas.List.Elements.{All-take, All-drop}
use Rattle.field_elements.specs.Field.{Operations, IsField}
use Rattle.field_rows.proofs.AnyField.{all_from}

pub front_are : {E : Type 0} (P : E → Type 0) (m : ℕ) (xs front : List E) → front ≡ take m xs → All P xs → All P front
front_are P m xs front e h = subst (All P) (sym e) (All-take P m xs h)

pub back_are : {E : Type 0} (P : E → Type 0) (m : ℕ) (xs back : List E) → back ≡ drop m xs → All P xs → All P back
back_are P m xs back e h = subst (All P) (sym e) (All-drop P m xs h)

module _ {E : Type 0} (P : E → Type 0) (o : Operations E) (f : IsField P o) where
  pub products_are : (by : E) (old new : List E) → P by → All P old → length new ≡ length old
      → ((i : ℕ) → i < length old → get_or new i o.nought ≡ o.times by (get_or old i o.nought)) → All P new
  products_are by old new hb h n is =
      all_from P o.nought new
      (λ k l. let m : k < length old = omega arith in
      rw (is k m) (f.times_is by (get_or old k o.nought) hb (h k o.nought m)))

  pub sums_are : (old other new : List E) → All P old → All P other → length new ≡ length old
      → length old ≡ length other
      → ((i : ℕ) → i < length other → get_or new i o.nought ≡ o.plus (get_or old i o.nought) (get_or other i o.nought))
      → All P new
  sums_are old other new h g n m is =
      all_from P o.nought new
      (λ k l.
      let a : k < length old = omega arith in
      let b : k < length other = omega arith in
      rw (is k b) (f.plus_is (get_or old k o.nought) (get_or other k o.nought) (h k o.nought a) (g k o.nought b)))

  pub multiples_are : (by : E) (old other new : List E) → P by → All P old → All P other → length new ≡ length old
      → length old ≡ length other
      → ((i : ℕ) → i < length other
      → get_or new i o.nought ≡ o.plus (get_or old i o.nought) (o.times by (get_or other i o.nought))) → All P new
  multiples_are by old other new hb h g n m is =
      all_from P o.nought new
      (λ k l.
      let a : k < length old = omega arith in
      let b : k < length other = omega arith in
      rw (is k b)
      (f.plus_is (get_or old k o.nought) (o.times by (get_or other k o.nought)) (h k o.nought a)
      (f.times_is by (get_or other k o.nought) hb (g k o.nought b))))
