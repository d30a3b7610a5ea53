-- What callers may conclude about lists through points and progressive states.
use Rattle.std.proofs.Common.{◌≡◌, ◌<◌, ◌≤◌, ℕ, List, All, length, get_or, take, sym, ◌∙◌, arith, subst}
use Rattle.std.proofs.lemmas.List.{length-map, length-take-le, take-map}
use Rattle.std.proofs.lemmas.List.Elements.{All-map, All-take}
use Rattle.field_elements.specs.Field.{Operations, IsField}
use Rattle.pet_poly.specs.Value.{value, AreDistinct}
use Rattle.pet_poly.specs.laws.Roots.{value_determines}
use Rattle.pet_interp.specs.Points.{firsts, GoesThrough, IsOnlyThrough}
use Rattle.pet_interp.specs.Progressive.{Held, StandsFor, stripe_of, column}

-- a list through distinct points is the only one, by the law of polynomials
pub only_through : {E : Type 0} (P : E → Type 0) (o : Operations E) → IsField P o
    → (points : List (E × E)) (cs : List E) → length cs ≡ length points → All P cs → All (λ p. P p.0) points
    → AreDistinct (firsts points)
    → GoesThrough o cs points → IsOnlyThrough P o points cs
only_through P o f points cs k g h ne fits =
    let n : length (firsts points) ≡ length points = length-map points (λ p. p.0) in
    record {
      long = k;
      elements = g;
      through = fits;
      only =
          λ other l go other_fits.
          value_determines P o f (firsts points) other cs (l ∙ sym n) (k ∙ sym n) go g
          (All-map P (λ p. p.0) points h) ne
          (All-map (λ x. value o other x ≡ value o cs x) (λ p. p.0) points
          (λ m b r. other_fits m b r ∙ sym (fits m b r)));
    }

-- a stripe that has met enough points is the list that the values it met lie on
pub stripe_is_common : {E : Type 0} (P : E → Type 0) (o : Operations E) (held : Held E) (points : List (E × List E))
    (j : ℕ) (common : List E) → StandsFor P o held points
    → j < length held.stripes → length (stripe_of held j) ≤ held.met → length common ≡ length (stripe_of held j)
    → All P common
    → GoesThrough o common (column o j points) → stripe_of held j ≡ common
stripe_is_common P o held points j common st l m k h lie =
    let n = length (stripe_of held j) in
    let only = st.others j l (omega (arith, m, st.met)) in
    let point : _ × List _ → _ × _ = λ p. (p.0, get_or p.1 j o.nought) in
    let size : length (column o j (take n points)) ≡ n =
    length-map (take n points) point ∙ length-take-le n points (omega (arith, m, st.met)) in
    let R : _ × _ → Type 0 = λ q. value o common q.0 ≡ q.1 in
    sym (only.only common (k ∙ sym size) h
    (subst (All R) (take-map point n points) (All-take R n (column o j points) lie)))
