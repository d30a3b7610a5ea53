-- The payload of a packet (this project's own format, on the values of polynomials over a field): for each stripe of
-- the
-- plan in order, the value at the packet's point of the polynomial that has the stripe's words as its coefficients, the
-- stripe's first word the one of the power 0.
use Rattle.std.specs.Prelude.{ℕ, List, length, take, drop, map}
use Rattle.std.specs.List.{flat_map}
use Rattle.field_elements.specs.Field.{Coding}
use Rattle.pet_poly.specs.Value.{value}
use Rattle.pet_poly.specs.Rows.{words}
use Rattle.stripe_plan.specs.Layers.{needs_of, plan_stripes}
use Rattle.stripe_plan.specs.declared.layer.LayerSize.{LayerSize}

-- a row, cut into the stripes of these layers
abbrev pub cut_in_stripes : {E : Type 0} → List LayerSize → List E → List (List E)
cut_in_stripes layers row = map (λ s. take s.1 (drop s.0 row)) (plan_stripes layers)

module _ {E : Type 0} (c : Coding E) where
  -- the stripes of a message of these layers, as elements
  abbrev pub stripes_in : List LayerSize → List ℕ → List (List E)
  stripes_in layers message = cut_in_stripes layers (words c.spelt c.width (length (needs_of layers)) message)

  -- the payload at the point x
  abbrev pub payload_at : List LayerSize → List ℕ → E → List ℕ
  payload_at layers message x = flat_map (λ stripe. c.spelling (value c.ops stripe x)) (stripes_in layers message)

-- the values at x of these stripes, written on end
abbrev pub values_of : {E : Type 0} → Coding E → List (List E) → E → List ℕ
values_of c stripes x = flat_map (λ stripe. c.spelling (value c.ops stripe x)) stripes
