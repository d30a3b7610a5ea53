-- Newton's form of a polynomial (textbook).
use Rattle.std.specs.Prelude.{List, [], ◌∷◌}
use Rattle.field_elements.specs.Field.{Operations}
use Rattle.pet_poly.specs.inside.Horner.{horner_from}

-- the product of z - x over the list
abbrev pub gap : {E : Type 0} → Operations E → List E → E → E
gap o [] z = o.unit
gap o (x ∷ xs) z = o.times (o.minus z x) (gap o xs z)

-- the value at z: Newton's form as far as the points `xs` go, and plain coefficients from there on
abbrev pub nested : {E : Type 0} → Operations E → List E → List E → E → E
nested o [] cs z = horner_from o o.nought cs z
nested o (x ∷ xs) [] z = o.nought
nested o (x ∷ xs) (c ∷ cs) z = o.plus c (o.times (o.minus z x) (nested o xs cs z))

abbrev pub expanded_from : {E : Type 0} → Operations E → E → E → List E → List E
expanded_from o x c [] = c ∷ []
expanded_from o x c (d ∷ cs) = o.minus c (o.times x d) ∷ expanded_from o x d cs

-- the coefficients of c + (X - x) Q, where Q has the coefficients after c
abbrev pub expanded : {E : Type 0} → Operations E → E → List E → List E
expanded o x [] = []
expanded o x (c ∷ cs) = expanded_from o x c cs
