-- Laws of lists at whose front another list stands, for the proofs of callers.
use Rattle.std.proofs.Common.{◌≡◌, ◌≤◌, List, ◌++◌, length, take, refl, sym, ap, ◌∙◌, arith}
use Rattle.std.proofs.lemmas.List.{length-take, take-take, take_at}

pub begins_with : {E : Type 0} (old new more : List E) → new ≡ old ++ more → take (length old) new ≡ old
begins_with old new more is = ap (take (length old)) is ∙ take_at old more (length old) refl

-- a front of a front
pub front_then : {E : Type 0} (a b c : List E) → take (length a) b ≡ a → take (length b) c ≡ b → take (length a) c ≡ a
front_then a b c first then =
    let shorter : length a ≤ length b = omega (arith, ap length first, length-take (length a) b) in
    sym (take-take (length a) (length b) c shorter) ∙ ap (take (length a)) then ∙ first

-- what stood at the front stands there with more behind it
pub front_kept : {E : Type 0} (old before more new : List E) → new ≡ before ++ more → take (length old) before ≡ old
    → take (length old) new ≡ old
front_kept old before more new is front = front_then old before new front (begins_with before new more is)
