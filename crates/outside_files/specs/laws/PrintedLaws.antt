-- Laws of what is printed, for the proofs of callers.
use Rattle.std.proofs.Common.{◌≡◌, ◌⊎◌, inl, inr, ℕ, ◌≤◌, take, List, [], ◌++◌, Option, None, Some, refl, sym, ap}
use Rattle.std.proofs.Common.{◌∙◌, append_assoc, arith}
use Rattle.std.proofs.lemmas.List.{append-nil}
use Rattle.std.proofs.Math.Seq.{take-length}
use Rattle.std.specs.Prelude.{Result, Ok, Err, is_err, OnOk, OnErr, length}
use Rattle.std.specs.Io.KnownBytes.{append_known}
use Rattle.pet_base.specs.Causes.{Rose, HasCause, count_after, one_more}
use Rattle.pet_base.specs.declared.faults.Failed.{Failed}

pub append_known-twice : (o : Option (List ℕ)) (a b : List ℕ)
    → append_known (append_known o a) b ≡ append_known o (a ++ b)
append_known-twice None a b = refl
append_known-twice (Some x) a b = ap (λ (t : List ℕ). Some t) (append_assoc x a b)

pub append_known-nil : (o : Option (List ℕ)) → append_known o [] ≡ o
append_known-nil None = refl
append_known-nil (Some x) = ap (λ (t : List ℕ). Some t) (append-nil x)

-- a rise of a later part of a call is one of the whole call, and so is one of an earlier part
pub Rose-since : (fb fm fa : ℕ) → fb ≤ fm → Rose fm fa → Rose fb fa
Rose-since fb fm fa later rose = omega (arith, later, rose)

pub Rose-before : (fb fm fa : ℕ) → fm ≤ fa → Rose fb fm → Rose fb fa
Rose-before fb fm fa later rose = omega (arith, later, rose)

-- a put of one line
pub line_put : (result : Result Unit Failed) (line : List ℕ) (before after : Option (List ℕ)) (fb fa : ℕ)
    → OnOk result (after ≡ append_known before line)
    → OnErr result ((k : ℕ) × (after ≡ append_known before (take k line))) → HasCause fb fa result
    → ((k : ℕ) × (after ≡ append_known before (take k line))) × ((Rose fb fa → ⊥) → after ≡ append_known before line)
line_put (Ok x) line before after fb fa whole part cause =
    ((length line, whole ∙ ap (append_known before) (sym (take-length line))), λ _. whole)
line_put (Err e) line before after fb fa whole part cause = (part, λ well. absurd (well cause.failed))

-- it failed at most once
pub count_once : {T E : Type 0} (result : Result T E) (before now : ℕ) → now ≡ count_after (is_err result) before
    → (now ≡ before) ⊎ (now ≡ one_more before)
count_once (Ok x) before now count = inl count
count_once (Err e) before now count = inr count
