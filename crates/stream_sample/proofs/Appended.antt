-- A vector to which a text is appended part by part: what stands there with what is left is what stood there with all
-- of it.
use Rattle.std.proofs.Common.{◌≡◌, ℕ, List, [], ◌++◌, length, take, refl, sym, ap, ◌∙◌, append_assoc}
use Rattle.std.proofs.Math.Seq.{take-length}
use Rattle.std.proofs.lemmas.List.{append-nil}
use Rattle.pet_base.specs.laws.FrontLaws.{front_kept}

pub record IsAppended (old whole left items : List ℕ) : Type 0 where
  pub text : items ++ left ≡ old ++ whole
  pub front : take (length old) items ≡ old

pub begun : (old whole : List ℕ) → IsAppended old whole whole old
begun old whole = record { text = refl; front = take-length old }

-- one part more
pub one_more : (old whole left items part rest more : List ℕ) → IsAppended old whole left items → left ≡ part ++ rest
    → more ≡ items ++ part → IsAppended old whole rest more
one_more old whole left items part rest more so is new = record {
  text =
      ap (λ (t : List ℕ). t ++ rest) new ∙ append_assoc items part rest ∙ ap (λ (t : List ℕ). items ++ t) (sym is)
      ∙ so.text;
  front = front_kept old items part more new so.front;
}

-- no more is left
pub all_appended : (old whole left items : List ℕ) → IsAppended old whole left items → left ≡ [] → items ≡ old ++ whole
all_appended old whole left items so none =
    sym (append-nil items) ∙ ap (λ (t : List ℕ). items ++ t) (sym none) ∙ so.text
