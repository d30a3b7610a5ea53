-- The packets of a range of numbers, one after another.
use Rattle.std.proofs.Common.{◌≡◌, ℕ, ◌+◌, ◌-◌, ◌*◌, ◌<◌, ◌≤◌, inl, inr, List, [], ◌∷◌, ◌++◌, length, map, take, drop}
use Rattle.std.proofs.Common.{flat_map, refl, sym, ap, ap₂, subst, ◌∙◌, arith, append_assoc}
use Rattle.std.specs.Prelude.{Result, Ok, Err, IfOk}
use Rattle.std.specs.List.{range_with_len}
use Rattle.std.proofs.lemmas.Bool.{cases_lt}
use Rattle.std.proofs.lemmas.List.{append-nil}
use Rattle.std.proofs.lemmas.List.FromFn.{map-range_with_len_more}
use Rattle.std.proofs.lemmas.Grind.{flat_map-append}
use Rattle.field_elements.specs.Field.{Coding, IsCoding}
use Rattle.pet_poly.specs.Value.{value}
use Rattle.field_rows.specs.Blocks.{columns_of}
use Rattle.field_rows.specs.declared.blocks.Block.{Block}
use Rattle.field_values.proofs.RowAfterRow.{row_within}
use Rattle.stripe_plan.specs.Layers.{plan_stripes}
use Rattle.packet_frame.specs.declared.format.Format.{Format}
use Rattle.packet_frame.specs.Planned.{IsPlannedFrame, planned_text}
use Rattle.packet_frame.specs.declared.frame.Header.{Header}
use Rattle.packet_session.specs.Encoding.{Encoding, frame_of, values_at}
use Rattle.packet_session.specs.Encoding.{frames_text_in}
use Rattle.field_values.specs.Matrix.{HasRows}
use Rattle.packet_encoder.specs.Stored.{IsStored, words_in}
use Rattle.packet_encoder.proofs.Made.{carries}

same_map : (xs : List ℕ) → map (λ k. k) xs ≡ xs
same_map [] = refl
same_map (x ∷ xs) = ap (λ t. x ∷ t) (same_map xs)

numbers_more : (first n : ℕ) → range_with_len first (n + 1) ≡ range_with_len first n ++ ((first + n) ∷ [])
numbers_more first n =
    sym (same_map (range_with_len first (n + 1))) ∙ map-range_with_len_more (λ k. k) first n (first + n) refl
    ∙ ap (λ t. t ++ ((first + n) ∷ [])) (same_map (range_with_len first n))

module _ {E : Type 0} (t : Format) (c : Coding E) (e : Encoding) (first n m : ℕ) (is : m ≡ first + n) where
  -- the frame of one packet more
  frames_more : frames_text_in t c e first (n + 1) ≡ frames_text_in t c e first n ++ planned_text t (frame_of c e m)
  frames_more =
      ap (flat_map (λ k. planned_text t (frame_of c e k))) (numbers_more first n)
      ∙ flat_map-append (λ k. planned_text t (frame_of c e k)) (range_with_len first n) ((first + n) ∷ [])
      ∙ ap (λ l. frames_text_in t c e first n ++ l) (append-nil (planned_text t (frame_of c e (first + n))))
      ∙ ap (λ k. frames_text_in t c e first n ++ planned_text t (frame_of c e k)) (sym is)

  pub text_more : (old before after : List ℕ) → before ≡ old ++ frames_text_in t c e first n
      → after ≡ before ++ planned_text t (frame_of c e m)
      → after ≡ old ++ frames_text_in t c e first (n + 1)
  text_more old before after so_far grown =
      grown ∙ ap (λ l. l ++ planned_text t (frame_of c e m)) so_far
      ∙ append_assoc old (frames_text_in t c e first n) (planned_text t (frame_of c e m))
      ∙ ap (λ l. old ++ l) (sym frames_more)

  pub ranges_more : IsPlannedFrame t (frame_of c e m)
      → ((k : ℕ) → first ≤ k → k < first + n → IsPlannedFrame t (frame_of c e k))
      → (k : ℕ) → first ≤ k → k < first + (n + 1) → IsPlannedFrame t (frame_of c e k)
  ranges_more frame h k low high =
      elim (cases_lt k (first + n)) [
        | inl l ↦ h k low l
        | inr l ↦ (let at : m ≡ k = omega arith in subst (λ i. IsPlannedFrame t (frame_of c e i)) at frame)
      ]

-- what holds of a result's value implies something else of it
pub on_ok : {A B : Type 0} (P Q : A → Type 0) (r : Result A B) → ((a : A) → P a → Q a) → IfOk r P → IfOk r Q
on_ok P Q (Ok a) h p = h a p
on_ok P Q (Err x) h p = p

-- the values of the columns are those that the packets carry
pub rows_carried : {E : Type 0} (P : E → Type 0) (count : ℕ) (c : Coding E) (laws : IsCoding P count c)
    (header : Header) (blocks : List Block) (row : List E) (kept : IsStored P count c header blocks row)
    (e : Encoding) → record { header = header; message = flat_map c.spelling (words_in c blocks row) } ≡ e
    → (n first k f m : ℕ) (bs : List Block) (lent items : List E) → n ≡ length (plan_stripes e.header.table.layers)
    → f ≡ first → k ≡ m → bs ≡ blocks → lent ≡ row
    → HasRows n k (λ p. map (λ s. value c.ops s (c.point_of (f + p))) (columns_of c.ops.nought bs lent)) items
    → HasRows (length (plan_stripes e.header.table.layers)) m (λ p. values_at c e (first + p)) items
rows_carried {E = E} P count c laws header blocks row kept e view n first k f m bs lent items wide begins many at same
    h = record {
      long = h.long ∙ ap₂ ◌*◌ many wide;
      each =
          λ p l.
          ap (λ w. take w (drop (p * w) items)) (sym wide) ∙ h.each p (omega arith)
          ∙ ap₂ (λ (b : List Block) (xs : List E). map (λ s. value c.ops s (c.point_of (f + p)))
          (columns_of c.ops.nought b xs)) at same
          ∙ ap (λ y. map (λ s. value c.ops s (c.point_of (y + p))) (columns_of c.ops.nought blocks row)) begins
          ∙ sym (carries P count c laws header blocks row kept e view (first + p));
    }

-- one row of them
pub row_at : {E : Type 0} (c : Coding E) (e : Encoding) (w count first p at m : ℕ) (items : List E)
    → HasRows w count (λ q. values_at c e (first + q)) items → p < count → at ≡ p * w → m ≡ first + p
    → (n : ℕ) → n ≡ w → take (at + n - at) (drop at items) ≡ values_at c e m
row_at c e w count first p at m items h l place is n wide =
    let size : at + n - at ≡ w = omega arith in
    ap (λ k. take k (drop at items)) size ∙ ap (λ k. take w (drop k items)) place ∙ h.each p l
    ∙ ap (values_at c e) (sym is)

pub row_room : {E : Type 0} (w count p at : ℕ) (row : ℕ → List E) (items : List E) → HasRows w count row items
    → p < count → at ≡ p * w → at + w ≤ length items
row_room w count p at row items h l place = omega (arith, row_within p count w l, h.long, place)
