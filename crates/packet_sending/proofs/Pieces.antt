-- The packets of a range among the frames that were put on end into an empty buffer.
use Rattle.std.proofs.Common.{◌≡◌, ℕ, suc, ◌+◌, ◌*◌, ◌<◌, ◌≤◌, take, drop, List, [], ◌++◌, length, ap, sym, ◌∙◌, arith}
use Rattle.std.proofs.lemmas.Nat.{mul-le}
use Rattle.field_elements.specs.Field.{Coding}
use Rattle.stripe_plan.specs.declared.bounds.TheConstants.{BOUNDS}
use Rattle.stripe_plan.specs.declared.layer.LayerSize.{LayerSize}
use Rattle.stripe_plan.specs.Layers.{plan_ends}
use Rattle.stripe_plan.specs.Sizes.{length_by, planned}
use Rattle.stripe_plan.specs.laws.ByteLaws.{length-planned}
use Rattle.packet_frame.specs.declared.format.Format.{Format}
use Rattle.packet_frame.specs.Format.{IsFormat}
use Rattle.packet_frame.specs.Frame.{Fields}
use Rattle.packet_frame.specs.Planned.{by_text, planned_text, IsPlannedFrame}
use Rattle.packet_frame.specs.laws.Laws.{texts_have_length_in}
use Rattle.packet_session.specs.Encoding.{Encoding, frame_of, frames_text_in}
use Rattle.packet_session.specs.laws.RangeLaws.{frame_at, frames_length}

-- a frame has the length that its plan's table asks for
frame_long : (t : Format) → IsFormat t → t.bounds.bare ≡ BOUNDS.bare → (f : Fields) → IsPlannedFrame t f
    → length (planned_text t f) ≡ length_by t.word BOUNDS.bare f.layers
frame_long t format bare f is =
    let told = (by_text t f).layers in
    let whole : planned t.bounds told ≡ f.layers = ap (λ (g : Fields). g.layers) is.whole in
    let stripes : t.word * length (plan_ends (planned t.bounds told)) ≡ t.word * length (plan_ends f.layers) =
    ap (λ (l : List LayerSize). t.word * length (plan_ends l)) whole in
    let many : length told ≡ length f.layers = sym (length-planned t.bounds told) ∙ ap length whole in
    omega (arith, texts_have_length_in t format (by_text t f) is.frame, format.bare, bare, stripes, many)

-- each of them is as long as the encoder says
module _ {E : Type 0} (t : Format) (c : Coding E) (format : IsFormat t) (bare : t.bounds.bare ≡ BOUNDS.bare)
    (e : Encoding) (first count len : ℕ)
    (are : (k : ℕ) → first ≤ k → k < first + count → IsPlannedFrame t (frame_of c e k))
    (long : len ≡ length_by t.word BOUNDS.bare e.header.table.layers) where
  each_long : (k : ℕ) → first ≤ k → k < first + count → length (planned_text t (frame_of c e k)) ≡ len
  each_long k low high = frame_long t format bare (frame_of c e k) (are k low high) ∙ sym long

  module _ (cleared made lent : List ℕ) (none : cleared ≡ [])
      (is : made ≡ cleared ++ frames_text_in t c e first count) (lent_is : lent ≡ made) where
    frames_are : lent ≡ frames_text_in t c e first count
    frames_are = lent_is ∙ is ∙ ap (λ (xs : List ℕ). xs ++ frames_text_in t c e first count) none

    -- there is room for each
    pub piece_within : (p at : ℕ) → p < count → at ≡ p * len → at + len ≤ length lent
    piece_within p at l place =
        omega (
          arith,
          ap length frames_are ∙ frames_length t c e len count first each_long,
          mul-le (suc p) len count len l (omega arith),
        )

    -- and what stands at the place of one is its text
    pub piece_is : (p at n : ℕ) → p < count → at ≡ p * len → n ≡ len
        → take n (drop at lent) ≡ planned_text t (frame_of c e (first + p))
    piece_is p at n l place size =
        ap (λ k. take k (drop at lent)) size ∙ ap (λ k. take len (drop k lent)) place
        ∙ ap (λ xs. take len (drop (p * len) xs)) frames_are
        ∙ frame_at t c e len count first p each_long l
