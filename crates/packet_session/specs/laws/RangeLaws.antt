-- What callers may conclude about the frames of a range on end: where each of them stands.
use Rattle.std.proofs.Common.{◌≡◌, ℕ, zero, suc, ◌+◌, ◌*◌, ◌<◌, ◌≤◌, List, ◌++◌, length, take, drop, sym, ap, ◌∙◌}
use Rattle.std.proofs.Common.{arith, length-append}
use Rattle.std.proofs.lemmas.List.{take_at, drop_at, drop-drop}
use Rattle.field_elements.specs.Field.{Coding}
use Rattle.packet_frame.specs.declared.format.Format.{Format}
use Rattle.packet_frame.specs.Planned.{planned_text}
use Rattle.packet_session.specs.Encoding.{Encoding, frame_of, frames_text_in}

module _ {E : Type 0} (t : Format) (c : Coding E) (e : Encoding) (len : ℕ) where
  -- each of these frames has so many bytes
  abbrev pub HaveLength : ℕ → ℕ → Type 0
  HaveLength first count = (k : ℕ) → first ≤ k → k < first + count → length (planned_text t (frame_of c e k)) ≡ len

  pub frames_length : (count first : ℕ) → HaveLength first count → length (frames_text_in t c e first count) ≡ count * len
  frames_length zero first h = omega arith
  frames_length (suc n) first h =
      let rest : length (frames_text_in t c e (first + 1) n) ≡ n * len =
      frames_length n (first + 1) (λ k low high. h k (omega arith) (omega arith)) in
      length-append (planned_text t (frame_of c e first)) (frames_text_in t c e (first + 1) n)
      ∙ omega (arith, h first (omega arith) (omega arith), rest)

  pub frame_at : (count first p : ℕ) → HaveLength first count → p < count
      → take len (drop (p * len) (frames_text_in t c e first count)) ≡ planned_text t (frame_of c e (first + p))
  frame_at zero first p h l = absurd (omega arith)
  frame_at (suc n) first zero h l =
      let one : List ℕ = planned_text t (frame_of c e first) in
      let rest : List ℕ = frames_text_in t c e (first + 1) n in
      let none : 0 * len ≡ 0 = omega arith in
      let same : first ≡ first + 0 = omega arith in
      ap (λ k. take len (drop k (one ++ rest))) none ∙ take_at one rest len (h first (omega arith) (omega arith))
      ∙ ap (λ k. planned_text t (frame_of c e k)) same
  frame_at (suc n) first (suc p) h l =
      let one : List ℕ = planned_text t (frame_of c e first) in
      let rest : List ℕ = frames_text_in t c e (first + 1) n in
      let far : suc p * len ≡ len + p * len = omega arith in
      let along : first + 1 + p ≡ first + suc p = omega arith in
      ap (λ k. take len (drop k (one ++ rest))) far ∙ ap (take len) (sym (drop-drop (p * len) len (one ++ rest)))
      ∙ ap (λ xs. take len (drop (p * len) xs)) (drop_at one rest len (h first (omega arith) (omega arith)))
      ∙ frame_at n (first + 1) p (λ k low high. h k (omega arith) (omega arith)) (omega arith)
      ∙ ap (λ k. planned_text t (frame_of c e k)) along
