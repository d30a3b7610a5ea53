-- What the laws of frames say of what a reader answers.
use Rattle.std.proofs.Common.{◌≡◌, ℕ, List, None, Some, sym, ap, ◌∙◌}
use Rattle.std.specs.Prelude.{Result, Ok, Err, MatchResult, IfOk, IsOkAnd}
use Rattle.packet_frame.specs.declared.fault.FrameFault.{FrameFault}
use Rattle.packet_frame.specs.declared.format.Format.{Format}
use Rattle.packet_frame.specs.Format.{IsFormat}
use Rattle.packet_frame.specs.Frame.{Fields, IsFrameIn, text_in}
use Rattle.packet_frame.specs.Refusals.{fields_in, first_fault_in}
use Rattle.packet_frame.specs.laws.Spelled.{IsBytes, is_frame, is_text}
use Rattle.packet_frame.specs.laws.Again.{is_read}

pub is_frame_ok : {T E : Type 0} (t : Format) → IsFormat t
    → (bytes : List ℕ) (view : T → Fields) (r : Result T E) (Q : E → Type 0)
    → MatchResult r (λ _. first_fault_in t bytes ≡ None) Q → IfOk r (λ x. view x ≡ fields_in t bytes)
    → IfOk r (λ x. IsFrameIn t (view x))
is_frame_ok t format bytes view (Ok x) Q none is = rw is (is_frame t format bytes none)
is_frame_ok t format bytes view (Err e) Q none is = tt

pub is_text_ok : {T E : Type 0} (t : Format) (bytes : List ℕ) (view : T → Fields) (r : Result T E) (Q : E → Type 0)
    → IsBytes bytes
    → MatchResult r (λ _. first_fault_in t bytes ≡ None) Q → IfOk r (λ x. view x ≡ fields_in t bytes)
    → IfOk r (λ x. bytes ≡ text_in t (view x))
is_text_ok t bytes view (Ok x) Q fits none is = is_text t bytes fits none ∙ ap (text_in t) (sym is)
is_text_ok t bytes view (Err e) Q fits none is = tt

pub is_read_ok : {T : Type 0} (t : Format) → IsFormat t
    → (view : T → Fields) (bytes : List ℕ) (r : Result T FrameFault)
    → MatchResult r (λ _. first_fault_in t bytes ≡ None) (λ e. first_fault_in t bytes ≡ Some e)
    → IfOk r (λ x. view x ≡ fields_in t bytes)
    → (m : Fields) → IsFrameIn t m → bytes ≡ text_in t m → IsOkAnd r (λ x. view x ≡ m)
is_read_ok t format view bytes (Ok x) refused fields m is e = fields ∙ ap (fields_in t) e ∙ (is_read t format m is).1
is_read_ok t format view bytes (Err f) refused fields m is e =
    absurd (none_some f (sym (is_read t format m is).0 ∙ ap (first_fault_in t) (sym e) ∙ refused))
  where
    none_some : (x : FrameFault) → None ≡ Some x → ⊥
    none_some x h = cc
