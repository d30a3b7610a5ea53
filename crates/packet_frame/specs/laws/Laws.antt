-- For callers: the laws of frames. Each is stated of every format, and then of the frames that are written today.
use Rattle.std.proofs.Common.{◌≡◌, ℕ, ◌<◌, ◌≤◌, List, length, get_or, sym, ap, ◌∙◌, arith}
use Rattle.std.specs.Prelude.{None}
use Rattle.std.specs.List.{All}
use Rattle.std.proofs.lemmas.List.Elements.{All-get_or}
use Rattle.std.proofs.lemmas.List.{get_or_past}
use Rattle.std.proofs.lemmas.Bool.{cases_lt}
use Rattle.pet_base.specs.declared.limits.TheConstants.{HEAD_LENGTH}
use Rattle.stripe_plan.specs.Sizes.{datagram_length_of}
use Rattle.packet_frame.specs.declared.format.Format.{Format}
use Rattle.packet_frame.specs.declared.format.TheConstants.{FORMAT}
use Rattle.packet_frame.specs.Format.{IsFormat, frame_length_in}
use Rattle.packet_frame.specs.Frame.{Fields, IsFrame, IsFrameIn, text, text_in}
use Rattle.packet_frame.specs.Refusals.{fields_of, fields_in, first_fault, first_fault_in, ReadsAs, ReadsAsIn}
use Rattle.packet_frame.specs.laws.Formats.{format_is}
use Rattle.packet_frame.specs.laws.Spelled.{is_frame, is_text}
use Rattle.packet_frame.specs.laws.Again.{is_read, length-text}
use Rattle.packet_frame.specs.laws.Passed.{passes_in}
use mathlib.Core.Logic.{inl, inr}

-- the text of a frame is read as that frame
pub texts_are_read_in : (t : Format) → IsFormat t → (f : Fields) → IsFrameIn t f → ReadsAsIn t (text_in t f) f
texts_are_read_in t format f is = let p = is_read t format f is in record { accepted = p.0; fields = p.1 }

pub texts_are_read : (f : Fields) → IsFrame f → ReadsAs (text f) f
texts_are_read f is = texts_are_read_in FORMAT format_is f is

-- what is read is a frame
pub reads_frames_in : (t : Format) → IsFormat t → (bytes : List ℕ) → first_fault_in t bytes ≡ None
    → IsFrameIn t (fields_in t bytes)
reads_frames_in t format bytes h = is_frame t format bytes h

pub reads_frames : (bytes : List ℕ) → first_fault bytes ≡ None → IsFrame (fields_of bytes)
reads_frames bytes h = reads_frames_in FORMAT format_is bytes h

-- and has all that is before the layers
pub reads_heads_in : (t : Format) (bytes : List ℕ) → first_fault_in t bytes ≡ None → HEAD_LENGTH ≤ length bytes
unfolding first_fault_in
reads_heads_in t bytes fine = omega (arith, (passes_in t bytes (fields_in t bytes) fine).long)

at_each : (bytes : List ℕ) → All (λ byte. byte < 256) bytes → (i : ℕ) → get_or bytes i 0 < 256
at_each bytes fits i =
    elim (cases_lt i (length bytes)) [
      | inl lt ↦ All-get_or (λ byte. byte < 256) bytes i 0 lt fits
      | inr le ↦ rw (get_or_past bytes i 0 le) (omega arith)
    ]

-- and its bytes are the text of that frame
pub reads_texts_in : (t : Format) → IsFormat t → (bytes : List ℕ) → All (λ byte. byte < 256) bytes
    → first_fault_in t bytes ≡ None → bytes ≡ text_in t (fields_in t bytes)
reads_texts_in t format bytes fits h = is_text t bytes (at_each bytes fits) h

pub reads_texts : (bytes : List ℕ) → All (λ byte. byte < 256) bytes → first_fault bytes ≡ None
    → bytes ≡ text (fields_of bytes)
reads_texts bytes fits h = reads_texts_in FORMAT format_is bytes fits h

-- two frames of one text are equal
pub texts_tell_in : (t : Format) → IsFormat t → (f g : Fields) → IsFrameIn t f → IsFrameIn t g
    → text_in t f ≡ text_in t g → f ≡ g
texts_tell_in t format f g is_f is_g same =
    sym (is_read t format f is_f).1 ∙ ap (fields_in t) same ∙ (is_read t format g is_g).1

pub texts_tell : (f g : Fields) → IsFrame f → IsFrame g → text f ≡ text g → f ≡ g
texts_tell f g is_f is_g same = texts_tell_in FORMAT format_is f g is_f is_g same

-- the text of a frame has the length that its layers ask for, and that of the datagrams of its table
pub texts_have_length_in : (t : Format) → IsFormat t → (f : Fields) → IsFrameIn t f
    → length (text_in t f) ≡ frame_length_in t f.layers
texts_have_length_in t format f is = length-text t format f is

pub texts_have_length : (f : Fields) → IsFrame f → length (text f) ≡ datagram_length_of f.layers
texts_have_length f is = texts_have_length_in FORMAT format_is f is
