-- For callers: each of the forms of stores is one, and how long its pieces are.
use Rattle.std.proofs.Common.{◌≡◌, ℕ, ◌*◌, ◌<◌, ◌≤◌, Bool, true, false, List, length, refl, ap, arith}
use Rattle.std.specs.Prelude.{if◌then◌else◌, map}
use Rattle.std.proofs.lemmas.List.{length-take}
use Rattle.sha2.specs.Sha256.{sha256}
use Rattle.sha2.proofs.Facts256.{length-sha256}
use Rattle.pet_base.specs.declared.limits.TheConstants.{MAX_DATAGRAM}
use Rattle.stripe_plan.specs.declared.layer.LayerSize.{LayerSize}
use Rattle.stripe_plan.specs.Layers.{plan_ends}
use Rattle.stripe_plan.specs.Sizes.{length_over, planned, twofold}
use Rattle.packet_frame.specs.Frame.{Fields, IsFrameIn, text_in}
use Rattle.packet_frame.specs.laws.Formats.{format_is, old_format_is}
use Rattle.packet_frame.specs.laws.Laws.{texts_have_length_in}
use Rattle.store_text.specs.declared.format.StoreForm.{StoreForm}
use Rattle.store_text.specs.declared.format.TheConstants.{STORE_FORM, OLD_STORE_FORM}
use Rattle.store_text.specs.Form.{IsStoreForm, store_tag}

pub store_form_is : IsStoreForm STORE_FORM
store_form_is = record { mark = refl; tag = omega arith; frames = format_is; word = refl; plain = refl }

pub old_store_form_is : IsStoreForm OLD_STORE_FORM
old_store_form_is = record { mark = refl; tag = omega arith; frames = old_format_is; word = refl; plain = refl }

pub length-store_tag : (t : StoreForm) → IsStoreForm t → (bytes : List ℕ) → length (store_tag t bytes) ≡ t.tag
length-store_tag t form bytes = omega (arith, form.tag, length-take t.tag (sha256 bytes), length-sha256 bytes)

-- ---- a frame of a form

-- the layers whose words its plan cuts are its own
plain_by : (b : Bool) (layers : List LayerSize) → b ≡ false → (if b then map twofold layers else layers) ≡ layers
plain_by true layers e = absurd (cc)
plain_by false layers e = refl

pub plain_layers : (t : StoreForm) → IsStoreForm t → (layers : List LayerSize) → planned t.frames.bounds layers ≡ layers
plain_layers t form layers = plain_by t.frames.bounds.doubled layers form.plain

-- its text has the length that its table tells,
pub text_long : (t : StoreForm) → IsStoreForm t → (f : Fields) → IsFrameIn t.frames f
    → length (text_in t.frames f) ≡ length_over t.frames.bounds.bare f.layers
text_long t form f is =
    omega (
      arith,
      texts_have_length_in t.frames form.frames f is,
      form.frames.bare,
      ap (λ (w : ℕ). w * length (plan_ends (planned t.frames.bounds f.layers))) form.word,
      ap (λ (l : List LayerSize). length (plan_ends l)) (plain_layers t form f.layers),
    )

-- which is at most that of a datagram,
pub text_narrow : (t : StoreForm) → IsStoreForm t → (f : Fields) → IsFrameIn t.frames f
    → length (text_in t.frames f) ≤ MAX_DATAGRAM
text_narrow t form f is =
    let narrow : length_over t.frames.bounds.bare (planned t.frames.bounds f.layers) ≤ MAX_DATAGRAM = is.table.narrow in
    omega (
      arith,
      text_long t form f is,
      narrow,
      ap (λ (l : List LayerSize). length_over t.frames.bounds.bare l) (plain_layers t form f.layers),
    )

-- and so fits an entry
pub text_short : (t : StoreForm) → IsStoreForm t → (f : Fields) → IsFrameIn t.frames f
    → length (text_in t.frames f) < 65536
text_short t form f is = omega (arith, text_narrow t form f is)
