-- The tags of frames: that of a frame that was read, and that of a packet which an open group has kept.
use Rattle.std.specs.Prelude.{IfSome, MatchOption, if◌then◌else◌, slice_index_or}
use Rattle.std.proofs.Common.{◌≡◌, ℕ, ◌-◌, ◌<◌, Bool, false, List, All, map, length, drop, Option, None, Some}
use Rattle.std.proofs.Common.{refl, sym, ap, ◌∙◌, subst, arith}
use Rattle.std.proofs.lemmas.List.{get_or-set_same, drop_at, length-append}
use Rattle.packet_frame.specs.declared.format.Format.{Format}
use Rattle.packet_frame.specs.declared.format.TheConstants.{FORMAT}
use Rattle.packet_frame.specs.Format.{IsFormat}
use Rattle.packet_frame.specs.Frame.{Fields, tag_of, text_in, text_before_tag}
use Rattle.packet_frame.specs.Planned.{halved, unplanned, by_text, planned_fields}
use Rattle.packet_frame.specs.Refusals.{first_fault_in}
use Rattle.packet_frame.specs.View.{fields_with}
use Rattle.packet_frame.specs.laws.Again.{length-tag}
use Rattle.packet_frame.specs.laws.PlannedLaws.{planned_spelled}
use Rattle.packet_set.specs.Packets.{Packets, slot_at, with_packet}
use Rattle.packet_group.specs.Tags.{frame_tag, IsTagOf, AreTagsOf}
use Rattle.packet_verdicts.specs.KeptSet.{header_of}

-- ---- of a frame that was read

-- of a format whose plan cuts the layers that a frame tells, the text is that of the fields
plain : (t : Format) (f : Fields) → t.bounds.doubled ≡ false → by_text t f ≡ f
plain t f e =
    let layers : unplanned t.bounds f.layers ≡ f.layers =
    ap (λ (b : Bool). if b then map halved f.layers else f.layers) e in
    λ i. record f { layers = layers i }

-- the last bytes of a text are its tag
ends_in : (t : Format) (f : Fields) (bytes : List ℕ) → IsFormat t → bytes ≡ text_in t f
    → drop (length bytes - t.tag) bytes ≡ tag_of t (text_before_tag t f)
unfolding text_in
ends_in t f bytes format is =
    let front = text_before_tag t f in
    let start : length bytes - t.tag ≡ length front =
    omega (arith, ap length is, length-append front (tag_of t front), length-tag t format front) in
    ap (λ n. drop n bytes) start ∙ ap (drop (length front)) is ∙ drop_at front (tag_of t front) (length front) refl

pub read_tag : (t : Format) (bytes : List ℕ) → IsFormat t → All (λ byte. byte < 256) bytes
    → first_fault_in t bytes ≡ None → t.mark ≡ FORMAT.mark → t.tag ≡ FORMAT.tag → t.bounds.doubled ≡ false
    → drop (length bytes - FORMAT.tag) bytes ≡ frame_tag (planned_fields t bytes)
read_tag t bytes format fits fine mark size single =
    let f = planned_fields t bytes in
    let is : bytes ≡ text_in t f = planned_spelled t format bytes fits fine ∙ ap (text_in t) (plain t f single) in
    let front : text_before_tag t f ≡ text_before_tag FORMAT f =
    ap (λ m. text_before_tag (record FORMAT { mark = m }) f) mark in
    ap (λ n. drop (length bytes - n) bytes) (sym size) ∙ ends_in t f bytes format is
    ∙ ap (tag_of t) front ∙ ap (λ n. tag_of (record FORMAT { tag = n }) (text_before_tag FORMAT f)) size

-- ---- of a packet that a group has kept

tag_here : (p after : Packets) (f : Fields) (tag : List ℕ) → p.header ≡ header_of f → f.number < length p.slots
    → after ≡ with_packet p f.number f.payload → tag ≡ frame_tag f → IsTagOf after f.number tag
tag_here p after f tag header inside put is =
    let told : tag ≡ frame_tag (fields_with p.header f.number f.payload) =
    is ∙ ap (λ h. frame_tag (fields_with h f.number f.payload)) (sym header) in
    subst (λ q. IsTagOf q f.number tag) (sym put)
    (subst (λ slot. MatchOption slot ⊥ (λ payload. tag ≡ frame_tag (fields_with p.header f.number payload)))
    (sym (get_or-set_same p.slots f.number (Some f.payload) None inside)) told)

pub kept_tag : (p after : Packets) (f : Fields) (tag : Option (List ℕ)) → p.header ≡ header_of f
    → f.number < length p.slots → after ≡ with_packet p f.number f.payload → IfSome tag (λ t. t ≡ frame_tag f)
    → IfSome tag (IsTagOf after f.number)
kept_tag p after f None header inside put is = tt
kept_tag p after f (Some tag) header inside put is = tag_here p after f tag header inside put is

-- another receiver's tag of the same packet is one here
pub joined_tag : (p theirs after : Packets) (number : ℕ) (payload : List ℕ) (tags : List (Option (List ℕ)))
    (tag : Option (List ℕ)) → p.header ≡ theirs.header → number < length p.slots
    → slot_at theirs number ≡ Some payload → after ≡ with_packet p number payload → AreTagsOf theirs tags
    → slice_index_or tags number None ≡ tag → IfSome tag (IsTagOf after number)
joined_tag p theirs after number payload tags None header inside slot put are is = tt
joined_tag p theirs after number payload tags (Some tag) header inside slot put are is =
    let told = subst (λ slot. MatchOption slot ⊥ (λ payload. tag ≡ frame_tag (fields_with theirs.header number payload)))
    slot (are number tag is) in
    tag_here p after (fields_with theirs.header number payload) tag header inside put told
