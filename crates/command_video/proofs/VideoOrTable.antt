-- A group of a store has a video, or a bad table, and not both.
use Rattle.std.proofs.Common.{◌≡◌, ℕ, ◌+◌, ◌<◌, ◌≤◌, true, false, List, [], length, get_or, Some, sym, ap, subst, ◌∙◌}
use Rattle.std.proofs.Common.{arith, inl, inr}
use Rattle.std.proofs.lemmas.Bool.{cases_lt}
use Rattle.std.proofs.lemmas.Option.{same_Some}
use Rattle.field_elements.specs.Gf16.{gf16_coding}
use Rattle.field_elements.specs.laws.Gf16Laws.{gf16_lawful}
use Rattle.stripe_plan.specs.Counts.{Meets}
use Rattle.stripe_plan.specs.Layers.{plan_stripes, words_before}
use Rattle.stripe_plan.proofs.PlanLemmas.{plan_ends_plan}
use Rattle.packet_set.specs.Packets.{Packets}
use Rattle.layer_split.specs.RunTable.{fits}
use Rattle.packet_session.specs.Payload.{stripes_in}
use Rattle.pet_receive.specs.Arrivals.{layers_of}
use Rattle.packet_verdicts.specs.KeptSet.{KeptSet, IsKeptSet, open_group}
use Rattle.pet_receive.specs.ShownBytes.{IsShown, IsShownBytes}
use Rattle.packet_group.proofs.Agreement.{same_bytes}
use Rattle.reassemble.specs.Leading.{IsUnfit, lengths_in}
use Rattle.reassemble.proofs.Layers.{shown_in}
use Rattle.store_text.specs.laws.ManyFrames.{group_frame}
use Rattle.command_video.specs.StoreVideo.{IsGroupVideo, HasBadTable, numbers_in}

-- the packets determine the bytes of a shown layer
shown_once : (set : KeptSet) (group : ℕ) (p : Packets) → IsKeptSet set → open_group set group ≡ Some p
    → (numbers : List ℕ) (layer : ℕ) → layer < length (layers_of p) → (a b : List ℕ)
    → IsShownBytes (λ a. a < 65536) gf16_coding p numbers layer a
    → IsShownBytes (λ a. a < 65536) gf16_coding p numbers layer b → a ≡ b
shown_once set group p sound here numbers layer inside a b one other =
    let table = (group_frame set.session group p (sound.groups group p here)).frame.table in
    one.bytes_are
    ∙ same_bytes (λ a. a < 65536) gf16_coding gf16_lawful.spellings (layers_of p) layer inside
    (plan_ends_plan (layers_of p) table.needed) one.message other.message one.is_message other.is_message same_stripe
    ∙ sym other.bytes_are
  where
    same_stripe : (j : ℕ) → j < length (plan_stripes (layers_of p))
        → Meets (words_before (layers_of p) layer) (words_before (layers_of p) (layer + 1))
        (get_or (plan_stripes (layers_of p)) j (0, 0))
        → get_or (stripes_in gf16_coding (layers_of p) one.message) j []
        ≡ get_or (stripes_in gf16_coding (layers_of p) other.message) j []
    same_stripe j below meets =
        let x = one.stripes j below meets in
        let y = other.stripes j below meets in
        y.only (get_or (stripes_in gf16_coding (layers_of p) one.message) j []) x.long x.elements x.through

pub not_both : (set : KeptSet) (group : ℕ) → IsKeptSet set → HasBadTable set group → (video : List ℕ)
    → IsGroupVideo set group video → ⊥
not_both set group sound bad video (inl none) = none.0 bad.shown
not_both set group sound bad video (inr is) =
    let p = is.packets in
    let a = is.assembled in
    let same : bad.packets ≡ p = same_Some bad.packets p (sym bad.is_open ∙ is.is_open) in
    let unfit : IsUnfit (λ a. a < 65536) gf16_coding p (numbers_in set group) =
    subst (λ (q : Packets). IsUnfit (λ a. a < 65536) gf16_coding q (numbers_in set group)) same bad.unfit in
    let inside = (shown_in set group 0 p is.is_open is.shown).0 in
    let first : get_or a.layers 0 [] ≡ unfit.first =
    shown_once set group p sound is.is_open (numbers_in set group) 0 inside (get_or a.layers 0 []) unfit.first
    (a.bytes 0 (some is.many is.leading.next (omega (arith, a.many)))) unfit.bytes in
    no_truth (sym a.fits_them ∙ ap (λ (b : List ℕ). fits b (lengths_in p)) first ∙ unfit.unfit)
  where
    no_truth : true ≡ false → ⊥
    no_truth e = cc

    some : (many : ℕ) → (IsShown set group many → ⊥) → many ≤ length is.assembled.layers
        → 0 < length is.assembled.layers
    some many next long =
        elim (cases_lt 0 many) [
          | inl more ↦ omega (arith, more, long)
          | inr none ↦ absurd (next (subst (λ (k : ℕ). IsShown set group k) (omega (arith, none)) is.shown))
        ]
