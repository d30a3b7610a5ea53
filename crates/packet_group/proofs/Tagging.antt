-- The tags that are kept stay those of kept packets, where one packet more is kept.
use Rattle.std.specs.Prelude.{MatchOption, option_map}
use Rattle.std.proofs.Common.{◌≡◌, ℕ, List, Option, None, Some, sym, ap, ◌∙◌, subst, inl, inr}
use Rattle.std.proofs.lemmas.Bool.{cases_eq}
use Rattle.std.proofs.lemmas.List.{get_or-set_other}
use Rattle.packet_frame.specs.View.{fields_with}
use Rattle.packet_set.specs.Packets.{Packets, slot_at, with_packet}
use Rattle.packet_group.specs.Tags.{frame_tag, tag_at, IsTagOf, AreTagsOf}

pub tags_stay : (p : Packets) (number : ℕ) (payload : List ℕ) (tags : List (Option (List ℕ)))
    → slot_at p number ≡ None → AreTagsOf p tags → AreTagsOf (with_packet p number payload) tags
tags_stay p number payload tags none are i tag is =
    let Told : ℕ → Option (List ℕ) → Type 0 = λ j slot.
    MatchOption slot ⊥ (λ payload. tag ≡ frame_tag (fields_with p.header j payload)) in
    elim (cases_eq i number) [
      | inl here ↦
          let told : Told number (slot_at p number) = subst (λ j. IsTagOf p j tag) here (are i tag is) in
          absurd (subst (Told number) none told)
      | inr other ↦ subst (Told i) (sym (get_or-set_other p.slots number i (Some payload) None other)) (are i tag is)
    ]

-- the tag of a kept packet, where it is made anew, and where it stands beside the packet
pub tag_made : (p : Packets) (number : ℕ) (payload tag : List ℕ) → Some payload ≡ slot_at p number
    → tag ≡ frame_tag (fields_with p.header number payload) → Some tag ≡ tag_at p number
tag_made p number payload tag slot is =
    ap (λ (t : List ℕ). Some t) is ∙ ap (option_map (λ x. frame_tag (fields_with p.header number x))) slot

pub tag_stored : (p : Packets) (number : ℕ) (payload tag : List ℕ) → Some payload ≡ slot_at p number
    → IsTagOf p number tag → Some tag ≡ tag_at p number
tag_stored p number payload tag slot is =
    tag_made p number payload tag slot
    (subst (λ s. MatchOption s ⊥ (λ x. tag ≡ frame_tag (fields_with p.header number x))) (sym slot) is)
