-- A store of the first version is no longer than that of today with the same packets.
use Rattle.std.proofs.Common.{◌≡◌, ℕ, ◌≤◌, List, [], ◌∷◌, ◌++◌, length, refl, arith}
use Rattle.std.specs.Int.{w16, w32, to_be_bytes}
use Rattle.std.specs.List.{flat_map}
use Rattle.std.proofs.lemmas.List.{length-append}
use Rattle.pet_base.specs.Entries.{entry_text}
use Rattle.packet_frame.specs.declared.format.TheConstants.{FORMAT, OLD_FORMAT}
use Rattle.packet_frame.specs.Frame.{Fields, layer_text, tag_of, text_in, text_before_tag}
use Rattle.packet_frame.specs.laws.Again.{length-tag}
use Rattle.packet_frame.specs.laws.Formats.{format_is, old_format_is}
use Rattle.store_text.specs.declared.format.TheConstants.{STORE_FORM, OLD_STORE_FORM}
use Rattle.store_text.specs.Form.{store_tag}
use Rattle.store_text.specs.Store.{entries_in, store_of_in, text_before_tag_in}
use Rattle.store_text.specs.laws.FormLaws.{store_form_is, old_store_form_is, length-store_tag}

-- what stands before the tag of a frame is as long in both,
same_front : (f : Fields) → length (text_before_tag OLD_FORMAT f) ≡ length (text_before_tag FORMAT f)
same_front f = refl

-- and so the frame is shorter,
shorter_frame : (f : Fields) → length (text_in OLD_FORMAT f) ≤ length (text_in FORMAT f)
unfolding text_in
shorter_frame f =
    let old = text_before_tag OLD_FORMAT f in
    let new = text_before_tag FORMAT f in
    omega (
      arith,
      same_front f,
      length-append old (tag_of OLD_FORMAT old),
      length-append new (tag_of FORMAT new),
      length-tag OLD_FORMAT old_format_is old,
      length-tag FORMAT format_is new,
    )

shorter_entries : (frames : List Fields)
    → length (entries_in OLD_STORE_FORM frames) ≤ length (entries_in STORE_FORM frames)
shorter_entries [] = omega arith
shorter_entries (f ∷ rest) =
    let old = text_in OLD_FORMAT f in
    let new = text_in FORMAT f in
    omega (
      arith,
      length-append (entry_text old) (entries_in OLD_STORE_FORM rest),
      length-append (entry_text new) (entries_in STORE_FORM rest),
      length-append (to_be_bytes w16 (length old)) old,
      length-append (to_be_bytes w16 (length new)) new,
      shorter_frame f,
      shorter_entries rest,
    )

-- the heads are as long
same_head : (session count : List ℕ)
    → length (OLD_STORE_FORM.mark ++ session ++ count) ≡ length (STORE_FORM.mark ++ session ++ count)
same_head session count = refl

-- and the store
pub shorter_store : (session : List ℕ) (frames : List Fields)
    → length (store_of_in OLD_STORE_FORM session frames) ≤ length (store_of_in STORE_FORM session frames)
unfolding store_of_in
shorter_store session frames =
    let old = text_before_tag_in OLD_STORE_FORM session frames in
    let new = text_before_tag_in STORE_FORM session frames in
    let count = to_be_bytes w32 (length frames) in
    omega (
      arith,
      length-append old (store_tag OLD_STORE_FORM old),
      length-append new (store_tag STORE_FORM new),
      length-store_tag OLD_STORE_FORM old_store_form_is old,
      length-store_tag STORE_FORM store_form_is new,
      length-append (OLD_STORE_FORM.mark ++ session ++ count) (entries_in OLD_STORE_FORM frames),
      length-append (STORE_FORM.mark ++ session ++ count) (entries_in STORE_FORM frames),
      same_head session count,
      shorter_entries frames,
    )
