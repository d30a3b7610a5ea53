-- The entries of a store, one after the other: the first of some frames stand at the front, and those of a group.
use Rattle.std.specs.Prelude.{option_map, option_and_then, unwrap_or}
use Rattle.std.proofs.Common.{◌≡◌, ◌≤◌, ℕ, ◌+◌, ◌-◌, zero, suc, List, [], ◌∷◌, ◌++◌, length, Option, None, Some, refl}
use Rattle.std.proofs.Common.{sym, ap, ◌∙◌, subst, arith}
use Rattle.std.specs.Option.{option_map_or}
use Rattle.std.specs.List.{flat_map, filter_map, cons_option, range_with_len}
use Rattle.std.proofs.lemmas.List.{append-nil}
use Rattle.std.proofs.lemmas.List.Elements.{filter_map-append}
use Rattle.std.proofs.lemmas.Grind.{flat_map-append}
use Rattle.std.proofs.lemmas.Option.{same_Some}
use Rattle.pet_base.specs.Entries.{entry_text}
use Rattle.outside_files.specs.Outputs.{IsPrefix}
use Rattle.packet_frame.specs.Frame.{Fields, text}
use Rattle.packet_frame.specs.View.{fields_with}
use Rattle.packet_frame.specs.declared.frame.Header.{Header}
use Rattle.packet_set.specs.Packets.{Packets, slot_at}
use Rattle.packet_session.specs.Datagrams.{entries_text}
use Rattle.packet_verdicts.specs.KeptSet.{KeptSet, IsKeptSet, told_by, open_group}
use Rattle.packet_verdicts.specs.Union.{frames_in, frames_in_group}
use Rattle.packet_verdicts.specs.laws.FramesLaws.{frames_of, first_frames, frame_at}
use Rattle.store_text.specs.laws.PuttingLaws.{entries_append}
use Rattle.store_merge.proofs.Appended.{all_groups}

-- ---- the first of some frames stand at the front

range_split : (a k m : ℕ) → range_with_len a (k + m) ≡ range_with_len a k ++ range_with_len (a + k) m
range_split a zero m =
    let none : zero + m ≡ m = omega arith in
    let here : a ≡ a + zero = omega arith in
    ap (λ n. range_with_len a n) none ∙ ap (λ b. range_with_len b m) here
range_split a (suc k) m =
    let more : suc k + m ≡ suc (k + m) = omega arith in
    let next : a + 1 + k ≡ a + suc k = omega arith in
    ap (λ n. range_with_len a n) more ∙ ap (λ (t : List ℕ). a ∷ t) (range_split (a + 1) k m)
    ∙ ap (λ b. (a ∷ range_with_len (a + 1) k) ++ range_with_len b m) next

range_front : (n all : ℕ) → n ≤ all → range_with_len 0 all ≡ range_with_len 0 n ++ range_with_len n (all - n)
range_front n all l =
    let parts : all ≡ n + (all - n) = omega arith in
    let here : 0 + n ≡ n = omega arith in
    ap (λ k. range_with_len 0 k) parts ∙ range_split 0 n (all - n)
    ∙ ap (λ b. range_with_len 0 n ++ range_with_len b (all - n)) here

-- of the packets of a group
pub numbers_front : (p : Packets) (n all : ℕ) → n ≤ all
    → IsPrefix (entries_text (first_frames p n)) (entries_text (first_frames p all))
numbers_front p n all l =
    let one : ℕ → Option Fields = λ number. option_map (fields_with p.header number) (slot_at p number) in (
      entries_text (filter_map one (range_with_len n (all - n))),
      ap (λ (r : List ℕ). entries_text (filter_map one r)) (range_front n all l)
          ∙ ap entries_text (filter_map-append one (range_with_len 0 n) (range_with_len n (all - n)))
          ∙ entries_append (first_frames p n) (filter_map one (range_with_len n (all - n))),
    )

-- of all groups
pub groups_front : (set : KeptSet) (n all : ℕ) → n ≤ all
    → IsPrefix (entries_text (flat_map (frames_of set) (range_with_len 0 n)))
    (entries_text (flat_map (frames_of set) (range_with_len 0 all)))
groups_front set n all l = (
  entries_text (flat_map (frames_of set) (range_with_len n (all - n))),
  ap (λ (r : List ℕ). entries_text (flat_map (frames_of set) r)) (range_front n all l)
      ∙ ap entries_text (flat_map-append (frames_of set) (range_with_len 0 n) (range_with_len n (all - n)))
      ∙ entries_append (flat_map (frames_of set) (range_with_len 0 n))
      (flat_map (frames_of set) (range_with_len n (all - n))),
)

pub told_front : (set : KeptSet) → IsKeptSet set → (told : Option ℕ) (n groups : ℕ) → told ≡ told_by set
    → groups ≡ unwrap_or told 0 → n ≤ groups
    → IsPrefix (entries_text (flat_map (frames_of set) (range_with_len 0 n))) (entries_text (frames_in set))
told_front set sound told n groups is many l =
    subst (λ (fs : List Fields). IsPrefix (entries_text (flat_map (frames_of set) (range_with_len 0 n))) (entries_text fs))
    (all_groups set sound told groups is many) (groups_front set n groups l)

-- ---- a group

-- what holds of the packets of an open group holds of the frames that are kept of it
pub by_open : (set : KeptSet) (group packets : ℕ) (header : Header) (P : List Fields → Type 0) → IsKeptSet set
    → option_map (λ (p : Packets). p.header) (open_group set group) ≡ Some header → packets ≡ header.table.packets
    → ((p : Packets) → open_group set group ≡ Some p → P (first_frames p packets)) → P (frames_of set group)
by_open set group packets header P sound is many each = at (open_group set group) refl is
  where
    at : (o : Option Packets) → open_group set group ≡ o → option_map (λ (p : Packets). p.header) o ≡ Some header
        → P (option_map_or frames_in_group o [])
    at None opened e = absurd (cc)
    at (Some p) opened e =
        let same : p.header ≡ header = same_Some p.header header e in
        let long : packets ≡ length p.slots =
        many ∙ ap (λ (h : Header). h.table.packets) (sym same) ∙ sym (sound.groups group p opened).slots in
        subst (λ n. P (first_frames p n)) long (each p opened)

-- where it is not open there are none
pub no_group : (o : Option Packets) → None ≡ option_map (λ (p : Packets). p.header) o
    → option_map_or frames_in_group o [] ≡ []
no_group None is = refl
no_group (Some p) is = absurd (cc)

-- ---- one packet

module _ (o : Option Packets) (p : Packets) (number : ℕ) (opened : o ≡ Some p) where
  slot_is : (slot : Option (List ℕ)) → slot ≡ option_and_then (λ (q : Packets). slot_at q number) o
      → slot_at p number ≡ slot
  slot_is slot is = sym (ap (option_and_then (λ (q : Packets). slot_at q number)) opened) ∙ sym is

  pub none_here : None ≡ option_and_then (λ (q : Packets). slot_at q number) o → cons_option (frame_at p number) [] ≡ []
  none_here is =
      ap (λ (slot : Option (List ℕ)). cons_option (option_map (fields_with p.header number) slot) []) (slot_is None is)

  pub some_here : (header : Header) (payload : List ℕ) → option_map (λ (q : Packets). q.header) o ≡ Some header
      → Some payload ≡ option_and_then (λ (q : Packets). slot_at q number) o
      → entries_text (cons_option (frame_at p number) []) ≡ entry_text (text (fields_with header number payload))
  some_here header payload is there =
      let same : p.header ≡ header =
      same_Some p.header header (sym (ap (option_map (λ (q : Packets). q.header)) opened) ∙ is) in
      ap (λ (slot : Option (List ℕ)). entries_text (cons_option (option_map (fields_with p.header number) slot) []))
      (slot_is (Some payload) there)
      ∙ append-nil (entry_text (text (fields_with p.header number payload)))
      ∙ ap (λ (h : Header). entry_text (text (fields_with h number payload))) same
