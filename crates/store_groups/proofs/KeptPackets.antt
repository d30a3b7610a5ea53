-- The packets of a store as those of a kept set: what is read of them, those of a file, and those of one group.
use Rattle.std.specs.Prelude.{option_map, slice_get, unwrap_or}
use Rattle.std.proofs.Common.{◌≡◌, ◌≢◌, ℕ, ◌+◌, ◌<◌, ◌≤◌, List, [], ◌∷◌, ◌++◌, length, All, None, Ok}
use Rattle.std.proofs.Common.{flat_map, take, true, false, Err, refl, sym, ap, subst, ◌∙◌, arith}
use Rattle.std.proofs.lemmas.List.{length-append, take_at}
use Rattle.std.proofs.lemmas.List.Elements.{All-head}
use Rattle.std.proofs.lemmas.List.Concat.{flat_map-append}
use Rattle.pet_base.specs.declared.limits.TheConstants.{MAX_SESSION}
use Rattle.pet_base.specs.Entries.{entry_text}
use Rattle.packet_frame.specs.Frame.{Fields, IsFrame, text}
use Rattle.packet_frame.specs.Refusals.{first_fault}
use Rattle.packet_set.specs.Packets.{Packets}
use Rattle.packet_verdicts.specs.KeptSet.{KeptSet, IsKeptSet, IsKeptGroup, empty_set}
use Rattle.packet_verdicts.specs.Union.{frames_in, frames_in_group}
use Rattle.packet_verdicts.specs.laws.FramesLaws.{frames_of, frames_are}
use Rattle.pet_receive.specs.ShownBytes.{groups_told}
use Rattle.store_groups.specs.declared.groups.GroupPackets.{GroupPackets}
use Rattle.store_text.specs.Files.{store_in}
use Rattle.store_text.specs.Refusals.{read_text, read_entries, session_of, many_of, entries_of}
use Rattle.store_text.specs.Refusals.{is_whole, datagram_in}
use Rattle.store_text.specs.Store.{entries_in}
use Rattle.store_text.specs.declared.fault.BadStore.{BadStore}
use Rattle.store_text.specs.declared.fault.BadStore.TheVariants.{At, NoMemory}
use Rattle.store_text.specs.declared.format.TheConstants.{STORE_FORM, HEAD_LENGTH}
use Rattle.store_text.specs.laws.FileLaws.{store_is_read}
use Rattle.store_text.specs.laws.FormLaws.{store_form_is}
use Rattle.store_text.specs.laws.InOrder.{in_order}
use Rattle.store_text.specs.laws.Leading.{leads_read}
use Rattle.store_text.specs.laws.LedKeptSets.{leads_make}
use Rattle.store_text.specs.laws.ManyFrames.{each_kept, group_many}
use Rattle.store_text.specs.laws.ReadLaws.{read_from, read_sound}
use Rattle.store_groups.specs.Groups.{ArePackets, AreAbove, frames_above}
use Rattle.store_groups.specs.inside.Groups.{IsCut, groups_in}
use Rattle.store_groups.specs.laws.GroupLaws.{frames_tell, above_tell, above_all, above_one, above_are}
use Rattle.store_merge.specs.laws.MergeAssociates.{same_Ok}
use Rattle.store_groups.proofs.GroupEntries.{at_front, front_fine, front_groups}

-- ---- what is read of the packets of a set

read_at : (set : KeptSet) → IsKeptSet set
    → read_entries (length (frames_in set)) HEAD_LENGTH (empty_set set.session set.limit) None
    (entries_in STORE_FORM (frames_in set)) ≡ Ok set
read_at set sound =
    leads_read STORE_FORM store_form_is (frames_in set) HEAD_LENGTH (empty_set set.session set.limit) None set
    (in_order STORE_FORM store_form_is (λ f is. is) set sound set.limit sound.within)

-- it is the set
packets_read : (packets : GroupPackets) (set : KeptSet) (limit : ℕ) → ArePackets packets set → set.limit ≡ limit
    → read_entries packets.count HEAD_LENGTH (empty_set packets.session limit) None packets.entries.now ≡ Ok set
packets_read packets set limit are most =
    ap (λ (n : ℕ). read_entries n HEAD_LENGTH (empty_set packets.session limit) None packets.entries.now) are.number
    ∙ ap (λ (s : List ℕ). read_entries (length (frames_in set)) HEAD_LENGTH (empty_set s limit) None
    packets.entries.now) are.of_session
    ∙ ap (λ (l : ℕ). read_entries (length (frames_in set)) HEAD_LENGTH (empty_set set.session l) None
    packets.entries.now) (sym most)
    ∙ ap (read_entries (length (frames_in set)) HEAD_LENGTH (empty_set set.session set.limit) None) are.text
    ∙ read_at set are.sound

pub read_is : (packets : GroupPackets) (set read first : KeptSet) (limit : ℕ) → ArePackets packets set
    → set.limit ≡ limit → first ≡ empty_set packets.session limit
    → read_entries packets.count HEAD_LENGTH first None packets.entries.now ≡ Ok read → read ≡ set
read_is packets set read first limit are most empty e =
    same_Ok read set
    (sym e ∙ ap (λ (s : KeptSet). read_entries packets.count HEAD_LENGTH s None packets.entries.now) empty
    ∙ packets_read packets set limit are most)

-- and nothing is refused
pub only_memory : (packets : GroupPackets) (set first : KeptSet) (limit : ℕ) (fault : BadStore) → ArePackets packets set
    → set.limit ≡ limit → first ≡ empty_set packets.session limit
    → (fault ≢ NoMemory → read_entries packets.count HEAD_LENGTH first None packets.entries.now ≡ Err fault)
    → fault ≡ NoMemory
only_memory packets set first limit NoMemory are most empty refused = refl
only_memory packets set first limit (At at kind) are most empty refused =
    let no : Err (At at kind) ≡ Ok set =
    sym (refused (λ e. cc))
    ∙ ap (λ (s : KeptSet). read_entries packets.count HEAD_LENGTH s None packets.entries.now) empty
    ∙ packets_read packets set limit are most in
    absurd (cc)

-- ---- the packets of a file

are_read : (bytes : List ℕ) (packets : GroupPackets) (set : KeptSet) → All (λ byte. byte < 256) bytes
    → read_text MAX_SESSION bytes ≡ Ok set → packets.session ≡ session_of bytes → packets.count ≡ many_of bytes
    → packets.entries.now ≡ entries_of STORE_FORM bytes → ArePackets packets set
are_read bytes packets set fits read session count entries =
    let from = read_from STORE_FORM store_form_is MAX_SESSION bytes set read in
    let grown = leads_make from.frames (session_of bytes) MAX_SESSION set from.leads in
    record {
      sound = read_sound MAX_SESSION bytes set read;
      of_session = session ∙ sym grown.session;
      number = count ∙ sym from.many ∙ sym (ap length grown.frames);
      text = entries ∙ from.entries fits ∙ sym (ap (entries_in STORE_FORM) grown.frames);
    }

pub of_file : (bytes : List ℕ) (packets : GroupPackets) (set : KeptSet) → All (λ byte. byte < 256) bytes
    → store_in bytes ≡ Ok set → packets.session ≡ session_of bytes → packets.count ≡ many_of bytes
    → packets.entries.now ≡ entries_of STORE_FORM bytes → ArePackets packets set
of_file bytes packets set fits is session count entries =
    are_read bytes packets set fits (store_is_read bytes set is) session count entries

-- ---- the number of groups

-- without a frame no group is open
none_told : (set : KeptSet) → IsKeptSet set → frames_in set ≡ [] → groups_told set ≡ 0
none_told set sound none = by set.groups (each_kept set sound) none
  where
    by : (es : List (ℕ × Packets)) → All (λ e. IsKeptGroup set.session e.0 e.1) es
        → flat_map (λ (e : ℕ × Packets). frames_in_group e.1) es ≡ []
        → unwrap_or (option_map (λ (e : ℕ × Packets). e.1.header.groups) (slice_get es 0)) 0 ≡ 0
    by [] kept empty = refl
    by (e ∷ es) kept empty =
        let some = (kept 0 e (omega arith)).some in
        absurd (omega (
          arith,
          some,
          group_many e.1,
          ap length empty,
          length-append (frames_in_group e.1) (flat_map (λ (d : ℕ × Packets). frames_in_group d.1) es),
        ))

first_by : (packets : GroupPackets) (set : KeptSet) (datagram : List ℕ) → ArePackets packets set
    → is_whole packets.entries.now ≡ true → datagram ≡ datagram_in packets.entries.now → (fs : List Fields)
    → frames_in set ≡ fs → (first_fault datagram ≡ None) × (groups_in datagram ≡ groups_told set)
first_by packets set datagram are whole is [] all =
    let no : false ≡ true = sym (ap is_whole (are.text ∙ ap (entries_in STORE_FORM) all)) ∙ whole in absurd (cc)
first_by packets set datagram are whole is (f ∷ more) all =
    let fine : IsFrame f =
    All-head IsFrame f more (subst (λ (fs : List Fields). All IsFrame fs) all (frames_are set are.sound)) in
    let front = at_front f more packets.entries.now fine (are.text ∙ ap (entries_in STORE_FORM) all) in
    let tells = above_tell set are.sound 0 in
    let first = All-head (λ (g : Fields). (0 ≤ g.group) × (g.groups ≡ groups_told set)) f more
    (subst (λ (fs : List Fields). All (λ (g : Fields). (0 ≤ g.group) × (g.groups ≡ groups_told set)) fs)
    (above_all set are.sound ∙ all) tells) in (
      front_fine f datagram fine (is ∙ front.datagram),
      front_groups f datagram fine (is ∙ front.datagram) ∙ first.1,
    )

-- the first frame tells it
pub first_tells : (packets : GroupPackets) (set : KeptSet) (datagram : List ℕ) → ArePackets packets set
    → is_whole packets.entries.now ≡ true → datagram ≡ datagram_in packets.entries.now
    → (first_fault datagram ≡ None) × (groups_in datagram ≡ groups_told set)
first_tells packets set datagram are whole is = first_by packets set datagram are whole is (frames_in set) refl

cut_by : (packets : GroupPackets) (set : KeptSet) → ArePackets packets set → is_whole packets.entries.now ≡ false
    → (fs : List Fields) → frames_in set ≡ fs → groups_told set ≡ 0
cut_by packets set are cut [] all = none_told set are.sound all
cut_by packets set are cut (f ∷ more) all =
    let fine : IsFrame f =
    All-head IsFrame f more (subst (λ (fs : List Fields). All IsFrame fs) all (frames_are set are.sound)) in
    let front = at_front f more packets.entries.now fine (are.text ∙ ap (entries_in STORE_FORM) all) in
    let no : true ≡ false = sym front.whole ∙ cut in
    absurd (cc)

-- and where no entry stands there, there are none
pub none_tell : (packets : GroupPackets) (set : KeptSet) → ArePackets packets set
    → is_whole packets.entries.now ≡ false → groups_told set ≡ 0
none_tell packets set are cut = cut_by packets set are cut (frames_in set) refl

-- ---- those of a group, and those of the groups above it

pub cut_of : (packets : GroupPackets) (set : KeptSet) (group : ℕ) → AreAbove packets set group
    → group < groups_told set
    → IsCut group packets.count packets.entries.now (frames_of set group) (frames_above set (group + 1))
cut_of packets set group are inside =
    let one = above_one set group inside in
    record {
      all = record {
        frame = subst (λ (fs : List Fields). All IsFrame fs) one (above_are set are.sound group);
        number = are.number ∙ ap length one;
        text = are.text ∙ ap (entries_in STORE_FORM) one;
      };
      here = λ i d l. (frames_tell set are.sound group i d l).0;
      past = λ i d l same. omega (arith, (above_tell set are.sound (group + 1) i d l).0, same);
    }

-- the entries in front of the others
pub front_text : (own other : List Fields) (entries : List ℕ) (at : ℕ)
    → entries ≡ entries_in STORE_FORM (own ++ other) → at + length (entries_in STORE_FORM other) ≡ length entries
    → take at entries ≡ entries_in STORE_FORM own
front_text own other entries at is long =
    let both = flat_map-append (λ (f : Fields). entry_text (text f)) own other in
    ap (take at) (is ∙ both)
    ∙ take_at (entries_in STORE_FORM own) (entries_in STORE_FORM other) at
    (omega (
      arith,
      long,
      ap length (is ∙ both),
      length-append (entries_in STORE_FORM own) (entries_in STORE_FORM other),
    ))

module _ (packets : GroupPackets) (set : KeptSet) (group : ℕ) (are : AreAbove packets set group)
    (inside : group < groups_told set) where
  -- where these are the others behind those of the group
  pub short_rest : (other : List ℕ) → other ≡ entries_in STORE_FORM (frames_above set (group + 1))
      → length other ≤ length packets.entries.now
  short_rest other there =
      let all = (cut_of packets set group are inside).all.text in
      omega (
        arith,
        ap length there,
        ap length (all ∙ flat_map-append (λ (f : Fields). entry_text (text f)) (frames_of set group)
            (frames_above set (group + 1))),
        length-append (entries_in STORE_FORM (frames_of set group))
            (entries_in STORE_FORM (frames_above set (group + 1))),
      )

  -- and so many are of the group
  pub many_rest : (count : ℕ) → count ≡ length (frames_of set group)
      → packets.count ≡ count + length (frames_above set (group + 1))
  many_rest count many =
      omega (
        arith,
        many,
        (cut_of packets set group are inside).all.number,
        length-append (frames_of set group) (frames_above set (group + 1)),
      )
