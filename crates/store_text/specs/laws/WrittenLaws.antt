-- Laws of what is written of a kept set, for callers: it is read again as the set, and tells which set it is.
use Rattle.std.proofs.Common.{◌≡◌, ℕ, ◌+◌, ◌^◌, ◌<◌, ◌≤◌, Bool, true, false, not, ltb, List, ◌++◌, length, take, drop}
use Rattle.std.proofs.Common.{None, Result, Ok, Err, append_assoc, refl, sym, ap, ◌∙◌, arith}
use Rattle.std.specs.Prelude.{if◌then◌else◌}
use Rattle.std.specs.Int.{w32, from_be_bytes, to_be_bytes}
use Rattle.std.specs.Str.{bytes_eq}
use Rattle.std.proofs.lemmas.Bool.{le-ltb}
use Rattle.std.proofs.lemmas.Slice.Eq.{bytes_eq-Decides}
use Rattle.std.proofs.lemmas.List.{length-append, take_at, drop_at}
use Rattle.std.proofs.lemmas.Nat.{from_be_bytes-to_be_bytes_4}
use Rattle.packet_frame.specs.Frame.{Fields}
use Rattle.packet_verdicts.specs.KeptSet.{KeptSet, IsKeptSet, empty_set, cost_kept}
use Rattle.packet_verdicts.specs.Union.{frames_in}
use Rattle.store_text.specs.declared.format.StoreForm.{StoreForm}
use Rattle.store_text.specs.declared.format.TheConstants.{STORE_FORM, HEAD_LENGTH}
use Rattle.store_text.specs.declared.fault.StoreKind.TheVariants.{Cut, Magic}
use Rattle.store_text.specs.declared.fault.BadStore.{BadStore}
use Rattle.store_text.specs.declared.fault.BadStore.TheVariants.{At}
use Rattle.store_text.specs.Form.{IsStoreForm, store_tag}
use Rattle.store_text.specs.Store.{store_text, store_of_in, entries_in, text_before_tag_in}
use Rattle.store_text.specs.Refusals.{tag_place, then_tag_in, ends_in_store_tag, session_of, many_of, entries_of}
use Rattle.store_text.specs.Refusals.{costs_in, read_entries_in, read_text_in, read_text}
use Rattle.store_text.specs.laws.FormLaws.{store_form_is, length-store_tag}
use Rattle.store_text.specs.laws.Leading.{Leads, leads_read, same_Ok}
use Rattle.store_text.specs.laws.InOrder.{in_order, AreAllFrames}
use Rattle.store_text.specs.laws.ManyFrames.{few_frames}

none_refused : (t : StoreForm) (a b : Bool) (x y : BadStore) (set : KeptSet) (rest : Result KeptSet BadStore)
    (bytes : List ℕ) → a ≡ false → b ≡ true → rest ≡ Ok set → ends_in_store_tag t bytes ≡ true
    → (if a then Err x else if not b then Err y else then_tag_in t bytes rest) ≡ Ok set
none_refused t a b x y set rest bytes ea eb er et = rw (ea, eb, er, et) refl

-- ---- five pieces on end, cut at their places

module _ (t : StoreForm) (form : IsStoreForm t) (mark session count entries tag : List ℕ) (four : length mark ≡ 4)
    (eight : length session ≡ 8) (four_more : length count ≡ 4) (size : length tag ≡ t.tag) where
  abbrev front : List ℕ
  front = mark ++ session ++ count ++ entries

  abbrev pieces : List ℕ
  pieces = front ++ tag

  long_front : length front ≡ 16 + length entries
  long_front =
      omega (
        arith,
        length-append (mark ++ session ++ count) entries,
        length-append (mark ++ session) count,
        length-append mark session,
        four,
        eight,
        four_more,
      )

  long_pieces : length pieces ≡ length front + t.tag
  long_pieces = omega (arith, length-append front tag, size)

  from_count : pieces ≡ (mark ++ session) ++ (count ++ (entries ++ tag))
  from_count =
      append_assoc (mark ++ session ++ count) entries tag ∙ append_assoc (mark ++ session) count (entries ++ tag)

  from_session : pieces ≡ mark ++ (session ++ (count ++ (entries ++ tag)))
  from_session = from_count ∙ append_assoc mark session (count ++ (entries ++ tag))

  take_mark : take 4 pieces ≡ mark
  take_mark = ap (take 4) from_session ∙ take_at mark (session ++ (count ++ (entries ++ tag))) 4 four

  take_session : take 8 (drop 4 pieces) ≡ session
  take_session =
      ap (λ t. take 8 (drop 4 t)) from_session
      ∙ ap (take 8) (drop_at mark (session ++ (count ++ (entries ++ tag))) 4 four)
      ∙ take_at session (count ++ (entries ++ tag)) 8 eight

  take_count : take 4 (drop 12 pieces) ≡ count
  take_count =
      let twelve : length (mark ++ session) ≡ 12 = omega (arith, length-append mark session, four, eight) in
      ap (λ t. take 4 (drop 12 t)) from_count
      ∙ ap (take 4) (drop_at (mark ++ session) (count ++ (entries ++ tag)) 12 twelve)
      ∙ take_at count (entries ++ tag) 4 four_more

  take_front : take (tag_place t pieces) pieces ≡ front
  take_front = take_at front tag (tag_place t pieces) (omega (arith, long_pieces))

  drop_front : drop (tag_place t pieces) pieces ≡ tag
  drop_front = drop_at front tag (tag_place t pieces) (omega (arith, long_pieces))

  drop_head : entries_of t pieces ≡ entries
  drop_head =
      let head : length (mark ++ session ++ count) ≡ 16 =
      omega (arith, length-append (mark ++ session) count, length-append mark session, four, eight, four_more) in
      ap (drop 16) take_front ∙ drop_at (mark ++ session ++ count) entries 16 head

  -- read as a store
  read_pieces : (limit n : ℕ) (target : KeptSet) → mark ≡ t.mark → from_be_bytes w32 count ≡ n
      → tag ≡ store_tag t front → read_entries_in t n HEAD_LENGTH (empty_set session limit) None entries ≡ Ok target
      → read_text_in t limit pieces ≡ Ok target
  unfolding read_text_in
  read_pieces limit n target marked numbered tagged read =
      let short : ltb (length pieces) (HEAD_LENGTH + t.tag) ≡ false =
      le-ltb (length pieces) (HEAD_LENGTH + t.tag) (omega (arith, long_pieces, long_front)) in
      let is_marked : bytes_eq (take 4 pieces) t.mark ≡ true =
      (bytes_eq-Decides (take 4 pieces) t.mark).1 (take_mark ∙ marked) in
      let is_tagged : ends_in_store_tag t pieces ≡ true =
      (bytes_eq-Decides (drop (tag_place t pieces) pieces) (store_tag t (take (tag_place t pieces) pieces))).1
      (drop_front ∙ tagged ∙ ap (store_tag t) (sym take_front)) in
      let is_read : read_entries_in t (many_of pieces) HEAD_LENGTH (empty_set (session_of pieces) limit) None
      (entries_of t pieces) ≡ Ok target =
      ap (λ k. read_entries_in t k HEAD_LENGTH (empty_set (session_of pieces) limit) None (entries_of t pieces))
      (ap (from_be_bytes w32) take_count ∙ numbered)
      ∙ ap (λ s. read_entries_in t n HEAD_LENGTH (empty_set s limit) None (entries_of t pieces)) take_session
      ∙ ap (read_entries_in t n HEAD_LENGTH (empty_set session limit) None) drop_head
      ∙ read in
      none_refused t (ltb (length pieces) (HEAD_LENGTH + t.tag)) (bytes_eq (take 4 pieces) t.mark)
      (At (length pieces) Cut) (At 0 Magic) target
      (read_entries_in t (many_of pieces) HEAD_LENGTH (empty_set (session_of pieces) limit) None (entries_of t pieces))
      pieces short is_marked is_read is_tagged

-- ---- a store is read

module _ (t : StoreForm) (form : IsStoreForm t) where
  -- frames that lead to a set, as a store
  pub frames_read : (session : List ℕ) (frames : List Fields) (limit : ℕ) (target : KeptSet) → length session ≡ 8
      → length frames < 2 ^ 32 → Leads t (empty_set session limit) None frames target
      → read_text_in t limit (store_of_in t session frames) ≡ Ok target
  unfolding store_of_in
  frames_read session frames limit target eight few leads =
      let before = text_before_tag_in t session frames in
      read_pieces t form t.mark session (to_be_bytes w32 (length frames)) (entries_in t frames)
      (store_tag t before) form.mark eight refl (length-store_tag t form before)
      limit (length frames) target refl (from_be_bytes-to_be_bytes_4 (length frames) few) refl
      (leads_read t form frames HEAD_LENGTH (empty_set session limit) None target leads)

  -- What is written of a kept set in a form is read again as the set, within any limit that its groups keep.
  pub written_is_read_in : AreAllFrames t → (set : KeptSet) (limit : ℕ) → IsKeptSet set → length set.session ≡ 8
      → costs_in t set ≤ limit
      → read_text_in t limit (store_of_in t set.session (frames_in set)) ≡ Ok (record set { limit = limit })
  written_is_read_in are set limit sound eight fits =
      frames_read set.session (frames_in set) limit (record set { limit = limit }) eight (few_frames set sound)
      (in_order t form are set sound limit fits)

-- The same of the stores of today.
pub written_is_read : (set : KeptSet) (limit : ℕ) → IsKeptSet set → length set.session ≡ 8 → cost_kept set ≤ limit
    → read_text limit (store_text set) ≡ Ok (record set { limit = limit })
written_is_read set limit sound eight fits =
    written_is_read_in STORE_FORM store_form_is (λ f is. is) set limit sound eight fits

-- what equal texts tell
pub record AreSame (a b : KeptSet) : Type 0 where
  pub session : a.session ≡ b.session
  pub groups : a.groups ≡ b.groups

-- Two kept sets of one text are the same, but for what their groups may cost.
pub equal_texts : (a b : KeptSet) → IsKeptSet a → IsKeptSet b → length a.session ≡ 8 → length b.session ≡ 8
    → store_text a ≡ store_text b → AreSame a b
equal_texts a b sound_a sound_b eight_a eight_b same =
    let limit = cost_kept a + cost_kept b in
    let both : record a { limit = limit } ≡ record b { limit = limit } =
    same_Ok (record a { limit = limit }) (record b { limit = limit })
    (sym (written_is_read a limit sound_a eight_a (omega arith)) ∙ ap (read_text limit) same
    ∙ written_is_read b limit sound_b eight_b (omega arith)) in
    record { session = ap (λ (s : KeptSet). s.session) both; groups = ap (λ (s : KeptSet). s.groups) both }
