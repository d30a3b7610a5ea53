-- A datagram of the first version, and the frame of today with the same fields.
use Rattle.std.specs.Prelude.{OnOk}
use Rattle.std.proofs.Common.{◌≡◌, ℕ, ◌+◌, ◌-◌, ◌*◌, ◌<◌, ◌≤◌, Fits, nat_lt, List, ◌++◌, ◌∷◌, [], length, take, drop}
use Rattle.std.proofs.Common.{get_or, None, Result, Ok, Err, append_assoc, refl, sym, ap, ◌∙◌, arith, inl, inr}
use Rattle.std.specs.Int.{w16, w32, w64, to_be_bytes}
use Rattle.std.specs.List.{flat_map}
use Rattle.std.proofs.Math.Nat.{mul-le-mul_left}
use Rattle.std.proofs.lemmas.Bool.{le-ltb, lt-ltb, cases_lt}
use Rattle.std.proofs.lemmas.List.{length-append, take_at, drop_at, take-take, take-append-le, take_all, length-take}
use Rattle.pet_base.specs.declared.limits.TheConstants.{HEAD_LENGTH, MAX_DATAGRAM}
use Rattle.pet_base.specs.Entries.{entry_text}
use Rattle.stripe_plan.specs.Sizes.{cost_of, datagram_length_of, length_over, planned}
use Rattle.packet_frame.specs.declared.format.Format.{Format}
use Rattle.packet_frame.specs.declared.format.TheConstants.{FORMAT, OLD_FORMAT}
use Rattle.packet_frame.specs.Format.{payload_length_in}
use Rattle.packet_frame.specs.Frame.{Fields, IsFrameIn, layer_text, tag_of, text, text_in, text_before_tag}
use Rattle.packet_frame.specs.Refusals.{fields_in, first_fault_in}
use Rattle.packet_frame.specs.laws.Again.{length-tag}
use Rattle.packet_frame.specs.laws.Formats.{format_is, old_format_is}
use Rattle.packet_frame.specs.laws.Laws.{reads_frames_in, reads_heads_in}
use Rattle.packet_frame.specs.laws.Spelled.{is_text}
use Rattle.packet_verdicts.specs.Group.{group_in}
use Rattle.store_text.specs.declared.format.TheConstants.{STORE_FORM, OLD_STORE_FORM}
use Rattle.store_text.specs.Form.{store_tag}
use Rattle.store_text.specs.Store.{head_in, entries_in, text_before_tag_in, store_of, store_of_in}
use Rattle.store_text.specs.laws.FormLaws.{old_store_form_is, text_long, text_narrow}
use Rattle.store_packets.specs.Migrated.{is_wide}
use Rattle.store_packets.specs.inside.Reading.{frame_of}

shifted : (c a b : ℕ) → nat_lt (c + a) (c + b) ≡ nat_lt a b
shifted c a b = elim (cases_lt a b) [
  | inl lt ↦ lt-ltb (c + a) (c + b) (omega (arith, lt)) ∙ sym (lt-ltb a b lt)
  | inr le ↦ le-ltb (c + a) (c + b) (omega (arith, le)) ∙ sym (le-ltb a b le)
]

-- a frame of a format is one of another that has room for it
pub of_other : (t u : Format) → t.bounds.packets ≤ u.bounds.packets → t.bounds.layers ≤ u.bounds.layers
    → t.bounds.bytes ≤ u.bounds.bytes → (f : Fields) → payload_length_in t f.layers ≡ payload_length_in u f.layers
    → length_over u.bounds.bare (planned u.bounds f.layers) ≤ MAX_DATAGRAM → IsFrameIn t f → IsFrameIn u f
of_other t u packets layers bytes f payload narrow is = record {
  session = is.session;
  some_groups = is.some_groups;
  few_groups = is.few_groups;
  group = is.group;
  number = is.number;
  table = record {
    some_packets = is.table.some_packets;
    few_packets = omega (arith, packets, is.table.few_packets);
    some_layers = is.table.some_layers;
    few_layers = omega (arith, layers, is.table.few_layers);
    needed = is.table.needed;
    within = is.table.within;
    few_bytes = omega (arith, bytes, is.table.few_bytes);
    narrow = narrow;
  };
  payload = is.payload ∙ payload;
}

-- ---- the fields behind the mark

abbrev pub body_of : Fields → List ℕ
body_of f =
    f.session ++ to_be_bytes w32 f.groups ++ to_be_bytes w32 f.group ++ to_be_bytes w16 f.packets
    ++ to_be_bytes w16 f.number ++ (length f.layers ∷ [])
    ++ flat_map layer_text f.layers ++ f.payload

-- a piece more behind a mark
behind : (mark front next whole : List ℕ) → whole ≡ mark ++ front → whole ++ next ≡ mark ++ (front ++ next)
behind mark front next whole e = ap (λ l. l ++ next) e ∙ append_assoc mark front next

-- all that is before the tag is the mark, and what does not tell the format
marked : (t : Format) (f : Fields) → text_before_tag t f ≡ t.mark ++ body_of f
marked t f =
    let m = t.mark in
    let a = f.session in
    let b = a ++ to_be_bytes w32 f.groups in
    let c = b ++ to_be_bytes w32 f.group in
    let d = c ++ to_be_bytes w16 f.packets in
    let e = d ++ to_be_bytes w16 f.number in
    let g = e ++ (length f.layers ∷ []) in
    let h = g ++ flat_map layer_text f.layers in
    behind m h f.payload _ (behind m g (flat_map layer_text f.layers) _
    (behind m e (length f.layers ∷ []) _
    (behind m d (to_be_bytes w16 f.number) _ (behind m c (to_be_bytes w16 f.packets) _
    (behind m b (to_be_bytes w32 f.group) _ (behind m a (to_be_bytes w32 f.groups) _ refl))))))

-- ---- a datagram that is a frame of the first version

module _ (bytes : List ℕ) (small : (i : ℕ) → get_or bytes i 0 < 256)
    (fine : first_fault_in OLD_FORMAT bytes ≡ None) where
  abbrev frame : Fields
  frame = frame_of OLD_STORE_FORM bytes

  pub old_head : HEAD_LENGTH ≤ length bytes
  old_head = reads_heads_in OLD_FORMAT bytes fine

  is_old_text : bytes ≡ text_in OLD_FORMAT frame
  unfolding frame_of
  is_old_text = is_text OLD_FORMAT bytes small fine

  pub old_length : length bytes + 8 ≡ datagram_length_of frame.layers
  unfolding frame_of
  old_length =
      omega (
        arith,
        ap length is_old_text,
        text_long OLD_STORE_FORM old_store_form_is (fields_in OLD_FORMAT bytes)
            (reads_frames_in OLD_FORMAT old_format_is bytes fine),
      )

  pub old_narrow : length bytes ≤ MAX_DATAGRAM
  unfolding frame_of
  old_narrow =
      omega (
        arith,
        ap length is_old_text,
        text_narrow OLD_STORE_FORM old_store_form_is (fields_in OLD_FORMAT bytes)
            (reads_frames_in OLD_FORMAT old_format_is bytes fine),
      )

  pub old_group : group_in bytes ≡ frame.group
  unfolding group_in frame_of
  old_group = refl

  pub old_wide : nat_lt 64992 (length bytes) ≡ is_wide frame.layers
  old_wide =
      let more : 8 + length bytes ≡ datagram_length_of frame.layers = omega (arith, old_length) in
      sym (shifted 8 64992 (length bytes)) ∙ ap (nat_lt MAX_DATAGRAM) more

  pub old_cost : (packets : ℕ) → packets ≡ frame.packets
      → packets * (length bytes + 8) ≡ cost_of frame.packets frame.layers
  old_cost packets is = ap (λ n. n * (length bytes + 8)) is ∙ ap (λ n. frame.packets * n) old_length

  pub old_fits : (packets : ℕ) → packets < 65536 → Fits w64 (packets * (length bytes + 8))
  old_fits packets few =
      let short : length bytes + 8 ≤ 65008 = omega (arith, old_narrow) in
      let most : packets * (length bytes + 8) ≤ packets * 65008 = mul-le-mul_left packets short in
      omega (arith, most, few)

  -- what is between mark and tag
  split : bytes ≡ text_before_tag OLD_FORMAT frame ++ tag_of OLD_FORMAT (text_before_tag OLD_FORMAT frame)
  unfolding text_in
  split = is_old_text

  long_old : length bytes ≡ length (text_before_tag OLD_FORMAT frame) + 8
  long_old =
      let before = text_before_tag OLD_FORMAT frame in
      omega (
        arith,
        ap length split,
        length-append before (tag_of OLD_FORMAT before),
        length-tag OLD_FORMAT old_format_is before,
      )

  pub old_body : (front body : List ℕ) → front ≡ take (length bytes - 8) bytes → body ≡ drop 4 front
      → body ≡ body_of frame
  old_body front body is has =
      let before = text_before_tag OLD_FORMAT frame in
      has ∙ ap (drop 4) (is ∙ ap (take (length bytes - 8)) split
      ∙ take_at before (tag_of OLD_FORMAT before) (length bytes - 8) (omega (arith, long_old))
      ∙ marked OLD_FORMAT frame)
      ∙ drop_at OLD_FORMAT.mark (body_of frame) 4 refl

  -- the frame of today
  pub new_text : text frame ≡ (FORMAT.mark ++ body_of frame) ++ store_tag STORE_FORM (FORMAT.mark ++ body_of frame)
  unfolding text_in
  new_text = ap (λ l. l ++ tag_of FORMAT l) (marked FORMAT frame)

  pub new_length : length bytes + 8 ≡ length (text frame)
  new_length =
      let new = FORMAT.mark ++ body_of frame in
      omega (
        arith,
        ap length new_text,
        length-append new (tag_of FORMAT new),
        length-tag FORMAT format_is new,
        length-append FORMAT.mark (body_of frame),
        long_old,
        ap length (marked OLD_FORMAT frame),
        length-append OLD_FORMAT.mark (body_of frame),
      )

-- ---- what is appended

pub front_then : (a b c : List ℕ) → take (length a) b ≡ a → take (length b) c ≡ b → take (length a) c ≡ a
front_then a b c p q =
    let shorter : length a ≤ length b = omega (arith, ap length p, length-take (length a) b) in
    sym (take-take (length a) (length b) c shorter) ∙ ap (take (length a)) q ∙ p

pub front_of : (a more : List ℕ) → take (length a) (a ++ more) ≡ a
front_of a more =
    let n : length a ≤ length a = omega arith in take-append-le (length a) a more n ∙ take_all (length a) a n

pub entry_front : (old first second third last p q r : List ℕ) → first ≡ old ++ p → second ≡ first ++ q
    → third ≡ second ++ r → take (length third) last ≡ third → take (length old) last ≡ old
entry_front old first second third last p q r a b c e =
    front_then old first last (ap (take (length old)) a ∙ front_of old p)
    (front_then first second last (ap (take (length first)) b ∙ front_of first q)
    (front_then second third last (ap (take (length second)) c ∙ front_of second r) e))

pub entry_then : {A E : Type 0} (whole old first second third last mark body : List ℕ) (len start : ℕ) (r : Result A E)
    → whole ≡ (mark ++ body) ++ store_tag STORE_FORM (mark ++ body) → len ≡ length whole
    → first ≡ old ++ to_be_bytes w16 len → start ≡ length first → second ≡ first ++ mark → third ≡ second ++ body
    → OnOk r (last ≡ third ++ store_tag STORE_FORM (drop start third)) → OnOk r (last ≡ old ++ entry_text whole)
entry_then whole old first second third last mark body len start (Err x) is long a at b c e = tt
entry_then whole old first second third last mark body len start (Ok x) is long a at b c e =
    let both : third ≡ first ++ (mark ++ body) = c ∙ ap (λ l. l ++ body) b ∙ append_assoc first mark body in
    let cut : drop start third ≡ mark ++ body = ap (drop start) both ∙ drop_at first (mark ++ body) start (sym at) in
    e ∙ ap (λ l. third ++ store_tag STORE_FORM l) cut ∙ ap (λ l. l ++ store_tag STORE_FORM (mark ++ body)) both
    ∙ append_assoc first (mark ++ body) (store_tag STORE_FORM (mark ++ body)) ∙ ap (λ l. first ++ l) (sym is)
    ∙ ap (λ l. l ++ whole) (a ∙ ap (λ n. old ++ to_be_bytes w16 n) long)
    ∙ append_assoc old (to_be_bytes w16 (length whole)) whole

pub stored : {A E : Type 0} (session : List ℕ) (frames : List Fields) (count start : ℕ)
    (old first second last : List ℕ) (r : Result A E) → count ≡ length frames → start ≡ length old
    → first ≡ old ++ head_in STORE_FORM session count → second ≡ first ++ entries_in STORE_FORM frames
    → OnOk r (last ≡ second ++ store_tag STORE_FORM (drop start second))
    → OnOk r (last ≡ old ++ store_of session frames)
unfolding store_of_in
stored session frames count start old first second last (Err x) many at p q s = tt
stored session frames count start old first second last (Ok x) many at p q s =
    let whole = text_before_tag_in STORE_FORM session frames in
    let front : second ≡ old ++ whole =
    q ∙ ap (λ (t : List ℕ). t ++ entries_in STORE_FORM frames) (p ∙ ap (λ n. old ++ head_in STORE_FORM session n) many)
    ∙ append_assoc old (head_in STORE_FORM session (length frames)) (entries_in STORE_FORM frames) in
    let cut : drop start second ≡ whole = ap (drop start) front ∙ drop_at old whole start (sym at) in
    s ∙ ap (λ (t : List ℕ). second ++ store_tag STORE_FORM t) cut
    ∙ ap (λ (t : List ℕ). t ++ store_tag STORE_FORM whole) front ∙ append_assoc old whole (store_tag STORE_FORM whole)
