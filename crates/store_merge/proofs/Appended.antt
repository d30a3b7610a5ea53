-- What is appended piece after piece, and that what stood there before stays in front.
use Rattle.std.specs.Prelude.{OnOk, OnErr, Option, None, Some, unwrap_or}
use Rattle.std.proofs.Common.{◌≡◌, ◌≤◌, ℕ, List, ◌++◌, length, take, drop, Result, Ok, Err, sym, ap, ◌∙◌, arith}
use Rattle.std.proofs.Common.{append_assoc}
use Rattle.std.specs.Int.{w16, w32, to_be_bytes}
use Rattle.std.specs.List.{flat_map, range_with_len}
use Rattle.std.proofs.lemmas.List.{drop_at, take-take, take-append-le, take_all, length-take}
use Rattle.std.proofs.lemmas.Grind.{flat_map-append}
use Rattle.stripe_plan.specs.Sizes.{datagram_length_of}
use Rattle.packet_frame.specs.Frame.{Fields, IsFrame, text, tag_of}
use Rattle.packet_frame.specs.laws.Laws.{texts_have_length}
use Rattle.packet_frame.specs.declared.format.TheConstants.{FORMAT}
use Rattle.packet_session.specs.Datagrams.{entries_text}
use Rattle.pet_base.specs.Entries.{entry_text}
use Rattle.packet_verdicts.specs.KeptSet.{KeptSet, IsKeptSet, told_by}
use Rattle.packet_verdicts.specs.Union.{frames_in}
use Rattle.packet_verdicts.specs.laws.FramesLaws.{frames_of, frames_told, no_frames}
use Rattle.store_text.specs.Store.{text_before_tag, store_of, store_of_in}
use Rattle.store_text.specs.declared.format.TheConstants.{MARK}

-- ---- what stays in front

pub front_then : (a b c : List ℕ) → take (length a) b ≡ a → take (length b) c ≡ b → take (length a) c ≡ a
front_then a b c p q =
    let shorter : length a ≤ length b = omega (arith, ap length p, length-take (length a) b) in
    sym (take-take (length a) (length b) c shorter) ∙ ap (take (length a)) q ∙ p

front_of : (a more : List ℕ) → take (length a) (a ++ more) ≡ a
front_of a more =
    let n : length a ≤ length a = omega arith in take-append-le (length a) a more n ∙ take_all (length a) a n

pub front_by : {A E : Type 0} (old piece first more last : List ℕ) (r : Result A E) → first ≡ old ++ piece
    → OnOk r (last ≡ first ++ more) → OnErr r (last ≡ first) → take (length old) last ≡ old
front_by old piece first more last (Ok x) p q s =
    ap (take (length old)) (q ∙ ap (λ (t : List ℕ). t ++ more) p ∙ append_assoc old piece more)
    ∙ front_of old (piece ++ more)
front_by old piece first more last (Err x) p q s = ap (take (length old)) (s ∙ p) ∙ front_of old piece

-- ---- entries

pub entry_by : {A E : Type 0} (f : Fields) (len : ℕ) (old first last : List ℕ) (r : Result A E) → IsFrame f
    → len ≡ datagram_length_of f.layers → first ≡ old ++ to_be_bytes w16 len
    → OnOk r (last ≡ first ++ text f) → OnOk r (last ≡ old ++ entry_text (text f))
entry_by f len old first last (Err x) frame is p q = tt
entry_by f len old first last (Ok x) frame is p q =
    let length_is = is ∙ sym (texts_have_length f frame) in
    q ∙ ap (λ (t : List ℕ). t ++ text f) (p ∙ ap (λ n. old ++ to_be_bytes w16 n) length_is)
    ∙ append_assoc old (to_be_bytes w16 (length (text f))) (text f)

pub entries_then : (old before after : List ℕ) (fs gs all : List Fields) → all ≡ fs ++ gs
    → before ≡ old ++ entries_text fs → after ≡ before ++ entries_text gs → after ≡ old ++ entries_text all
entries_then old before after fs gs all is p q =
    q ∙ ap (λ (t : List ℕ). t ++ entries_text gs) p ∙ append_assoc old (entries_text fs) (entries_text gs)
    ∙ ap (λ (t : List ℕ). old ++ t)
    (sym (flat_map-append (λ (f : Fields). entry_text (text f)) fs gs) ∙ ap entries_text (sym is))

-- the groups that are told, or none, have all frames
pub all_groups : (set : KeptSet) → IsKeptSet set → (told : Option ℕ) (n : ℕ) → told ≡ told_by set
    → n ≡ unwrap_or told 0 → flat_map (frames_of set) (range_with_len 0 n) ≡ frames_in set
all_groups set sound None n is many =
    ap (λ m. flat_map (frames_of set) (range_with_len 0 m)) many ∙ sym (no_frames set (sym is))
all_groups set sound (Some m) n is many =
    ap (λ k. flat_map (frames_of set) (range_with_len 0 k)) many ∙ sym (frames_told set sound m (sym is))

-- ---- the whole

pub stored : {A E : Type 0} (session : List ℕ) (frames : List Fields) (kept start : ℕ) (old first second last : List ℕ)
    (r : Result A E) → kept ≡ length frames → start ≡ length old
    → first ≡ old ++ (MARK ++ session ++ to_be_bytes w32 kept) → second ≡ first ++ entries_text frames
    → OnOk r (last ≡ second ++ tag_of FORMAT (drop start second))
    → OnOk r (last ≡ old ++ store_of session frames)
unfolding store_of_in
stored session frames kept start old first second last (Err x) many at p q s = tt
stored session frames kept start old first second last (Ok x) many at p q s =
    let whole = text_before_tag session frames in
    let front : second ≡ old ++ whole =
    q ∙ ap (λ (t : List ℕ). t ++ entries_text frames)
    (p ∙ ap (λ n. old ++ (MARK ++ session ++ to_be_bytes w32 n)) many)
    ∙ append_assoc old (MARK ++ session ++ to_be_bytes w32 (length frames)) (entries_text frames) in
    let behind : drop start second ≡ whole = ap (drop start) front ∙ drop_at old whole start (sym at) in
    s ∙ ap (λ (t : List ℕ). second ++ tag_of FORMAT t) behind ∙ ap (λ (t : List ℕ). t ++ tag_of FORMAT whole) front
    ∙ append_assoc old whole (tag_of FORMAT whole)
