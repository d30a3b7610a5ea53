-- How a kept set and its journal go on with one frame, and with all frames of a journal.
use Rattle.std.proofs.Common.{◌≡◌, ℕ, ◌+◌, ◌*◌, ◌<◌, ◌≤◌, Bool, true, false, cond, List, [], ◌∷◌, length}
use Rattle.std.proofs.Common.{get_or}
use Rattle.std.proofs.Common.{All, Option, None, Some, refl, sym, ap, subst, ◌∙◌, length-append, arith}
use Rattle.std.specs.Prelude.{is_some, sum_by}
use Rattle.std.specs.Map.{keys_of}
use Rattle.std.proofs.lemmas.List.{length-map, get_or_default}
use Rattle.std.proofs.lemmas.List.Elements.{All-map}
use Rattle.std.proofs.lemmas.List.Sums.{sum_by-le, count_by-le-length}
use Rattle.std.proofs.lemmas.Map.Views.{length-le_from_below}
use Rattle.std.proofs.lemmas.Option.{same_Some}
use Rattle.pet_base.specs.Entries.{entry_text}
use Rattle.packet_frame.specs.declared.fault.FrameFault.{FrameFault}
use Rattle.packet_frame.specs.Frame.{Fields, IsFrame, text}
use Rattle.packet_frame.specs.Refusals.{fields_of, first_fault}
use Rattle.packet_frame.specs.laws.Laws.{reads_frames, reads_texts, texts_have_length}
use Rattle.packet_set.specs.Packets.{Packets, count_in}
use Rattle.packet_verdicts.specs.KeptSet.{KeptSet, IsKeptSet, open_group, told_by, kept_in_all}
use Rattle.packet_verdicts.specs.Verdicts.{verdict_of, is_kept, after}
use Rattle.packet_verdicts.specs.declared.verdict.Verdict.TheVariants.{Damaged}
use Rattle.packet_verdicts.specs.laws.EntryLaws.{all_found}
use Rattle.packet_verdicts.specs.laws.ToldLaws.{first_some, none_open, open_tells}
use Rattle.packet_verdicts.specs.laws.KeptSetLaws.{keepable, all_keep, keep_session, keep_limit, after_kept}
use Rattle.packet_verdicts.specs.laws.KeptSetLaws.{after_other}
use Rattle.packet_verdicts.specs.laws.KeptSetLaws.{after_sound, verdict_read, verdict_damaged}
use Rattle.store_journal.specs.Text.{Keeps, entries_text}
use Rattle.store_keeper.specs.Journal.{keep_frame}

-- a frame that is kept has no fault
not_damaged : is_kept Damaged ≡ true → ⊥
not_damaged e = cc

no_fault : (set : KeptSet) (frame : List ℕ) → is_kept (verdict_of set frame) ≡ true → (o : Option FrameFault)
    → first_fault frame ≡ o → first_fault frame ≡ None
no_fault set frame kept None is = is
no_fault set frame kept (Some fault) is =
    absurd (not_damaged (ap is_kept (sym (verdict_damaged set frame fault is)) ∙ kept))

pub has_no_fault : (set : KeptSet) (frame : List ℕ) → is_kept (verdict_of set frame) ≡ true → first_fault frame ≡ None
has_no_fault set frame kept = no_fault set frame kept (first_fault frame) refl

-- so its length fits in two bytes
text_short : (f : Fields) → IsFrame f → length (text f) < 65536
text_short f is = omega (arith, texts_have_length f is, is.table.narrow)

pub kept_short : (set : KeptSet) (frame : List ℕ) → ((i : ℕ) → get_or frame i 0 < 256)
    → is_kept (verdict_of set frame) ≡ true → length frame < 65536
kept_short set frame fits kept =
    let fine = has_no_fault set frame kept in
    let bytes : All (λ byte. byte < 256) frame =
    λ k d lt. subst (λ (b : ℕ). b < 256) (get_or_default frame k 0 d lt) (fits k) in
    subst (λ (l : List ℕ). length l < 65536) (sym (reads_texts frame bytes fine))
    (text_short (fields_of frame) (reads_frames frame fine))

-- one packet more is kept
pub kept_more : (set : KeptSet) (frame : List ℕ) → IsKeptSet set → is_kept (verdict_of set frame) ≡ true
    → kept_in_all (after set frame) ≡ kept_in_all set + 1
kept_more set frame sound kept =
    let fine = has_no_fault set frame kept in
    ap kept_in_all (after_kept set frame kept)
    ∙ all_keep set sound (fields_of frame) (reads_frames frame fine)
    (keepable set (fields_of frame) (ap is_kept (sym (verdict_read set frame fine)) ∙ kept))

-- session and limit stay
session_by : (set : KeptSet) (frame : List ℕ) (b : Bool) → is_kept (verdict_of set frame) ≡ b
    → (after set frame).session ≡ set.session
session_by set frame true e = ap (λ (s : KeptSet). s.session) (after_kept set frame e)
    ∙ keep_session set (fields_of frame)
session_by set frame false e = ap (λ (s : KeptSet). s.session) (after_other set frame e)

limit_by : (set : KeptSet) (frame : List ℕ) (b : Bool) → is_kept (verdict_of set frame) ≡ b
    → (after set frame).limit ≡ set.limit
limit_by set frame true e = ap (λ (s : KeptSet). s.limit) (after_kept set frame e) ∙ keep_limit set (fields_of frame)
limit_by set frame false e = ap (λ (s : KeptSet). s.limit) (after_other set frame e)

pub after_session : (set : KeptSet) (frame : List ℕ) → (after set frame).session ≡ set.session
after_session set frame = session_by set frame (is_kept (verdict_of set frame)) refl

pub after_limit : (set : KeptSet) (frame : List ℕ) → (after set frame).limit ≡ set.limit
after_limit set frame = limit_by set frame (is_kept (verdict_of set frame)) refl

-- when a journal keeps a frame
kept_from : (b : Bool) (set next : KeptSet) → cond {A = Option KeptSet} b (Some set) None ≡ Some next
    → (b ≡ true) × (set ≡ next)
kept_from true set next e = (refl, same_Some set next e)
kept_from false set next e = absurd (cc)

pub keep_tells : (set next : KeptSet) (frame : List ℕ) → keep_frame set frame ≡ Some next
    → (is_kept (verdict_of set frame) ≡ true) × (after set frame ≡ next)
keep_tells set next frame e = kept_from (is_kept (verdict_of set frame)) (after set frame) next e

pub keep_is : (set : KeptSet) (frame : List ℕ) → is_kept (verdict_of set frame) ≡ true
    → keep_frame set frame ≡ Some (after set frame)
keep_is set frame e = ap (λ (b : Bool). cond {A = Option KeptSet} b (Some (after set frame)) None) e

pub keep_not : (set : KeptSet) (frame : List ℕ) → is_kept (verdict_of set frame) ≡ false → keep_frame set frame ≡ None
keep_not set frame e = ap (λ (b : Bool). cond {A = Option KeptSet} b (Some (after set frame)) None) e

-- what all frames of a journal leave
pub record IsReached (first last : KeptSet) (bytes : ℕ) : Type 0 where
  pub sound : IsKeptSet last
  pub session_is : last.session ≡ first.session
  pub limit_is : last.limit ≡ first.limit
  pub few : bytes + 65538 * kept_in_all first ≤ 65538 * kept_in_all last

pub all_reached : (frames : List (List ℕ)) (first last : KeptSet) → IsKeptSet first
    → Keeps keep_frame first frames last
    → IsReached first last (length (entries_text frames))
all_reached [] first last sound keeps =
    subst (λ (s : KeptSet). IsReached first s 0) keeps
    (record { sound = sound; session_is = refl; limit_is = refl; few = omega arith })
all_reached (frame ∷ frames) first last sound keeps =
    let told = keep_tells first keeps.0 frame keeps.2 in
    let next_sound : IsKeptSet keeps.0 =
    subst (λ (s : KeptSet). IsKeptSet s) told.1 (after_sound first frame sound (reads_frames frame)) in
    let more : kept_in_all keeps.0 ≡ kept_in_all first + 1 =
    ap kept_in_all (sym told.1) ∙ kept_more first frame sound told.0 in
    let rest = all_reached frames keeps.0 last next_sound keeps.3 in
    record {
      sound = rest.sound;
      session_is = rest.session_is ∙ ap (λ (s : KeptSet). s.session) (sym told.1) ∙ after_session first frame;
      limit_is = rest.limit_is ∙ ap (λ (s : KeptSet). s.limit) (sym told.1) ∙ after_limit first frame;
      few = omega (arith, rest.few, more, keeps.1, length-append (entry_text frame) (entries_text frames));
    }

-- no session has more packets
record IsFew (n group : ℕ) (p : Packets) : Type 0 where
  below : group < n
  few : n ≤ 65535
  packets : count_in p ≤ 4096

module _ (set : KeptSet) (sound : IsKeptSet set) (n : ℕ) (told : told_by set ≡ Some n) where
  one_few : (group : ℕ) (p : Packets) → open_group set group ≡ Some p → IsFew n group p
  one_few group p opened =
      let g = sound.groups group p opened in
      let one = first_some p.slots g.some in
      let frame = g.frames one.0 one.1 one.2 in
      let same : p.header.groups ≡ n = same_Some p.header.groups n (sym (open_tells set sound group p opened)
      ∙ told) in
      record {
        below = omega (arith, frame.group, g.same_group, same);
        few = omega (arith, frame.few_groups, same);
        packets = omega (arith, count_by-le-length is_some p.slots, g.slots, frame.table.few_packets);
      }

  all_few : All (λ e. IsFew n e.0 e.1) set.groups
  all_few i d l =
      one_few (get_or set.groups i d).0 (get_or set.groups i d).1 (all_found set.groups sound.rising i d l)

  keys_below : All (λ k. k < n) (keys_of set.groups)
  keys_below = All-map (λ k. k < n) (λ (e : ℕ × Packets). e.0) set.groups (λ i d l. (all_few i d l).below)

  few_groups : length set.groups ≤ n
  few_groups =
      omega (
        arith,
        length-le_from_below n (keys_of set.groups) sound.rising keys_below,
        length-map set.groups (λ (e : ℕ × Packets). e.0),
      )

  sum_few : kept_in_all set ≤ length set.groups * 4096
  sum_few =
      sum_by-le (λ (e : ℕ × Packets). count_in e.1) 4096 set.groups (λ i d l. (all_few i d l).packets)

  few_of : (es : List (ℕ × Packets)) → set.groups ≡ es → kept_in_all set ≤ 65535 * 4096
  few_of [] is = omega (arith, sum_few, ap length is)
  few_of (e ∷ es) is = omega (arith, sum_few, few_groups, (all_few 0 e (omega (arith, ap length is))).few)

kept_few_by : (set : KeptSet) → IsKeptSet set → (o : Option ℕ) → told_by set ≡ o → kept_in_all set ≤ 65535 * 4096
kept_few_by set sound None told =
    let e = ap (sum_by (λ (e : ℕ × Packets). count_in e.1)) (none_open set.groups told) in omega (arith, e)
kept_few_by set sound (Some n) told = few_of set sound n told set.groups refl

pub kept_few : (set : KeptSet) → IsKeptSet set → kept_in_all set ≤ 65535 * 4096
kept_few set sound = kept_few_by set sound (told_by set) refl
