-- What frames that may be read one after the other make of a kept set: a kept set, whose frames in order are those that
-- it
-- had, and then these.
use Rattle.std.proofs.Common.{◌≡◌, ℕ, ◌<◌, ◌⊎◌, Bool, true, false, not, ◌&&◌, ◌||◌, ◌==◌, nat_lt, List, [], ◌∷◌, ◌++◌}
use Rattle.std.proofs.Common.{Option, None, Some, option_and_then, append-nil, append_assoc, refl, sym, ap, subst, ◌∙◌}
use Rattle.std.proofs.Common.{arith, inl, inr}
use Rattle.std.specs.Prelude.{if◌then◌else◌, is_some}
use Rattle.std.specs.Option.{option_map_or}
use Rattle.std.specs.Str.{bytes_eq}
use Rattle.std.proofs.lemmas.Bool.{cases_lt, le-ltb}
use Rattle.std.proofs.lemmas.Map.Views.{exact_unsigned_eq}
use Rattle.packet_frame.specs.Frame.{Fields}
use Rattle.packet_set.specs.Packets.{Packets, slot_at}
use Rattle.packet_verdicts.specs.KeptSet.{KeptSet, IsKeptSet, empty_set, open_group, payload_of, keep}
use Rattle.packet_verdicts.specs.Verdicts.{tells_other_count, tells_other_table, tells_other_payload, is_too_much}
use Rattle.packet_verdicts.specs.Verdicts.{newly_shown, layer_set, frame_verdict, frame_verdict_by, is_kept}
use Rattle.packet_verdicts.specs.Union.{frames_in}
use Rattle.packet_verdicts.specs.declared.verdict.Verdict.TheVariants as verdict
use Rattle.packet_verdicts.specs.declared.verdict.LayerSet.{LayerSet}
use Rattle.packet_verdicts.specs.laws.KeptSetLaws.{IsKeepable, keepable, keep_sound, keep_session, keep_limit}
use Rattle.packet_verdicts.specs.laws.KeptSetLaws.{empty_sound}
use Rattle.packet_verdicts.specs.laws.FramesInOrder.{IsAbove, ComesBefore, frames_more, above_keep, above_none}
use Rattle.store_text.specs.declared.fault.StoreKind.TheVariants.{Session, Order, Clash, Full}
use Rattle.store_text.specs.declared.format.TheConstants.{STORE_FORM}
use Rattle.store_text.specs.Refusals.{Last, is_above, frame_fault}
use Rattle.store_text.specs.laws.Leading.{pair_of, Leads}

-- what is above the last pair is above all that is kept
abbrev pub EndsIn : KeptSet → Last → Type 0
EndsIn set last = (f : Fields) → is_above last f ≡ true → IsAbove set f

below_true : (a b : ℕ) → nat_lt a b ≡ true → a < b
below_true a b e =
    elim (cases_lt a b) [
      | inl lt ↦ lt
      | inr le ↦ let no : false ≡ true = sym (le-ltb a b le) ∙ e in absurd (cc)
    ]

either : (a b c : Bool) → (a || (b && c)) ≡ true → (a ≡ true) ⊎ ((b ≡ true) × (c ≡ true))
either true b c e = inl refl
either false true true e = inr (refl, refl)
either false true false e = absurd (cc)
either false false c e = absurd (cc)

-- a frame that is above a pair comes after it
pub comes_after : (group number : ℕ) (f : Fields) → is_above (Some (group, number)) f ≡ true
    → ComesBefore group number f
comes_after group number f e =
    elim (either (nat_lt group f.group) (group == f.group) (nat_lt number f.number) e) [
      | inl less ↦ inl (below_true group f.group less)
      | inr same ↦ inr (exact_unsigned_eq group f.group same.0, below_true number f.number same.1)
    ]

-- what the next frame tells
record Passed (a b c d : Bool) : Type 0 where
  session : a ≡ true
  above : b ≡ true
  clash : c ≡ false
  room : d ≡ false

passed : (a b c d : Bool)
    → (if not a then Some Session else if not b then Some Order else if c then Some Clash else if d then Some Full else
    None) ≡ None → Passed a b c d
passed false b c d e = absurd (cc)
passed true false c d e = absurd (cc)
passed true true true d e = absurd (cc)
passed true true false true e = absurd (cc)
passed true true false false e = record { session = refl; above = refl; clash = refl; room = refl }

kept_by : (a b c d : Bool) (layers : LayerSet) → a ≡ true → b ≡ false → c ≡ false → d ≡ false
    → is_kept (if not a then verdict.Foreign else if b then verdict.Clash else if c then verdict.Repeated else if d
    then verdict.Full else verdict.Kept layers) ≡ true
kept_by a b c d layers ea eb ec ed = rw (ea, eb, ec, ed) refl

third_false : (a b c : Bool) → (a || b) ≡ false → c ≡ false → (a || b || c) ≡ false
third_false false false c e f = f
third_false true b c e f = absurd (cc)
third_false false true c e f = absurd (cc)

-- no slot has the number
pub absent_by : (o : Option Packets) (number : ℕ) → ((p : Packets) → o ≡ Some p → slot_at p number ≡ None)
    → option_and_then (λ p. slot_at p number) o ≡ None
absent_by None number none = refl
absent_by (Some p) number none = none p refl

module _ (set : KeptSet) (last : Last) (f : Fields) (ends : EndsIn set last)
    (none : frame_fault set last f ≡ None) where
  parts : Passed (bytes_eq f.session set.session) (is_above last f)
      (tells_other_count set f || tells_other_table set f) (is_too_much set f)
  parts =
      passed (bytes_eq f.session set.session) (is_above last f) (tells_other_count set f || tells_other_table set f)
      (is_too_much set f) none

  -- the next frame is above all that is kept
  pub next_above : IsAbove set f
  next_above = ends f parts.above

  absent : payload_of set f.group f.number ≡ None
  absent = absent_by (open_group set f.group) f.number (λ p opened. next_above.later p opened f.number (omega arith))

  kept : is_kept (frame_verdict set f) ≡ true
  unfolding frame_verdict_by
  kept =
      kept_by (bytes_eq f.session set.session)
      (tells_other_count set f || tells_other_table set f || tells_other_payload set f)
      (is_some (payload_of set f.group f.number)) (is_too_much set f) (layer_set (newly_shown set f)) parts.session
      (third_false (tells_other_count set f) (tells_other_table set f) (tells_other_payload set f) parts.clash
      (ap (λ (o : Option (List ℕ)). option_map_or (λ payload. not (bytes_eq payload f.payload)) o false) absent))
      (ap is_some absent) parts.room

  -- and is kept
  pub next_keepable : IsKeepable set f
  next_keepable = keepable set f kept

-- what the set is that frames lead to
pub record HasGrownBy (set : KeptSet) (more : List Fields) (target : KeptSet) : Type 0 where
  pub sound : IsKeptSet target
  pub frames : frames_in target ≡ frames_in set ++ more
  pub session : target.session ≡ set.session
  pub limit : target.limit ≡ set.limit

pub leads_grow : (frames : List Fields) (set : KeptSet) (last : Last) (target : KeptSet) → IsKeptSet set
    → EndsIn set last → Leads STORE_FORM set last frames target → HasGrownBy set frames target
leads_grow [] set last target sound ends same =
    subst (HasGrownBy set []) same
    (record { sound = sound; frames = sym (append-nil (frames_in set)); session = refl; limit = refl })
leads_grow (f ∷ rest) set last target sound ends leads =
    let k = next_keepable set last f ends leads.1 in
    let above = next_above set last f ends leads.1 in
    let later = leads_grow rest (keep set f) (Some (pair_of f)) target (keep_sound set sound f leads.0 k)
    (λ g e. above_keep set sound f leads.0 k above g (comes_after f.group f.number g e)) leads.2 in
    record {
      sound = later.sound;
      frames =
          later.frames ∙ ap (λ t. t ++ rest) (frames_more set sound f leads.0 k above)
          ∙ append_assoc (frames_in set) (f ∷ []) rest;
      session = later.session ∙ keep_session set f;
      limit = later.limit ∙ keep_limit set f;
    }

-- from nothing on
pub leads_make : (frames : List Fields) (session : List ℕ) (limit : ℕ) (target : KeptSet)
    → Leads STORE_FORM (empty_set session limit) None frames target → HasGrownBy (empty_set session limit) frames target
leads_make frames session limit target leads =
    leads_grow frames (empty_set session limit) None target (empty_sound session limit)
    (λ f e. above_none session limit f) leads
