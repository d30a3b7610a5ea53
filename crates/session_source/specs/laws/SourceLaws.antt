-- What callers know of two files that are read for a session: at which of them a failure was, and what holds where they
-- are told
-- and a session. This project's own.
use Rattle.std.proofs.Common.{◌≡◌, ◌≢◌, ◌⊎◌, ℕ, ◌≤◌, Bool, false, List, [], ◌∷◌, Option, None, Some, refl, sym, subst}
use Rattle.std.proofs.Common.{◌∙◌, arith, inl, inr}
use Rattle.std.specs.Prelude.{All, length, IsTrue}
use Rattle.pet_base.specs.declared.limits.TheConstants.{MAX_GROUPS, MAX_SESSION}
use Rattle.pet_base.specs.Seen.{Seen, Files, Blame, HadFault}
use Rattle.pet_base.specs.laws.SeenLaws.{HadFault-since}
use Rattle.outside_files.specs.Inputs.{IsFile, IsRead}
use Rattle.outside_files.specs.Uses.{Failed, reading}
use Rattle.priority_file.specs.Refusals.{refusal_of, priorities_of}
use Rattle.priority_file.specs.Priority.{Priorities}
use Rattle.mpeg_scan.specs.Pieces.{pieces_of}
use Rattle.mpeg_scan.specs.Refusals.{Refuses, holds}
use Rattle.layer_split.specs.Groups.{groups_of}
use Rattle.stripe_plan.specs.Sizes.{Sizes}
use Rattle.packet_frame.specs.declared.format.Format.{Format}
use Rattle.stream_session.specs.Tables.{tables_of_in, cuts_of_stream}
use Rattle.stream_session.specs.Refusals.{session_fault_in}
use Rattle.stream_session.specs.laws.SessionLaws.{tables_few_in, tables_layered_in}
use Rattle.session_source.specs.Sources.{IsOfSource, IsSourceIn, IsSourceFaultIn}
use Rattle.session_source.specs.declared.source.Source.{Source}
use Rattle.session_source.specs.declared.source.SourceFault.{SourceFault}
use Rattle.session_source.specs.declared.source.SourceFault.TheVariants as source
use Rattle.stream_session.specs.Sessions.{HasSessionIn, IsGivenIn}

pub either_file : (files : Option Files) (stream priority : List ℕ) (blame : Blame)
    → IsOfSource files stream priority blame → IsRead stream blame ⊎ IsRead priority blame
either_file files stream priority blame is = elim is [ inl rules ↦ inr rules | inr judged ↦ inl judged.0 ]

pub failed_at_either : (files : Option Files) (stream priority : List ℕ) (old new : Seen)
    → HadFault old new (IsOfSource files stream priority) → HadFault old new (λ b. IsRead stream b ⊎ IsRead priority b)
failed_at_either files stream priority old new had =
    HadFault-since old old new _ _ (omega arith) (either_file files stream priority) had

-- the bytes of a file that is told
pub file_is : (files : Option Files) (f : Files) (name bytes told : List ℕ) → files ≡ Some f → f name ≡ Some told
    → IsFile files name bytes → bytes ≡ told
file_is files f name bytes told e there is =
    let known : f name ≡ Some bytes = subst (λ (o : Option Files). IsFile o name bytes) e is in
    same_bytes bytes told (sym known ∙ there)
  where
    same_bytes : (x y : List ℕ) → Some x ≡ Some y → x ≡ y
    same_bytes x y e = cc

-- where both files are told and a session
module _ {t : Format} {limit : ℕ} (old new : Seen) (stream priority p b : List ℕ)
    (given : IsGivenIn t limit old stream priority p b) where
  pub priority_is : (bytes : List ℕ) → IsFile old.files priority bytes → bytes ≡ p
  priority_is bytes is = file_is old.files given.files priority bytes p given.told given.priority_there is

  pub stream_is : (bytes : List ℕ) → IsFile old.files stream bytes → bytes ≡ b
  stream_is bytes is = file_is old.files given.files stream bytes b given.told given.stream_there is

  none_some : {A : Type 0} (o : Option A) (x : A) → o ≡ None → o ≡ Some x → ⊥
  none_some o x p q = cc

  false_holds : (t : Bool) → IsTrue t → t ≡ false → ⊥
  false_holds t is not = cc

  -- neither file is refused, nor the plan
  pub none_refused : (fault : SourceFault) → fault ≢ source.NoMemory → fault ≢ source.Failed
      → IsSourceFaultIn t limit old new stream priority fault → ⊥
  none_refused source.NoMemory memory place is = memory refl
  none_refused source.Failed memory place is = place refl
  none_refused (source.Priority fault) memory place is =
      none_some (refusal_of p) fault given.session.priority_read
      (subst (λ (f : List ℕ). refusal_of f ≡ Some fault) (priority_is is.0 is.1) is.2)
  none_refused (source.Stream scan) memory place is =
      let refused : Refuses b scan = subst (λ (s : List ℕ). Refuses s scan)
      (stream_is is.bytes is.stream_is) is.holds in
      false_holds (holds b scan) refused.holding (given.session.stream_read scan)
  none_refused (source.Plan fault) memory place is =
      let at_file = subst (λ (f : List ℕ). session_fault_in t limit (priorities_of f) (pieces_of is.bytes) ≡ Some fault)
      (priority_is is.file is.priority_is) is.holds.2 in
      let at_both : session_fault_in t limit (priorities_of p) (pieces_of b) ≡ Some fault =
      subst (λ (s : List ℕ). session_fault_in t limit (priorities_of p) (pieces_of s) ≡ Some fault)
      (stream_is is.bytes is.stream_is) at_file in
      none_some (session_fault_in t limit (priorities_of p) (pieces_of b)) fault given.session.fits at_both

  -- no fault of a session holds of them, but that the place had one
  pub no_fault : (fault : SourceFault) → fault ≢ source.NoMemory
      → (Failed (reading stream ∷ reading priority ∷ []) old new → ⊥) → IsSourceFaultIn t limit old new stream priority fault → ⊥
  no_fault source.NoMemory memory well is = memory refl
  no_fault source.Failed memory well is = well (failed_at_either old.files stream priority old new is)
  no_fault (source.Priority fault) memory well is = none_refused (source.Priority fault) memory (λ failed. cc) is
  no_fault (source.Stream scan) memory well is = none_refused (source.Stream scan) memory (λ failed. cc) is
  no_fault (source.Plan fault) memory well is = none_refused (source.Plan fault) memory (λ failed. cc) is

-- a session that was read
abbrev pub session_in : {t : Format} (old : Seen) (stream priority : List ℕ) (source : Source)
    → IsSourceIn t MAX_SESSION old.files stream priority source → HasSessionIn t old stream priority
session_in old stream priority source is = record {
  priority_bytes = is.file;
  stream_bytes = is.bytes;
  priority_file = is.priority_is;
  stream_file = is.stream_is;
  session = is.accepted;
}

pub source_few : {t : Format} (files : Option Files) (stream priority : List ℕ) (source : Source)
    → IsSourceIn t MAX_SESSION files stream priority source → length source.tables.items ≤ MAX_GROUPS
source_few {t} files stream priority source is =
    subst (λ (ts : List Sizes). length ts ≤ MAX_GROUPS) (sym is.tables)
    (tables_few_in t MAX_SESSION (priorities_of is.file) (pieces_of is.bytes) is.accepted.fits)

pub source_layered : {t : Format} (files : Option Files) (stream priority : List ℕ) (source : Source)
    → IsSourceIn t MAX_SESSION files stream priority source
    → All (λ table. length table.layers ≡ length source.priority.layers) source.tables.items
source_layered {t} files stream priority source is =
    subst (λ (ts : List Sizes). All (λ table. length table.layers ≡ length source.priority.layers) ts) (sym is.tables)
    (subst (λ (r : Priorities). All (λ table. length table.layers ≡ length r.layers)
    (tables_of_in t (priorities_of is.file) (cuts_of_stream (priorities_of is.file) is.bytes)))
    (sym is.rules) (tables_layered_in t (priorities_of is.file) (groups_of (pieces_of is.bytes))))
