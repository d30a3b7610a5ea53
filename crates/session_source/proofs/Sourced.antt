-- What was read of the two files, as what is told of them: a file that is longer than what was read is refused all the
-- same.
use Rattle.std.proofs.Common.{◌≡◌, ◌≢◌, ℕ, ◌<◌, ◌≤◌, Bool, true, false, List, [], ◌∷◌, ◌++◌, length, drop, Option, None}
use Rattle.std.proofs.Common.{Some, refl, sym, ap, subst, ◌∙◌, arith, inl, inr}
use Rattle.std.proofs.lemmas.Bool.{cases_lt, lt-ltb, ltb-false}
use Rattle.std.proofs.lemmas.List.{append-nil, length-append}
use Rattle.std.specs.Prelude.{nat_lt}
use Rattle.pet_base.specs.declared.limits.TheConstants.{MAX_STREAM, MAX_PRIORITY_FILE}
use Rattle.pet_base.specs.Seen.{Seen, Files, HadFault}
use Rattle.pet_base.specs.laws.SeenLaws.{HadFault-since}
use Rattle.pet_base.specs.declared.faults.Stop.{Stop}
use Rattle.pet_base.specs.declared.faults.Stop.TheVariants as stop
use Rattle.mpeg_scan.specs.declared.refusal.Scan.{Scan}
use Rattle.mpeg_scan.specs.declared.refusal.Scan.TheVariants.{TooLong}
use Rattle.mpeg_scan.specs.Refusals.{Refuses, IsAccepted, max_stream}
use Rattle.mpeg_scan.specs.Pieces.{pieces_of}
use Rattle.priority_file.specs.declared.fault.PriorityFault.{PriorityFault}
use Rattle.priority_file.specs.declared.fault.PriorityFault.TheVariants as rules
use Rattle.priority_file.specs.Priority.{Priorities}
use Rattle.priority_file.specs.Refusals.{Row, first_of, rows, refusal_of, priorities_of}
use Rattle.stream_session.specs.declared.pass.StreamFault.{StreamFault}
use Rattle.stream_session.specs.declared.pass.StreamFault.TheVariants as pass
use Rattle.session_source.specs.declared.source.SourceFault.TheVariants as source
use Rattle.stream_session.specs.Refusals.{session_fault_in}
use Rattle.packet_frame.specs.declared.format.Format.{Format}
use Rattle.outside_files.specs.Inputs.{IsFile, IsFrontOf, IsRead, Licensed}
use Rattle.stream_session.specs.declared.pass.SessionPlan.{SessionPlan}
use Rattle.stream_session.specs.Passing.{IsPlanIn, IsStreamFaultIn}
use Rattle.session_source.specs.Sources.{of_stop, of_stream, of_priority, BothFiles, IsOfSource, IsSourceIn}
use Rattle.session_source.specs.Sources.{IsSourceFaultIn}

-- all of the file was read
whole_file : (limit : ℕ) (bytes name : List ℕ) (files : Option Files) → length bytes ≤ limit
    → IsFrontOf limit bytes files name → IsFile files name bytes
whole_file limit bytes name files few front =
    subst (λ (b : List ℕ). IsFile files name b)
    (ap (λ (m : List ℕ). bytes ++ m) (front.whole few) ∙ append-nil bytes) front.told

short_by : (a b : ℕ) → nat_lt a b ≡ false → b ≤ a
short_by a b e = ltb-false a b e

-- an accepted stream has at most the bytes of one
pub short_stream : (stream : List ℕ) → IsAccepted stream → length stream ≤ MAX_STREAM
short_stream stream accepted = short_by MAX_STREAM (length stream) (accepted TooLong)

refuses_file : (stream more : List ℕ) (scan : Scan) → (length stream ≤ MAX_STREAM → more ≡ []) → Refuses stream scan
    → (max_stream < length stream → (rest : List ℕ) → Refuses (stream ++ rest) scan) → Refuses (stream ++ more) scan
refuses_file stream more scan whole refuses long =
    elim (cases_lt MAX_STREAM (length stream)) [
      | inl lt ↦ long lt more
      | inr le ↦ subst (λ (s : List ℕ). Refuses s scan)
          (sym (ap (λ (m : List ℕ). stream ++ m) (whole (omega (arith, le))) ∙ append-nil stream)) refuses
    ]

first_true : (b : Bool) (fault : PriorityFault) (rest : List Row) → b ≡ true → first_of ((b, fault) ∷ rest) ≡ Some fault
first_true true fault rest e = refl
first_true false fault rest e = absurd cc

long_refused : (bytes : List ℕ) → MAX_PRIORITY_FILE < length bytes → refusal_of bytes ≡ Some rules.Long
unfolding refusal_of
long_refused bytes lt =
    first_true (nat_lt MAX_PRIORITY_FILE (length bytes)) rules.Long (drop 1 (rows bytes))
    (lt-ltb MAX_PRIORITY_FILE (length bytes) lt)

none_some : {A : Type 0} (x : A) → None ≡ Some x → ⊥
none_some x e = cc

short_priority : (bytes : List ℕ) → refusal_of bytes ≡ None → length bytes ≤ MAX_PRIORITY_FILE
short_priority bytes e =
    elim (cases_lt MAX_PRIORITY_FILE (length bytes)) [
      | inl lt ↦ absurd (none_some _ (sym e ∙ long_refused bytes lt))
      | inr le ↦ le
    ]

refused_file : (bytes more : List ℕ) (fault : PriorityFault) → (length bytes ≤ MAX_PRIORITY_FILE → more ≡ [])
    → refusal_of bytes ≡ Some fault → refusal_of (bytes ++ more) ≡ Some fault
refused_file bytes more fault whole e =
    elim (cases_lt MAX_PRIORITY_FILE (length bytes)) [
      | inl lt ↦ long_refused (bytes ++ more) (omega (arith, length-append bytes more, lt))
          ∙ sym (long_refused bytes lt) ∙ e
      | inr le ↦ ap refusal_of (ap (λ (m : List ℕ). bytes ++ m) (whole le) ∙ append-nil bytes) ∙ e
    ]

refused_at : (t : Format) (limit : ℕ) (stream priority bytes : List ℕ) (old new : Seen) (fault : PriorityFault)
    → IsFrontOf MAX_PRIORITY_FILE bytes old.files priority
    → refusal_of bytes ≡ Some fault → IsSourceFaultIn t limit old new stream priority (source.Priority fault)
refused_at t limit stream priority bytes old new fault front e =
    (bytes ++ front.more, front.told, refused_file bytes front.more fault front.whole e)

-- the priority file is refused
pub priority_at : (t : Format) (limit : ℕ) (stream priority bytes : List ℕ) (old new : Seen) (fault : PriorityFault)
    → IsFrontOf MAX_PRIORITY_FILE bytes old.files priority
    → (fault ≢ rules.NoMemory → refusal_of bytes ≡ Some fault)
    → IsSourceFaultIn t limit old new stream priority (of_priority fault)
priority_at t limit stream priority bytes old new rules.Long front why =
    refused_at t limit stream priority bytes old new rules.Long front (why (λ e. cc))
priority_at t limit stream priority bytes old new rules.Text front why =
    refused_at t limit stream priority bytes old new rules.Text front (why (λ e. cc))
priority_at t limit stream priority bytes old new rules.UnknownKey front why =
    refused_at t limit stream priority bytes old new rules.UnknownKey front (why (λ e. cc))
priority_at t limit stream priority bytes old new rules.MissingKey front why =
    refused_at t limit stream priority bytes old new rules.MissingKey front (why (λ e. cc))
priority_at t limit stream priority bytes old new rules.WrongType front why =
    refused_at t limit stream priority bytes old new rules.WrongType front (why (λ e. cc))
priority_at t limit stream priority bytes old new rules.PacketsRange front why =
    refused_at t limit stream priority bytes old new rules.PacketsRange front (why (λ e. cc))
priority_at t limit stream priority bytes old new rules.NeedRange front why =
    refused_at t limit stream priority bytes old new rules.NeedRange front (why (λ e. cc))
priority_at t limit stream priority bytes old new rules.Name front why =
    refused_at t limit stream priority bytes old new rules.Name front (why (λ e. cc))
priority_at t limit stream priority bytes old new rules.KindTwice front why =
    refused_at t limit stream priority bytes old new rules.KindTwice front (why (λ e. cc))
priority_at t limit stream priority bytes old new rules.KindMissing front why =
    refused_at t limit stream priority bytes old new rules.KindMissing front (why (λ e. cc))
priority_at t limit stream priority bytes old new rules.HeadNotFirst front why =
    refused_at t limit stream priority bytes old new rules.HeadNotFirst front (why (λ e. cc))
priority_at t limit stream priority bytes old new rules.TooManyLayers front why =
    refused_at t limit stream priority bytes old new rules.TooManyLayers front (why (λ e. cc))
priority_at t limit stream priority bytes old new rules.NoMemory front why = tt

-- a priority file that was read whole and is accepted, and its priority
pub record IsJudged (files : Option Files) (name file : List ℕ) (read : Priorities) : Type 0 where
  pub file_is : IsFile files name file
  pub accepted : refusal_of file ≡ None
  pub rules : read ≡ priorities_of file

pub judged : (name given file : List ℕ) (limit : ℕ) (read : Priorities) (files : Option Files)
    → limit ≡ MAX_PRIORITY_FILE → given ≡ file → IsFrontOf limit file files name
    → refusal_of given ≡ None → read ≡ priorities_of given → IsJudged files name file read
judged name given file limit read files most same front accepted is =
    let none : refusal_of file ≡ None = ap refusal_of (sym same) ∙ accepted in
    record {
      file_is =
          whole_file limit file name files
          (subst (λ (m : ℕ). length file ≤ m) (sym most) (short_priority file none)) front;
      accepted = none;
      rules = is ∙ ap priorities_of same;
    }

-- what is read of the stream after it is read of both files
both_files : (stream priority file bytes : List ℕ) (read : Priorities) (old between : Seen)
    (P : List ℕ → List ℕ → Type 0) → IsJudged old.files priority file read
    → between.files ≡ old.files → IsFile between.files stream bytes → P file bytes
    → BothFiles old.files stream priority P
both_files stream priority file bytes read old between P judged same is holds = record {
  file = file;
  bytes = bytes;
  priority_is = judged.file_is;
  stream_is = subst (λ (f : Option Files). IsFile f stream bytes) same is;
  accepted = judged.accepted;
  holds = holds;
}

-- it is refused, or its plan
pub stream_at : (t : Format) (limit : ℕ) (stream priority file bytes : List ℕ) (read : Priorities) (old between new : Seen)
    (fault : StreamFault) → IsJudged old.files priority file read
    → between.files ≡ old.files → IsFrontOf MAX_STREAM bytes between.files stream → IsStreamFaultIn t limit read bytes fault
    → IsSourceFaultIn t limit old new stream priority (of_stream fault)
stream_at t limit stream priority file bytes read old between new (pass.Stream scan) judged same front why =
    both_files stream priority file (bytes ++ front.more) read old between _ judged same front.told
    (refuses_file bytes front.more scan front.whole why.0 why.1)
stream_at t limit stream priority file bytes read old between new (pass.Plan fault) judged same front why =
    both_files stream priority file bytes read old between _ judged same
    (whole_file MAX_STREAM bytes stream between.files (short_stream bytes why.0) front)
    (why.0, why.1, subst (λ (p : Priorities). session_fault_in t limit p (pieces_of bytes) ≡ Some fault) judged.rules why.2)
stream_at t limit stream priority file bytes read old between new pass.NoMemory judged same front why = tt

-- a fault of the place at the priority file, and one at the stream, where the priority file is accepted
pub rules_failed : (t : Format) (limit : ℕ) (stream priority : List ℕ) (old new : Seen) (why : Stop)
    → Licensed (HadFault old new (IsRead priority)) why → IsSourceFaultIn t limit old new stream priority (of_stop why)
rules_failed t limit stream priority old new stop.NoMemory had = tt
rules_failed t limit stream priority old new stop.Failed had =
    HadFault-since old old new (IsRead priority) (IsOfSource old.files stream priority) (omega arith)
    (λ b at. inl at) had

pub stream_failed : (t : Format) (limit : ℕ) (stream priority file : List ℕ) (read : Priorities) (old between new : Seen) (why : Stop)
    → IsJudged old.files priority file read → old.faults ≤ between.faults
    → Licensed (HadFault between new (IsRead stream)) why → IsSourceFaultIn t limit old new stream priority (of_stop why)
stream_failed t limit stream priority file read old between new stop.NoMemory judged later had = tt
stream_failed t limit stream priority file read old between new stop.Failed judged later had =
    HadFault-since old between new (IsRead stream) (IsOfSource old.files stream priority) later
    (λ b at. inr (at, file, judged.file_is, judged.accepted)) had

-- it is accepted, and answered
pub answer_at : (stream priority given file bytes : List ℕ) (read : Priorities) (old between : Seen)
    (P : Priorities → List ℕ → List ℕ → Type 0) → IsJudged old.files priority file read
    → between.files ≡ old.files → given ≡ file → IsFrontOf MAX_STREAM bytes between.files stream
    → IsAccepted bytes × P read given bytes
    → BothFiles old.files stream priority (λ f b. (read ≡ priorities_of f) × P (priorities_of f) f b)
answer_at stream priority given file bytes read old between P judged same is front holds =
    both_files stream priority file bytes read old between _ judged same
    (whole_file MAX_STREAM bytes stream between.files (short_stream bytes holds.0) front) (
      judged.rules,
      subst (λ (f : List ℕ). P (priorities_of file) f bytes) is
          (subst (λ (p : Priorities). P p given bytes) judged.rules holds.1),
    )

-- the session of both files, by its plan
unfoldable pub source_by : {t : Format} {limit : ℕ} {files : Option Files} {stream priority : List ℕ} {P : List ℕ → List ℕ → Type 0}
    (both : BothFiles files stream priority P) (rules : Priorities) (plan : SessionPlan)
    → rules ≡ priorities_of both.file
    → IsPlanIn t limit plan (priorities_of both.file) both.file both.bytes
    → IsSourceIn t limit files stream priority (record { priority = rules; number = plan.number; tables = plan.tables })
source_by both rules plan is planned = record {
  file = both.file;
  bytes = both.bytes;
  priority_is = both.priority_is;
  stream_is = both.stream_is;
  accepted = record { priority_read = both.accepted; stream_read = planned.accepted; fits = planned.fits };
  rules = is;
  number = planned.number;
  tables = planned.tables;
}
