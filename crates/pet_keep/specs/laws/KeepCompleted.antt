-- A run that nothing disturbs is done: from what it does at each of its ends.
use Rattle.std.proofs.Common.{◌≡◌, ℕ, ◌≤◌, List, [], ◌∷◌, ◌++◌, length, Option, None, Some, refl, sym, ap}
use Rattle.std.proofs.Common.{subst, ◌∙◌, arith, inl, inr}
use Rattle.std.specs.Prelude.{Result, Ok, Err, option_map}
use Rattle.std.specs.Io.KnownBytes.{append_known}
use Rattle.packet_reading.specs.Begun.{EnteringFailed}
use Rattle.packet_reading.specs.Opened.{IsBoundTo, PortFailed, PrintedPort}
use Rattle.packet_reading.specs.Layers.{port_line}
use Rattle.packet_reading.specs.declared.reading.Totals.{Totals}
use Rattle.packet_reading.specs.laws.ReadLaws.{all_read}
use Rattle.outside_disk.specs.Disk.{DiskSeen, IfTold, Untold, Tells as TellsDisk}
use Rattle.outside_files.specs.Uses.{Failed, IsOneOf, writing}
use Rattle.outside_files.specs.Wrote.{with_files}
use Rattle.outside_files.specs.laws.PrintedLaws.{append_known-twice}
use Rattle.outside_routes.specs.RouteFaults.{BoundFailed}
use Rattle.outside_routes.specs.Way.{Way, OnFile, OnLink}
use Rattle.packet_verdicts.specs.KeptSet.{KeptSet, kept_in_all}
use Rattle.packet_verdicts.specs.Verdicts.{after_all}
use Rattle.pet_base.specs.Causes.{Rose}
use Rattle.pet_base.specs.LinkSeen.{LinkSeen}
use Rattle.pet_base.specs.OutsideSeen.{OutsideSeen}
use Rattle.pet_base.specs.Seen.{Blame, Files, Seen, with_file}
use Rattle.pet_base.specs.laws.SeenLaws.{HadFault-since}
use Rattle.pet_text.specs.Ends.{way_in}
use Rattle.pet_text.specs.Lines.{receive_text}
use Rattle.pet_text.specs.laws.ToldLaws.{ToldBy, silent, told}
use Rattle.pet_text.specs.declared.keep_words.KeepWords.{KeepWords}
use Rattle.store_journal.specs.declared.fault.StartFault.{StartFault}
use Rattle.store_text.specs.Files.{store_file}
use Rattle.store_text.specs.Store.{store_text}
use Rattle.pet_keep.specs.Journaled.{DiskNow, HasJournal, journal_in}
use Rattle.pet_keep.specs.Keeps.{AreTotals, EndsKeep, KeepsAll, StopsAtFile}
use Rattle.pet_keep.specs.Runs.{CanKeep, CompletesKeep, DoesKeep, EndsBy, KeepsGiven}
use Rattle.pet_keep.specs.Runs.{Tells, TellsJournal, numbers_text, uses_of}
use Rattle.pet_keep.specs.Statuses.{fault_text, line_of, status_of, totals_text}
use Rattle.pet_keep.specs.declared.end.KeepEnd.{KeepEnd}
use Rattle.pet_keep.specs.declared.end.KeepEnd.TheVariants as end
use Rattle.pet_keep.specs.declared.status.KeepStatus.{KeepStatus}
use Rattle.pet_keep.specs.declared.status.KeepStatus.TheVariants.{Done, Incomplete, OutFault}

same_ok : {T E : Type 0} (x y : T) (r : Result T E) → r ≡ Ok x → r ≡ Ok y → x ≡ y
same_ok x y r p q = cc

ok_err : {T E : Type 0} (x : T) (e : E) (r : Result T E) → r ≡ Ok x → r ≡ Err e → ⊥
ok_err x e r p q = cc

-- the journal stands for the set that is told
same_first : (session : List ℕ) (disk : DiskSeen) (set first : KeptSet) → HasJournal session disk set
    → TellsJournal session disk first → set ≡ first
same_first session Untold set first journal told = absurd told
same_first session (TellsDisk d) set first journal told =
    same_ok set first (journal_in session d.bytes) journal.read told

not_refused : (session : List ℕ) (disk : DiskSeen) (first : KeptSet) (fault : StartFault)
    → TellsJournal session disk first → IfTold disk (λ d. journal_in session d.bytes ≡ Err fault) → ⊥
not_refused session Untold first fault told refused = told
not_refused session (TellsDisk d) first fault told refused =
    ok_err first fault (journal_in session d.bytes) told refused

-- what is blamed is one of the files that are used
from_used : (from : Way) (store : List ℕ) (old new : Seen) → EnteringFailed from old new
    → Failed (uses_of from store) old new
from_used (OnFile name) store old new had = HadFault-since old old new _ _ (omega arith) (λ b is. inl is) had
from_used (OnLink address) store old new had = absurd had

store_used : (from : Way) (store : List ℕ) (b : Blame) → b ≡ writing store → IsOneOf (uses_of from store) b
store_used (OnFile name) store b is = inr is
store_used (OnLink address) store b is = is

is_used : (first : KeptSet) (from : Way) (store : List ℕ) (before after : OutsideSeen) (disk : DiskSeen)
    → StopsAtFile first from store before after disk → Failed (uses_of from store) before.place after.place
is_used first from store before after disk (inl opening) = from_used from store before.place after.place opening.0.0
is_used first from store before after disk (inr (inl until)) = from_used from store before.place after.place until.0
is_used first from store before after disk (inr (inr part)) =
    HadFault-since before.place before.place after.place _ _ (omega arith) (store_used from store) part.0

port_well : (from : Way) (before after : OutsideSeen) → PortFailed from before after
    → Rose before.out_faults after.out_faults
port_well (OnFile name) before after failed = absurd failed
port_well (OnLink address) before after failed = failed.rose

-- the line of the port and then those of the end and of the status
printed_all : (from : Way) (before between after : OutsideSeen) (text : List ℕ) → PrintedPort from before between
    → after.link ≡ between.link → after.written ≡ append_known between.written text
    → after.written ≡ append_known before.written (port_line from after.link ++ text)
printed_all (OnFile name) before between after text port link written =
    written ∙ ap (λ (o : Option (List ℕ)). append_known o text) port
printed_all (OnLink address) before between after text port link written =
    written ∙ ap (λ (o : Option (List ℕ)). append_known o text) port
    ∙ append_known-twice before.written (port_line (OnLink address) between.link) text
    ∙ ap (λ (l : LinkSeen). append_known before.written (port_line (OnLink address) l ++ text)) (sym link)

numbers_are : (first : KeptSet) (read : List (List ℕ)) (totals : Totals) → AreTotals first read totals
    → totals_text totals ≡ numbers_text first read
numbers_are first read totals are =
    ap (λ (n : ℕ). receive_text n totals.kept totals.shown) are.many
    ∙ ap (λ (n : ℕ). receive_text (length read) n totals.shown) are.kept
    ∙ ap (λ (n : ℕ). receive_text (length read) (kept_in_all (after_all first read)) n) are.shown

module _ (words : KeepWords) (files : Files) (ds : List (List ℕ)) (first : KeptSet) (before after : OutsideSeen)
    (old new : DiskNow) (status : KeepStatus) (can : CanKeep words files ds first before after old new status)
    (between : OutsideSeen) where
  abbrev from : Way
  from = way_in words.from

  -- the end of a run whose datagrams were read
  given : (set : KeptSet) → HasJournal words.session old.seen set
      → (k : KeepsAll set from words.store before between new.seen) → (totals : Totals) → AreTotals set k.read totals
      → PrintedPort from before between → (of_end : KeepStatus)
      → ToldBy fault_text (totals_text totals) of_end between after status
      → (EndsBy (after_all set k.read) of_end)
      → KeepsGiven words files ds first before after status
  given set journal k totals are port of_end is_told ends =
      let same : set ≡ first = same_first words.session old.seen set first journal can.journal in
      let read = all_read from k.read ds files before between can.told can.found can.few k.input in
      let kept : after_all set k.read ≡ after_all first ds =
      ap (λ (s : KeptSet). after_all s k.read) same ∙ ap (after_all first) (sym read.0) in
      let numbers : totals_text totals ≡ numbers_text first ds =
      numbers_are set k.read totals are ∙ ap (λ (s : KeptSet). numbers_text s k.read) same
      ∙ ap (numbers_text first) (sym read.0) in
      record {
        written =
            ap (λ (s : Seen). s.files) is_told.place ∙ k.file
            ∙ ap (λ (o : Option Files). option_map
            (with_files (store_file words.store (after_all set k.read) ∷ [])) o) can.told
            ∙ ap (λ (s : KeptSet). Some (with_file words.store (store_text s) files)) kept;
        listens = subst (λ (l : LinkSeen). IsBoundTo from before.link l) (sym is_told.link) k.bound;
        ended =
            subst (EndsBy (after_all first ds)) (sym is_told.ended)
            (subst (λ (s : KeptSet). EndsBy s of_end) kept ends);
        printed =
            printed_all from before between after (totals_text totals ++ fault_text status) port is_told.link is_told.printed
            ∙ ap (λ (t : List ℕ). append_known before.written (port_line from after.link ++ (t ++ fault_text status)))
            numbers;
      }

  module _ (later : before.out_faults ≤ between.out_faults) where
    out_well : Rose between.out_faults after.out_faults → ⊥
    out_well rose = can.well.out (omega (arith, rose, later))

    ends_told : (e : KeepEnd) → Tells (line_of e) (status_of e) between after status
        → ToldBy fault_text (line_of e) (status_of e) between after status
    ends_told e tells = told fault_text OutFault (line_of e) (status_of e) between after status tells out_well

    by : (e : KeepEnd) → EndsKeep from words.session words.store before between old new e
        → Tells (line_of e) (status_of e) between after status → KeepsGiven words files ds first before after status
    by (end.Done totals) ends tells =
        let left = ends.left in
        given ends.first ends.journal left.0 totals left.3 left.4 Done (ends_told (end.Done totals) tells)
        (inl (refl, left.2))
    by (end.Incomplete totals) ends tells =
        let left = ends.left in
        given ends.first ends.journal left.0 totals left.3 left.4 Incomplete (ends_told (end.Incomplete totals) tells)
        (inr (refl, left.2))
    by (end.TurnsSpent totals) ends tells =
        let k = ends.left.0 in
        let many = ends.left.1 in
        absurd (let few = (all_read from k.read ds files before between can.told can.found can.few k.input).1 in
        omega (arith, few, many))
    by end.NoMemory ends tells = absurd (can.memory (ends_told end.NoMemory tells).ended)
    by end.PlaceFault ends tells =
        absurd (can.well.place (subst (λ (s : Seen). Failed (uses_of from words.store) before.place s)
        (sym (ends_told end.PlaceFault tells).place)
        (is_used ends.first from words.store before between new.seen ends.left.0)))
    by end.LinkFault ends tells =
        absurd (can.link (subst (λ (l : LinkSeen). BoundFailed from before.link l)
        (sym (ends_told end.LinkFault tells).link) ends.left.0))
    by end.OutFault ends tells =
        absurd (let rose = port_well from before between ends.left.1 in
        let since = (silent fault_text OutFault (status_of end.OutFault) between after status tells).1.later in
        can.well.out (omega (arith, rose, since)))
    by end.DiskFault (inl ends) tells = absurd (can.disk ends.0)
    by end.DiskFault (inr ends) tells = absurd (can.disk ends.left.0)
    by end.OtherSession ends tells =
        absurd (not_refused words.session old.seen first _ can.journal ends.0.1.told)
    by (end.BadJournal at) ends tells =
        absurd (not_refused words.session old.seen first _ can.journal ends.0.told)
    by end.Usage ends tells = absurd ends

-- being done follows from what is done at each end
pub completes_keep : (words : Option KeepWords) (before after : OutsideSeen) (old new : DiskNow) (status : KeepStatus)
    → DoesKeep words before after old new status → CompletesKeep words before after old new status
completes_keep None before after old new status does = tt
completes_keep (Some words) before after old new status runs = λ files ds first can.
    by words files ds first before after old new status can runs.between runs.did.later runs.end runs.did.ends
    runs.tells
