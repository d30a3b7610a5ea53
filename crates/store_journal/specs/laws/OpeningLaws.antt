-- What opening a journal leaves.
use Rattle.std.proofs.Common.{◌≡◌, ◌≢◌, ℕ, ◌<◌, ◌≤◌, true, false, List, [], ◌∷◌, ◌++◌, length, take, drop, refl, sym}
use Rattle.std.proofs.Common.{ap, ◌∙◌, append_assoc, take-append-drop, arith}
use Rattle.std.specs.Prelude.{Result, Ok, Err, IfErr, IfOk, OnOk, nat_le}
use Rattle.std.specs.Str.{bytes_eq}
use Rattle.std.proofs.lemmas.Bool.{false_from_ne_true}
use Rattle.std.proofs.lemmas.Bool.Decides.{nat_tests}
use Rattle.std.proofs.lemmas.Slice.Eq.{bytes_eq-Decides}
use Rattle.std.proofs.lemmas.List.{drop-drop, drop-take, take-take}
use Rattle.outside_disk.specs.Disk.{Told, DiskSeen, Untold, Tells, Between, IfTold, IsSynced, Reads, LeavesOnly}
use Rattle.outside_disk.specs.Disk.{Holds, IsSound, image}
use Rattle.outside_disk.specs.laws.DiskLaws.{only_then, only_weaker, between_weaker, bytes_stood, reads_on}
use Rattle.store_journal.specs.inside.Ends.{MayMend, Mends}
use Rattle.store_journal.specs.Text.{Keep, HasFrames, mark_text, entries_text, front_text, reading_of}
use Rattle.store_journal.specs.AtRest.{IsAtRest, IsOpen}
use Rattle.store_journal.specs.inside.Ends.{HasEnd, MayCut}
use Rattle.store_journal.specs.inside.Turns.{AreRead, IsRefused}
use Rattle.store_journal.specs.inside.Heads.{HasHead, IsHeadFault, IsNoJournal}
use Rattle.store_journal.specs.Opening.{ReadsAlike, IsStartFault, LeavesSets, IsReadAs, KeepsDisk}
use Rattle.store_journal.specs.laws.TextLaws.{short_is, journal_is, long_is, same_bytes, front_length}
use Rattle.store_journal.specs.declared.fault.StartFault.{StartFault}
use Rattle.store_journal.specs.declared.fault.StartFault.TheVariants.{BadJournal, OtherSession, DiskFault, NoMemory}
use Rattle.store_journal.specs.declared.reading.End.{End}

differ : (a b : List ℕ) → a ≢ b → bytes_eq a b ≡ false
differ a b ne = false_from_ne_true (bytes_eq a b) (λ e. ne ((bytes_eq-Decides a b).0 e))

-- a text whose head is another
unmarked : {S : Type 0} (keep : Keep S) (empty : S) (session text : List ℕ) → 13 < length text
    → take 4 text ≢ mark_text → reading_of keep empty session text ≡ Err (BadJournal 0)
unfolding reading_of
unmarked keep empty session text long ne =
    let many : nat_le (length text) 13 ≡ false = grind (arith, nat_tests) in
    rw (many, differ (take 4 text) mark_text ne) refl

unnamed : {S : Type 0} (keep : Keep S) (empty : S) (session text named : List ℕ) → 13 < length text
    → take 4 text ≡ mark_text → take 8 (drop 4 text) ≡ named → named ≢ session
    → reading_of keep empty session text ≡ Err (OtherSession named)
unfolding reading_of
unnamed keep empty session text named long mark is ne =
    let many : nat_le (length text) 13 ≡ false = grind (arith, nat_tests) in
    let marked : bytes_eq (take 4 text) mark_text ≡ true = ap (λ (t : List ℕ). bytes_eq t mark_text) mark
    ∙ same_bytes mark_text in
    let other : bytes_eq (take 8 (drop 4 text)) session ≡ false = ap (λ (t : List ℕ). bytes_eq t session) is
    ∙ differ named session ne in
    rw (many, marked, other, is) refl

head_refused : {S : Type 0} (keep : Keep S) (empty : S) (session text : List ℕ) (f : StartFault) → 13 < length text
    → IsNoJournal session text f → IsStartFault keep empty session text f
head_refused keep empty session text (BadJournal at) long no_journal =
    unmarked keep empty session text long no_journal.1 ∙ ap (λ (k : ℕ). Err (BadJournal k)) (sym no_journal.0)
head_refused keep empty session text (OtherSession named) long no_journal =
    unnamed keep empty session text named long no_journal.0 no_journal.1 no_journal.2
head_refused keep empty session text DiskFault long no_journal = tt
head_refused keep empty session text NoMemory long no_journal = tt

gate_refused : {S : Type 0} (keep : Keep S) (empty : S) (session text : List ℕ) (f : StartFault) → 13 < length text
    → HasHead session text → IsRefused keep empty text f → IsStartFault keep empty session text f
gate_refused keep empty session text (BadJournal at) long head refused =
    long_is keep empty session text (Err at) long head.0 head.1 refused
gate_refused keep empty session text (OtherSession named) long head refused = absurd refused
gate_refused keep empty session text DiskFault long head refused = tt
gate_refused keep empty session text NoMemory long head refused = tt

-- the text that was read
text_is : {S : Type 0} (keep : Keep S) (first now : S) (session text : List ℕ) (end : End) → HasHead session text
    → (read : AreRead keep end first now text) → text ≡ front_text session read.frames ++ end.value ∷ read.rest
text_is keep first now session text end head read =
    let tail = end.value ∷ read.rest in
    sym (take-append-drop 4 text)
    ∙ ap (λ (l : List ℕ). l ++ drop 4 text) head.0
    ∙ ap (λ (l : List ℕ). mark_text ++ l) (sym (take-append-drop 8 (drop 4 text))
    ∙ ap (λ (l : List ℕ). l ++ drop 8 (drop 4 text)) head.1
    ∙ ap (λ (l : List ℕ). session ++ l) (drop-drop 8 4 text ∙ read.is))
    ∙ sym (append_assoc (mark_text ++ session) (entries_text read.frames) tail)

module _ {S : Type 0} (keep : Keep S) (first now : S) (session : List ℕ) (eight : length session ≡ 8) (end : End)
    (old mid : Told) (reads : Reads old mid) (head : HasHead session old.bytes)
    (read : AreRead keep end first now old.bytes) (synced : IsSynced old) where
  has_end : HasEnd session read.frames end.gate end.value end.more mid
  has_end = record {
    rest = read.rest;
    text = reads.bytes ∙ text_is keep first now session old.bytes end head read;
    ends = read.ends;
    place = read.place ∙ sym (front_length session read.frames eight);
    behind = read.behind;
    synced = λ c here. synced c (reads.from c here) ∙ sym reads.bytes;
  }

  stands_for : (c : List ℕ) → HasFrames session read.frames c → reading_of keep first session c ≡ Ok now
  stands_for c is = journal_is keep first session read.frames now c eight read.keeps is

  old_stands : reading_of keep first session old.bytes ≡ Ok now
  old_stands =
      stands_for old.bytes
      (record {
        gate = end.value;
        rest = read.rest;
        is = text_is keep first now session old.bytes end head read;
        ends = read.ends;
      })

  pub mending_leaves : (new : Told) → LeavesOnly (HasFrames session read.frames) mid new
      → LeavesOnly (ReadsAlike keep first session old.bytes) old new
  mending_leaves new leaves =
      only_then _ old mid new
      (only_weaker _ _ old mid (λ c here. ap (λ (t : List ℕ). reading_of keep first session t) (synced c here))
      reads.only)
      (only_weaker _ _ mid new (λ c is. stands_for c is ∙ sym old_stands) leaves)

reading_leaves : {S : Type 0} (keep : Keep S) (first : S) (session : List ℕ) (old mid : Told) → Reads old mid
    → IsSynced old → LeavesOnly (ReadsAlike keep first session old.bytes) old mid
reading_leaves keep first session old mid reads synced =
    only_weaker _ _ old mid (λ c here. ap (λ (t : List ℕ). reading_of keep first session t) (synced c here))
    reads.only

-- the same, told or not
pub only_read : {S : Type 0} (keep : Keep S) (first : S) (session : List ℕ) (a b : DiskSeen) → Between Reads a b
    → Between (λ old new. IsSynced old → LeavesOnly (ReadsAlike keep first session old.bytes) old new) a b
only_read keep first session a b reads =
    between_weaker _ _ (λ old mid r synced. reading_leaves keep first session old mid r synced) a b reads

pub mend_leaves : {S : Type 0} (keep : Keep S) (first now : S) (session : List ℕ) (end : End) (a b c : DiskSeen)
    → length session ≡ 8 → Between Reads a b → IfTold a (λ d. HasHead session d.bytes)
    → IfTold a (λ d. AreRead keep end first now d.bytes)
    → Between (MayMend end) b c
    → Between (λ old new. IsSynced old → LeavesOnly (ReadsAlike keep first session old.bytes) old new) a c
mend_leaves keep first now session end Untold Untold Untold eight reads head read leaves = tt
mend_leaves keep first now session end Untold Untold (Tells e) eight reads head read leaves = leaves
mend_leaves keep first now session end Untold (Tells b) c eight reads head read leaves = absurd reads
mend_leaves keep first now session end (Tells a) Untold c eight reads head read leaves = absurd reads
mend_leaves keep first now session end (Tells a) (Tells b) Untold eight reads head read leaves = absurd leaves
mend_leaves keep first now session end (Tells a) (Tells b) (Tells e) eight reads head read leaves = λ synced.
    mending_leaves keep first now session eight end a b reads head read synced e
    (leaves session read.frames (has_end keep first now session eight end a b reads head read synced))

pub mend_opens : {S : Type 0} (keep : Keep S) (first now : S) (session : List ℕ) (end : End) (a b c : DiskSeen)
    → length session ≡ 8 → Between Reads a b → IfTold a (λ d. HasHead session d.bytes)
    → IfTold a (λ d. AreRead keep end first now d.bytes)
    → Between (Mends end) b c → Between (λ old new. IsSynced old → IsOpen keep first session end.gate now new) a c
mend_opens keep first now session end Untold Untold Untold eight reads head read mends = tt
mend_opens keep first now session end Untold Untold (Tells e) eight reads head read mends = mends
mend_opens keep first now session end Untold (Tells b) c eight reads head read mends = absurd reads
mend_opens keep first now session end (Tells a) Untold c eight reads head read mends = absurd reads
mend_opens keep first now session end (Tells a) (Tells b) Untold eight reads head read mends = absurd mends
mend_opens keep first now session end (Tells a) (Tells b) (Tells e) eight reads head read mends = λ synced.
    record {
      eight = eight;
      frames = read.frames;
      keeps = read.keeps;
      rest =
          mends session read.frames (has_end keep first now session eight end a b reads head read synced);
    }

pub at_head : {S : Type 0} (keep : Keep S) (first : S) (session : List ℕ) (size : ℕ) (a : DiskSeen) (f : StartFault)
    → 13 < size → IfTold a (λ d. length d.bytes ≡ size) → IfTold a (λ d. IsNoJournal session d.bytes f)
    → IfTold a (λ d. IsStartFault keep first session d.bytes f)
at_head keep first session size Untold f long is refused = tt
at_head keep first session size (Tells d) f long is refused =
    head_refused keep first session d.bytes f (omega arith) refused

pub at_gate : {S : Type 0} (keep : Keep S) (first : S) (session : List ℕ) (size : ℕ) (a : DiskSeen) (f : StartFault)
    → 13 < size → IfTold a (λ d. length d.bytes ≡ size) → IfTold a (λ d. HasHead session d.bytes)
    → IfTold a (λ d. IsRefused keep first d.bytes f) → IfTold a (λ d. IsStartFault keep first session d.bytes f)
at_gate keep first session size Untold f long is head refused = tt
at_gate keep first session size (Tells d) f long is head refused =
    gate_refused keep first session d.bytes f (omega arith) head refused

pub mend_cut : (end : End) (a b : DiskSeen) → Between (MayCut end.gate end.more) a b → Between (MayMend end) a b
mend_cut end a b leaves = between_weaker (MayCut end.gate end.more) (MayMend end)
    (λ old new l session frames has. l session frames end.value has) a b leaves

-- the head of what was read is the head of the text
first_four : (text : List ℕ) → take 4 (take 12 text) ≡ take 4 text
first_four text = take-take 4 12 text (omega arith)

next_eight : (text : List ℕ) → take 8 (drop 4 (take 12 text)) ≡ take 8 (drop 4 text)
next_eight text = ap (λ (l : List ℕ). take 8 l) (drop-take 4 8 text) ∙ take-take 8 8 (drop 4 text) (omega arith)

fault_of : (session head text : List ℕ) (f : StartFault) → head ≡ take 12 text → IsHeadFault session head f
    → IsNoJournal session text f
fault_of session head text (BadJournal at) is fault =
    (fault.0, λ e. fault.1 (ap (λ (l : List ℕ). take 4 l) is ∙ first_four text ∙ e))
fault_of session head text (OtherSession named) is fault = (
  sym (ap (λ (l : List ℕ). take 4 l) is ∙ first_four text) ∙ fault.0,
  sym (ap (λ (l : List ℕ). take 8 (drop 4 l)) is ∙ next_eight text) ∙ fault.1,
  fault.2,
)
fault_of session head text DiskFault is fault = absurd fault
fault_of session head text NoMemory is fault = absurd fault

pub head_faults : {T : Type 0} (session head : List ℕ) (a : DiskSeen) (r : Result T StartFault) → length head ≡ 12
    → IfTold a (λ d. Holds d.bytes 0 head) → IfErr r (IsHeadFault session head)
    → IfErr r (λ f. IfTold a (λ d. IsNoJournal session d.bytes f))
head_faults session head a (Ok t) len holds fault = tt
head_faults session head Untold (Err f) len holds fault = tt
head_faults session head (Tells d) (Err f) len holds fault = fault_of session head d.bytes f (holds
    ∙ ap (λ (k : ℕ). take k d.bytes) len) fault

-- a file of at most 13 bytes
begun_leaves : {S : Type 0} (keep : Keep S) (first : S) (session : List ℕ) (old new : Told) → length old.bytes ≤ 13
    → LeavesOnly (λ c. length c ≤ 13) old new → LeavesOnly (ReadsAlike keep first session old.bytes) old new
begun_leaves keep first session old new short leaves =
    only_weaker _ _ old new (λ c is. short_is keep first session c is
    ∙ sym (short_is keep first session old.bytes short)) leaves

pub begin_leaves_sets : {S : Type 0} (keep : Keep S) (first : S) (session : List ℕ) (size : ℕ) (a b : DiskSeen)
    → size ≤ 13 → IfTold a (λ d. length d.bytes ≡ size)
    → Between (λ old new. IsSynced old → length old.bytes ≤ 13 → LeavesOnly (λ c. length c ≤ 13) old new) a b
    → Between (λ old new. IsSynced old → LeavesOnly (ReadsAlike keep first session old.bytes) old new) a b
begin_leaves_sets keep first session size Untold Untold short is leaves = tt
begin_leaves_sets keep first session size Untold (Tells b) short is leaves = leaves
begin_leaves_sets keep first session size (Tells a) Untold short is leaves = leaves
begin_leaves_sets keep first session size (Tells a) (Tells b) short is leaves = λ synced.
    begun_leaves keep first session a b (omega (arith, is, short)) (leaves synced (omega (arith, is, short)))

pub begin_opens : {S : Type 0} (keep : Keep S) (first : S) (session : List ℕ) (size : ℕ) (a b : DiskSeen)
    → length session ≡ 8 → size ≤ 13 → IfTold a (λ d. length d.bytes ≡ size)
    → Between (λ old new. length old.bytes ≤ 13 → IsAtRest session [] 12 new) a b
    → Between (λ old new. IsSynced old → IsOpen keep first session 12 first new) a b
begin_opens keep first session size Untold Untold eight short is begun = tt
begin_opens keep first session size Untold (Tells b) eight short is begun = begun
begin_opens keep first session size (Tells a) Untold eight short is begun = begun
begin_opens keep first session size (Tells a) (Tells b) eight short is begun = λ synced.
    record { eight = eight; frames = []; keeps = refl; rest = begun (omega (arith, is, short)) }

-- the sync at the beginning
synced_leaves : {S : Type 0} (keep : Keep S) (first : S) (session : List ℕ) (old mid : Told) → Reads old mid
    → LeavesSets keep first session old mid
synced_leaves keep first session old mid reads = only_weaker _ _ old mid (λ c here. (c, here, refl)) reads.only

opened_leaves : {S : Type 0} (keep : Keep S) (first : S) (session : List ℕ) (old mid new : Told) → image old old.bytes
    → Reads old mid → LeavesOnly (ReadsAlike keep first session mid.bytes) mid new
    → LeavesSets keep first session old new
opened_leaves keep first session old mid new sound reads leaves =
    only_then _ old mid new (synced_leaves keep first session old mid reads)
    (only_weaker _ _ mid new
    (λ c alike. (old.bytes, sound, alike ∙ ap (λ (t : List ℕ). reading_of keep first session t) reads.bytes))
    leaves)

pub settled_leaves : {S : Type 0} (keep : Keep S) (first : S) (session : List ℕ) (a b : DiskSeen) → Between Reads a b
    → Between (LeavesSets keep first session) a b
settled_leaves keep first session a b reads =
    between_weaker _ _ (λ old mid r. synced_leaves keep first session old mid r) a b reads

pub open_leaves : {S : Type 0} (keep : Keep S) (first : S) (session : List ℕ) (a b c : DiskSeen) → IfTold a IsSound
    → Between Reads a b → IfTold b IsSynced
    → Between (λ old new. IsSynced old → LeavesOnly (ReadsAlike keep first session old.bytes) old new) b c
    → Between (LeavesSets keep first session) a c
open_leaves keep first session Untold Untold Untold sound reads synced leaves = tt
open_leaves keep first session Untold Untold (Tells e) sound reads synced leaves = leaves
open_leaves keep first session Untold (Tells b) c sound reads synced leaves = absurd reads
open_leaves keep first session (Tells a) Untold c sound reads synced leaves = absurd reads
open_leaves keep first session (Tells a) (Tells b) Untold sound reads synced leaves = absurd leaves
open_leaves keep first session (Tells a) (Tells b) (Tells e) sound reads synced leaves =
    opened_leaves keep first session a b e sound.reads reads (leaves synced)

pub open_opens : {S : Type 0} (keep : Keep S) (first now : S) (session : List ℕ) (gate : ℕ) (a b c : DiskSeen)
    → Between Reads a b → IfTold b IsSynced
    → Between (λ old new. IsSynced old → IsOpen keep first session gate now new) b c
    → Between (λ old new. IsOpen keep first session gate now new) a c
open_opens keep first now session gate Untold Untold Untold reads synced opens = tt
open_opens keep first now session gate Untold Untold (Tells e) reads synced opens = opens
open_opens keep first now session gate Untold (Tells b) c reads synced opens = absurd reads
open_opens keep first now session gate (Tells a) Untold c reads synced opens = absurd reads
open_opens keep first now session gate (Tells a) (Tells b) Untold reads synced opens = absurd opens
open_opens keep first now session gate (Tells a) (Tells b) (Tells e) reads synced opens = opens synced

pub ok_opens : {S : Type 0} {T : Type 0} (keep : Keep S) (first now : S) (session : List ℕ) (a b c : DiskSeen)
    (r : Result ℕ T) → Between Reads a b → IfTold b IsSynced
    → IfOk r (λ gate. Between (λ old new. IsSynced old → IsOpen keep first session gate now new) b c)
    → IfOk r (λ gate. Between (λ old new. IsOpen keep first session gate now new) a c)
ok_opens keep first now session a b c (Ok gate) reads synced opens =
    open_opens keep first now session gate a b c reads synced opens
ok_opens keep first now session a b c (Err f) reads synced opens = tt

pub err_stays : {S T : Type 0} (keep : Keep S) (first : S) (session : List ℕ) (a b : DiskSeen)
    (r : Result T StartFault) → Between Reads a b
    → IfErr r (λ f. IfTold b (λ d. IsStartFault keep first session d.bytes f))
    → IfErr r (λ f. IfTold a (λ d. IsStartFault keep first session d.bytes f))
err_stays keep first session a b (Ok t) reads refused = tt
err_stays keep first session a b (Err f) reads refused =
    bytes_stood (λ (bytes : List ℕ). IsStartFault keep first session bytes f) a b reads refused

pub read_ok : {S : Type 0} (keep : Keep S) (first now : S) (session : List ℕ) (end : End) (a : DiskSeen)
    → length session ≡ 8 → IfTold a (λ d. HasHead session d.bytes)
    → IfTold a (λ d. AreRead keep end first now d.bytes) → IfTold a (IsReadAs keep first session now)
read_ok keep first now session end Untold eight head read = tt
read_ok keep first now session end (Tells d) eight head read =
    journal_is keep first session read.frames now d.bytes eight read.keeps
    (record {
      gate = end.value;
      rest = read.rest;
      is = text_is keep first now session d.bytes end head read;
      ends = read.ends;
    })

pub short_ok : {S : Type 0} (keep : Keep S) (first : S) (session : List ℕ) (size : ℕ) (a : DiskSeen) → size ≤ 13
    → IfTold a (λ d. length d.bytes ≡ size) → IfTold a (IsReadAs keep first session first)
short_ok keep first session size Untold short is = tt
short_ok keep first session size (Tells d) short is = short_is keep first session d.bytes (omega (arith, is, short))

pub on_stood : {S T E : Type 0} (keep : Keep S) (first now : S) (session : List ℕ) (a b : DiskSeen) (r : Result T E)
    → Between Reads a b → OnOk r (IfTold b (IsReadAs keep first session now))
    → OnOk r (IfTold a (IsReadAs keep first session now))
on_stood keep first now session a b (Ok t) reads read =
    bytes_stood (λ (bytes : List ℕ). reading_of keep first session bytes ≡ Ok now) a b reads read
on_stood keep first now session a b (Err f) reads read = tt

pub keeps_on : {T : Type 0} (a b c : DiskSeen) (r : Result T StartFault) → Between Reads a b → IfErr r (KeepsDisk b c)
    → IfErr r (KeepsDisk a c)
keeps_on a b c (Ok t) reads keeps = tt
keeps_on a b c (Err f) reads keeps = λ is. reads_on a b c reads (keeps is)
