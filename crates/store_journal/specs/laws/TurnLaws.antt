-- What a gate leads to, by what was read at it.
use Rattle.std.proofs.Common.{◌≡◌, ◌≢◌, ◌⊎◌, inl, inr, ℕ, zero, suc, ◌+◌, ◌-◌, ◌<◌, ◌≤◌, Bool, true, false, List, []}
use Rattle.std.proofs.Common.{◌∷◌, ◌++◌, length, take, drop, Option, None, Some, refl, sym, ap, subst, ◌∙◌}
use Rattle.std.proofs.Common.{append_assoc}
use Rattle.std.proofs.Common.{length-append, length-drop, arith}
use Rattle.std.specs.Prelude.{nat_lt, not, Result, Ok, Err, IfErr}
use Rattle.std.proofs.lemmas.Bool.Decides.{nat_tests}
use Rattle.pet_base.specs.Entries.{entry_text}
use Rattle.outside_disk.specs.Disk.{Told, DiskSeen, Untold, Tells, IfTold}
use Rattle.outside_disk.specs.laws.DiskLaws.{if_both}
use Rattle.store_journal.specs.Text.{Keep, Cost, Keeps, open_entry, entries_text, is_end, is_empty, whole_entry}
use Rattle.store_journal.specs.Text.{read_entry, go_on, read_gates}
use Rattle.store_journal.specs.inside.Entry.{IsEntry, IsEntryOf}
use Rattle.store_journal.specs.inside.Turns.{IsNotTaken, EndsAt, GoesTo, IsRefusedAt, SoFar, AreRead, IsRefused}
use Rattle.store_journal.specs.inside.Turns.{Advances}
use Rattle.store_journal.specs.Opening.{Reached, cost_then, costs_of}
use Rattle.store_journal.specs.laws.TextLaws.{entry_is, entry_whole, entries_push, few_entries, keeps_more}
use Rattle.store_journal.specs.declared.fault.StartFault.{StartFault}
use Rattle.store_journal.specs.declared.fault.StartFault.TheVariants.{BadJournal, OtherSession, DiskFault, NoMemory}
use Rattle.store_journal.specs.declared.reading.End.{End}
use Rattle.store_journal.specs.declared.reading.Turn.TheVariants.{Goes}

empty_is : (rest : List ℕ) → length rest ≡ 0 → rest ≡ []
empty_is [] e = refl
empty_is (b ∷ rest) e = absurd (omega arith)

some_is : (rest : List ℕ) → 0 < length rest → is_empty rest ≡ false
some_is [] some = absurd (omega arith)
some_is (b ∷ rest) some = refl

ends_by : (more : Bool) (value : ℕ) (rest : List ℕ) → more ≡ not (is_empty rest) → (more ≡ false) ⊎ (value ≢ 1)
    → is_end value rest ≡ true
ends_by more value [] behind why = refl
ends_by more value (b ∷ rest) behind (inl none) = absurd (cc)
ends_by more value (b ∷ rest) behind (inr other) = grind (arith, nat_tests)

behind_is : (at size : ℕ) (text : List ℕ) → length text ≡ size → nat_lt at size ≡ not (is_empty (drop at text))
behind_is at size text is = by_cases (drop at text) refl
  where
    by_cases : (rest : List ℕ) → drop at text ≡ rest → nat_lt at size ≡ not (is_empty rest)
    by_cases [] e = let few : length (drop at text) ≡ 0 = ap length e in let no : nat_lt at size ≡ false =
        grind (arith, nat_tests, length-drop at text, few) in no
    by_cases (b ∷ rest) e = let some : length (drop at text) ≡ suc (length rest) = ap length e in
        let is_so : nat_lt at size ≡ true = grind (arith, nat_tests, length-drop at text, some) in is_so

pub ends_why : (gate size value : ℕ) → (size ≤ gate + 1) ⊎ ((gate + 1 < size) × (value ≡ 1 → ⊥))
    → (nat_lt (gate + 1) size ≡ false) ⊎ (value ≢ 1)
ends_why gate size value (inl last) = inl (grind (arith, nat_tests))
ends_why gate size value (inr other) = inr other.1

pub turn_ends : {S : Type 0} (set : S) (gate value size : ℕ) (more : Bool) (a : DiskSeen)
    → more ≡ nat_lt (gate + 1) size → (more ≡ false) ⊎ (value ≢ 1)
    → IfTold a (λ d. length d.bytes ≡ size) → IfTold a (λ d. drop gate d.bytes ≡ value ∷ drop (gate + 1) d.bytes)
    → (let end : End = record { gate = gate; value = value; more = more } in
    IfTold a (λ d. EndsAt gate end set set d.bytes))
turn_ends set gate value size more Untold test why is byte = tt
turn_ends set gate value size more (Tells d) test why is byte =
    let behind : more ≡ not (is_empty (drop (gate + 1) d.bytes)) = test ∙ behind_is (gate + 1) size d.bytes is in
    record {
      rest = drop (gate + 1) d.bytes;
      is = byte;
      ends = ends_by more value (drop (gate + 1) d.bytes) behind why;
      behind = behind;
      place = refl;
      same = refl;
    }

-- an open gate with bytes behind it does not end the journal
goes_in : (rest : List ℕ) → 0 < length rest → is_end 1 rest ≡ false
goes_in [] some = absurd (omega arith)
goes_in (b ∷ rest) some = refl

no_entry_refused : {S : Type 0} (keep : Keep S) (n gate : ℕ) (set : S) (rest : List ℕ) → 0 < length rest
    → whole_entry rest ≡ None → read_gates keep (suc n) gate set (1 ∷ rest) ≡ Err gate
unfolding read_gates
no_entry_refused keep n gate set rest some none = rw (goes_in rest some, none) refl

not_kept_refused : {S : Type 0} (keep : Keep S) (n gate : ℕ) (set : S) (frame tail : List ℕ) → length frame < 65536
    → 0 < length tail → keep set frame ≡ None
    → read_gates keep (suc n) gate set (1 ∷ (entry_text frame ++ tail)) ≡ Err gate
unfolding read_gates
not_kept_refused {S = S} keep n gate set frame tail short some none =
    ap (λ (e : Option (List ℕ × List ℕ)). read_entry keep gate set e (read_gates keep n))
    (entry_whole frame tail short some)
    ∙ ap (λ (o : Option S). go_on gate frame tail o (read_gates keep n)) none

pub turn_no_entry : {S : Type 0} (keep : Keep S) (set : S) (gate value size : ℕ) (buffer : List ℕ) (a : DiskSeen)
    → gate + 1 < size → value ≡ 1
    → IfTold a (λ d. length d.bytes ≡ size) → IfTold a (λ d. drop gate d.bytes ≡ value ∷ drop (gate + 1) d.bytes)
    → IfTold a (λ d. IsEntry None buffer gate d.bytes)
    → IfTold a (λ d. IsRefusedAt keep gate set d.bytes (BadJournal gate))
turn_no_entry keep set gate value size buffer Untold within open_gate is byte none = tt
turn_no_entry {S = S} keep set gate value size buffer (Tells d) within open_gate is byte none = (
  refl,
  λ n. ap (λ (l : List ℕ). read_gates keep (suc n) gate set l) (byte
      ∙ ap (λ (v : ℕ). v ∷ drop (gate + 1) d.bytes) open_gate)
      ∙ no_entry_refused keep n gate set (drop (gate + 1) d.bytes) (omega (arith, is, length-drop (gate + 1) d.bytes))
      none,
)

-- the frame is not kept, told or not
not_kept : {S : Type 0} (keep : Keep S) (set : S) (gate value m : ℕ) (buffer : List ℕ) (d : Told) (fault : StartFault)
    → m < 65536 → value ≡ 1
    → drop gate d.bytes ≡ value ∷ drop (gate + 1) d.bytes → IsEntryOf m buffer gate d.bytes
    → IsNotTaken keep gate set (take m buffer) fault → IsRefusedAt keep gate set d.bytes fault
not_kept {S = S} keep set gate value m buffer d (BadJournal at) small open_gate byte entry not_taken = (
  not_taken.0,
  λ n. ap (λ (l : List ℕ). read_gates keep (suc n) gate set l) (byte
      ∙ ap (λ (v : ℕ). v ∷ drop (gate + 1) d.bytes) open_gate ∙ ap (λ (l : List ℕ). 1 ∷ l) entry.is)
      ∙ not_kept_refused keep n gate set (take m buffer) (drop (gate + 3 + m) d.bytes) (omega (arith, entry.long))
      (omega (arith, entry.within, length-drop (gate + 3 + m) d.bytes)) not_taken.1,
)
not_kept keep set gate value m buffer d (OtherSession session) small open_gate byte entry not_taken = not_taken
not_kept keep set gate value m buffer d DiskFault small open_gate byte entry not_taken = tt
not_kept keep set gate value m buffer d NoMemory small open_gate byte entry not_taken = tt

pub turn_not_kept : {S T : Type 0} (keep : Keep S) (set : S) (gate value m : ℕ) (buffer : List ℕ) (a : DiskSeen)
    (r : Result T StartFault) → m < 65536 → value ≡ 1
    → IfTold a (λ d. drop gate d.bytes ≡ value ∷ drop (gate + 1) d.bytes)
    → IfTold a (λ d. IsEntryOf m buffer gate d.bytes) → IfErr r (IsNotTaken keep gate set (take m buffer))
    → IfErr r (λ f. IfTold a (λ d. IsRefusedAt keep gate set d.bytes f))
turn_not_kept keep set gate value m buffer a (Ok t) small open_gate byte entry not_taken = tt
turn_not_kept keep set gate value m buffer Untold (Err f) small open_gate byte entry not_taken = tt
turn_not_kept keep set gate value m buffer (Tells d) (Err f) small open_gate byte entry not_taken =
    not_kept keep set gate value m buffer d f small open_gate byte entry not_taken

-- entries are read, and then what is behind them
pub entries_then : {S : Type 0} (keep : Keep S) (frames : List (List ℕ)) (n m at : ℕ) (set last : S) (tail : List ℕ)
    → Keeps keep set frames last → 0 < length tail → n ≡ length frames + m
    → read_gates keep n at set (entries_text frames ++ tail) ≡ read_gates keep m
    (at + length (entries_text frames)) last tail
entries_then {S = S} keep [] n m at set last tail keeps some is =
    ap (λ (k : ℕ). read_gates keep k at set tail) (omega arith)
    ∙ ap (λ (k : ℕ). read_gates keep m k set tail) (omega arith)
    ∙ ap (λ (s : S). read_gates keep m (at + 0) s tail) keeps
entries_then keep (frame ∷ frames) zero m at set last tail keeps some is = absurd (omega arith)
entries_then keep (frame ∷ frames) (suc n) m at set last tail keeps some is =
    ap (λ (text : List ℕ). read_gates keep (suc n) at set text)
    (append_assoc (open_entry frame) (entries_text frames) tail)
    ∙ entry_is keep n at set keeps.0 frame (entries_text frames ++ tail) keeps.1
    (omega (arith, length-append (entries_text frames) tail)) keeps.2
    ∙ entries_then keep frames n m (at + 3 + length frame) keeps.0 last tail keeps.3 some (omega arith)
    ∙ ap (λ (k : ℕ). read_gates keep m k last tail)
    (omega (arith, length-append (entry_text frame) (entries_text frames)))

-- gate after gate
so_far_first : {S : Type 0} (keep : Keep S) (first : S) (text : List ℕ) → SoFar keep 12 first first text
so_far_first keep first text = record { frames = []; keeps = refl; is = refl; place = omega arith }

so_far_more : {S : Type 0} (keep : Keep S) (gate next : ℕ) (first mid new : S) (text : List ℕ)
    → SoFar keep gate first mid text → GoesTo keep gate next mid new text → SoFar keep next first new text
so_far_more keep gate next first mid new text so_far goes = record {
  frames = so_far.frames ++ goes.frame ∷ [];
  keeps = keeps_more keep so_far.frames first mid new goes.frame so_far.keeps goes.short goes.kept;
  is = so_far.is ∙ ap (λ (l : List ℕ). entries_text so_far.frames ++ l) goes.is
      ∙ sym (append_assoc (entries_text so_far.frames) (open_entry goes.frame) (drop next text))
      ∙ ap (λ (l : List ℕ). l ++ drop next text) (sym (entries_push so_far.frames goes.frame));
  place =
      omega (
        arith,
        so_far.place,
        goes.place,
        ap length (entries_push so_far.frames goes.frame),
        length-append
            (entries_text so_far.frames) (open_entry goes.frame),
      );
}

all_read : {S : Type 0} (keep : Keep S) (gate : ℕ) (end : End) (first mid new : S) (text : List ℕ)
    → SoFar keep gate first mid text → EndsAt gate end mid new text → AreRead keep end first new text
all_read {S = S} keep gate end first mid new text so_far ends = record {
  frames = so_far.frames;
  rest = ends.rest;
  keeps = subst (λ (s : S). Keeps keep first so_far.frames s) (sym ends.same) so_far.keeps;
  is = so_far.is ∙ ap (λ (l : List ℕ). entries_text so_far.frames ++ l) ends.is;
  ends = ends.ends;
  behind = ends.behind;
  place = ends.place ∙ so_far.place;
}

first_refused : {S : Type 0} (keep : Keep S) (gate size : ℕ) (first mid : S) (text : List ℕ) (fault : StartFault)
    → gate < size → length text ≡ size → SoFar keep gate first mid text → IsRefusedAt keep gate mid text fault
    → IsRefused keep first text fault
first_refused {S = S} keep gate size first mid text (BadJournal at) within is so_far refused =
    let m = length text - length so_far.frames - 1 in
    let count : length text ≡ length so_far.frames + suc m =
    omega (arith, is, so_far.place, few_entries so_far.frames) in
    ap (λ (l : List ℕ). read_gates keep (length text) 12 first l) so_far.is
    ∙ entries_then keep so_far.frames (length text) (suc m) 12 first mid (drop gate text) so_far.keeps
    (omega (arith, is, length-drop gate text)) count
    ∙ ap (λ (k : ℕ). read_gates keep (suc m) k mid (drop gate text)) (sym so_far.place)
    ∙ refused.1 m ∙ ap (λ (k : ℕ). Err k) (sym refused.0)
first_refused keep gate size first mid text (OtherSession session) within is so_far refused = refused
first_refused keep gate size first mid text DiskFault within is so_far refused = tt
first_refused keep gate size first mid text NoMemory within is so_far refused = tt

-- the same, told or not
pub at_first : {S : Type 0} (keep : Keep S) (first : S) (a : DiskSeen)
    → IfTold a (λ d. SoFar keep 12 first first d.bytes)
at_first keep first Untold = tt
at_first keep first (Tells d) = so_far_first keep first d.bytes

pub one_more : {S : Type 0} (keep : Keep S) (gate next : ℕ) (first mid new : S) (a : DiskSeen)
    → IfTold a (λ d. SoFar keep gate first mid d.bytes) → IfTold a (λ d. GoesTo keep gate next mid new d.bytes)
    → IfTold a (λ d. SoFar keep next first new d.bytes)
one_more keep gate next first mid new a = if_both _ _ _ (λ d. so_far_more keep gate next first mid new d.bytes) a

pub at_end : {S : Type 0} (keep : Keep S) (gate : ℕ) (end : End) (first mid new : S) (a : DiskSeen)
    → IfTold a (λ d. SoFar keep gate first mid d.bytes) → IfTold a (λ d. EndsAt gate end mid new d.bytes)
    → IfTold a (λ d. AreRead keep end first new d.bytes)
at_end keep gate end first mid new a = if_both _ _ _ (λ d. all_read keep gate end first mid new d.bytes) a

pub at_refused_one : {S : Type 0} (keep : Keep S) (gate size : ℕ) (first mid : S) (a : DiskSeen) (f : StartFault)
    → gate < size → IfTold a (λ d. length d.bytes ≡ size) → IfTold a (λ d. SoFar keep gate first mid d.bytes)
    → IfTold a (λ d. IsRefusedAt keep gate mid d.bytes f) → IfTold a (λ d. IsRefused keep first d.bytes f)
at_refused_one keep gate size first mid Untold f within is so_far refused = tt
at_refused_one keep gate size first mid (Tells d) f within is so_far refused =
    first_refused keep gate size first mid d.bytes f within is so_far refused

-- what one frame more may cost
nothing_then : {S : Type 0} (next : Option S) → cost_then next (λ set. 0) ≡ 0
nothing_then None = refl
nothing_then (Some set) = refl

costs_push : {S : Type 0} (keep : Keep S) (cost : Cost S) (frames : List (List ℕ)) (first last : S) (frame : List ℕ)
    → Keeps keep first frames last
    → costs_of keep cost first (frames ++ frame ∷ []) ≡ costs_of keep cost first frames + cost last frame
costs_push {S = S} keep cost [] first last frame keeps =
    ap (λ (n : ℕ). cost first frame + n) (nothing_then (keep first frame))
    ∙ ap (λ (s : S). cost s frame + 0) keeps
    ∙ omega arith
costs_push {S = S} keep cost (f ∷ frames) first last frame keeps =
    let on = λ (fs : List (List ℕ)) (next : Option S). cost_then next (λ set. costs_of keep cost set fs) in
    let more : on (frames ++ frame ∷ []) (keep first f) ≡ on frames (keep first f) + cost last frame =
    ap (on (frames ++ frame ∷ [])) keeps.2 ∙ costs_push keep cost frames keeps.0 last frame keeps.3
    ∙ ap (λ (n : ℕ). n + cost last frame) (ap (on frames) (sym keeps.2)) in
    omega (arith, more)

-- the gate behind frames that are kept
pub reached_more : {S : Type 0} (keep : Keep S) (cost : Cost S) (first : S) (gate next : ℕ) (mid new : S)
    (before between after : ℕ) → Reached keep cost first gate mid before between
    → Advances keep cost gate (Goes next) mid new between after → Reached keep cost first next new before after
reached_more keep cost first gate next mid new before between after so_far step = record {
  frames = so_far.frames ++ step.0 ∷ [];
  keeps = keeps_more keep so_far.frames first mid new step.0 so_far.keeps step.1 step.2;
  place =
      omega (
        arith,
        so_far.place,
        step.3,
        ap length (entries_push so_far.frames step.0),
        length-append
            (entries_text so_far.frames) (open_entry step.0),
      );
  spent = omega (arith, so_far.spent, step.4, costs_push keep cost so_far.frames first mid step.0 so_far.keeps);
}
