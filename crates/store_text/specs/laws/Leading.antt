-- Frames that may be read one after the other: their entries are read as the set that they lead to, and what is read
-- are
-- the entries of such frames.
use Rattle.std.proofs.Common.{◌≡◌, ℕ, ◌+◌, ◌<◌, zero, suc, true, List, [], ◌∷◌, ◌++◌, length, drop, All, Option, None}
use Rattle.std.proofs.Common.{Some, Result, Ok, Err, refl, sym, ap, ◌∙◌, inl, inr}
use Rattle.std.specs.Prelude.{if◌then◌else◌, is_some}
use Rattle.std.specs.Int.{w16}
use Rattle.std.proofs.lemmas.Bool.{cases_Bool}
use Rattle.std.proofs.lemmas.List.Elements.{All-take, All-drop}
use Rattle.packet_frame.specs.Frame.{Fields, IsFrameIn, text_in}
use Rattle.packet_frame.specs.Refusals.{number, fields_in, first_fault_in}
use Rattle.packet_frame.specs.declared.fault.FrameFault.{FrameFault}
use Rattle.packet_frame.specs.laws.Laws.{texts_are_read_in, reads_frames_in, reads_texts_in}
use Rattle.pet_base.specs.Entries.{entry_text}
use Rattle.packet_verdicts.specs.KeptSet.{KeptSet, keep}
use Rattle.store_text.specs.declared.format.StoreForm.{StoreForm}
use Rattle.store_text.specs.declared.fault.StoreKind.{StoreKind}
use Rattle.store_text.specs.declared.fault.StoreKind.TheVariants.{Frame, Cut}
use Rattle.store_text.specs.declared.fault.BadStore.{BadStore}
use Rattle.store_text.specs.declared.fault.BadStore.TheVariants.{At}
use Rattle.store_text.specs.Form.{IsStoreForm}
use Rattle.store_text.specs.Store.{entries_in}
use Rattle.store_text.specs.Refusals.{Last, frame_fault_in, entry_fault_in, entry_length, datagram_in, is_whole}
use Rattle.store_text.specs.Refusals.{then_next, read_entries_in}
use Rattle.store_text.specs.laws.FormLaws.{text_short}
use Rattle.store_text.specs.laws.EntryReading.{entry_datagram, entry_rest, entry_whole, read_whole, read_cut, whole_is}

-- the pair of a frame
abbrev pub pair_of : Fields → ℕ × ℕ
pair_of f = (f.group, f.number)

-- Each of the frames may come next, and with them the one set becomes the other.
abbrev pub Leads : StoreForm → KeptSet → Last → List Fields → KeptSet → Type 0
Leads t set last [] target = set ≡ target
Leads t set last (f ∷ rest) target =
    IsFrameIn t.frames f × (frame_fault_in t set last f ≡ None) × Leads t (keep set f) (Some (pair_of f)) rest target

-- ---- their entries are read so

accepted : (o : Option FrameFault) (kind : StoreKind) (rest : Option StoreKind) → o ≡ None
    → (if is_some o then Some kind else rest) ≡ rest
accepted o kind rest none = ap (λ (p : Option FrameFault). if is_some p then Some kind else rest) none

value_of : Result KeptSet BadStore → KeptSet → KeptSet
value_of (Ok set) d = set
value_of (Err fault) d = d

pub same_Ok : (a b : KeptSet) → ◌≡◌ {A = Result KeptSet BadStore} (Ok a) (Ok b) → a ≡ b
unfolding value_of
same_Ok a b e = ap (λ r. value_of r a) e

pub goes_on : (at : ℕ) (o : Option StoreKind) (next : Result KeptSet BadStore) (target : KeptSet)
    → then_next at o next ≡ Ok target → (o ≡ None) × (next ≡ Ok target)
goes_on at None next target e = (refl, e)
goes_on at (Some kind) next target e = absurd (cc)

pub passes_both : (o : Option FrameFault) (kind : StoreKind) (rest : Option StoreKind)
    → (if is_some o then Some kind else rest) ≡ None → (o ≡ None) × (rest ≡ None)
passes_both None kind rest e = (refl, e)
passes_both (Some fault) kind rest e = absurd (cc)

module _ (t : StoreForm) (form : IsStoreForm t) where
  next_is : (many at : ℕ) (set : KeptSet) (last : Last) (f : Fields) (more : List ℕ) → IsFrameIn t.frames f
      → frame_fault_in t set last f ≡ None → (length : ℕ) (d rest : List ℕ) → d ≡ text_in t.frames f → rest ≡ more
      → then_next at (entry_fault_in t set last d)
      (read_entries_in t many (at + length) (keep set (fields_in t.frames d))
      (Some (pair_of (fields_in t.frames d))) rest)
      ≡ read_entries_in t many (at + length) (keep set f) (Some (pair_of f)) more
  next_is many at set last f more frame none length d rest same behind =
      let read = texts_are_read_in t.frames form.frames f frame in
      let is : fields_in t.frames d ≡ f = ap (fields_in t.frames) same ∙ read.fields in
      let fault : entry_fault_in t set last d ≡ None =
      accepted (first_fault_in t.frames d) Frame (frame_fault_in t set last (fields_in t.frames d))
      (ap (first_fault_in t.frames) same ∙ read.accepted) ∙ ap (frame_fault_in t set last) is ∙ none in
      ap (λ o. then_next at o (read_entries_in t many (at + length) (keep set (fields_in t.frames d))
      (Some (pair_of (fields_in t.frames d))) rest)) fault
      ∙ ap (λ (g : Fields). read_entries_in t many (at + length) (keep set g) (Some (pair_of g)) rest) is
      ∙ ap (read_entries_in t many (at + length) (keep set f) (Some (pair_of f))) behind

  one_read : (many at : ℕ) (set : KeptSet) (last : Last) (f : Fields) (more : List ℕ) → IsFrameIn t.frames f
      → frame_fault_in t set last f ≡ None
      → read_entries_in t (suc many) at set last (entry_text (text_in t.frames f) ++ more)
      ≡ read_entries_in t many (at + entry_length (entry_text (text_in t.frames f) ++ more)) (keep set f)
      (Some (pair_of f)) more
  one_read many at set last f more frame none =
      let d = text_in t.frames f in
      let short = text_short t form f frame in
      let bytes = entry_text d ++ more in
      read_whole t many at set last bytes (entry_whole d more short)
      ∙ next_is many at set last f more frame none (entry_length bytes) (datagram_in bytes)
      (drop (entry_length bytes) bytes) (entry_datagram d more short) (entry_rest d more short)

  pub leads_read : (frames : List Fields) (at : ℕ) (set : KeptSet) (last : Last) (target : KeptSet)
      → Leads t set last frames target → read_entries_in t (length frames) at set last (entries_in t frames) ≡ Ok target
  unfolding read_entries_in
  leads_read [] at set last target same = ap Ok same
  leads_read (f ∷ rest) at set last target leads =
      one_read (length rest) at set last f (entries_in t rest) leads.0 leads.1
      ∙ leads_read rest (at + entry_length (entry_text (text_in t.frames f) ++ entries_in t rest)) (keep set f)
      (Some (pair_of f)) target leads.2

  -- ---- what is read so are their entries

  whole_first : (many at : ℕ) (set : KeptSet) (last : Last) (bytes : List ℕ) (target : KeptSet)
      → read_entries_in t (suc many) at set last bytes ≡ Ok target → is_whole bytes ≡ true
  whole_first many at set last bytes target e =
      elim (cases_Bool (is_whole bytes)) [
        | inl whole ↦ whole
        | inr cut ↦ let no : Err (At at Cut) ≡ Ok target =
            sym (read_cut t many at set last bytes cut) ∙ e in absurd (cc)
      ]

  -- the frames that stand in bytes which are read as a set
  pub record StandThere (many : ℕ) (set : KeptSet) (last : Last) (bytes : List ℕ) (target : KeptSet) : Type 0 where
    pub frames : List Fields
    pub number : length frames ≡ many
    pub spelled : All (λ byte. byte < 256) bytes → bytes ≡ entries_in t frames
    pub leads : Leads t set last frames target

  pub read_leads : (many at : ℕ) (set : KeptSet) (last : Last) (bytes : List ℕ) (target : KeptSet)
      → read_entries_in t many at set last bytes ≡ Ok target → StandThere many set last bytes target
  unfolding read_entries_in
  read_leads zero at set last [] target e =
      record { frames = []; number = refl; spelled = λ fits. refl; leads = same_Ok set target e }
  read_leads zero at set last (byte ∷ rest) target e = absurd (cc)
  read_leads (suc many) at set last bytes target e =
      let whole = whole_first many at set last bytes target e in
      let d = datagram_in bytes in
      let f = fields_in t.frames d in
      let on = goes_on at (entry_fault_in t set last d)
      (read_entries_in t many (at + entry_length bytes) (keep set f) (Some (pair_of f))
      (drop (entry_length bytes) bytes)) target (sym (read_whole t many at set last bytes whole) ∙ e) in
      let both = passes_both (first_fault_in t.frames d) Frame (frame_fault_in t set last f) on.0 in
      let later = read_leads many (at + entry_length bytes) (keep set f) (Some (pair_of f))
      (drop (entry_length bytes) bytes) target on.1 in
      record {
        frames = f ∷ later.frames;
        number = ap suc later.number;
        spelled =
            λ fits.
            let small : All (λ byte. byte < 256) d =
            All-take (λ byte. byte < 256) (number w16 0 bytes) (drop 2 bytes)
            (All-drop (λ byte. byte < 256) 2 bytes fits) in
            whole_is bytes fits whole
            ∙ ap (λ b. entry_text b ++ drop (entry_length bytes) bytes)
            (reads_texts_in t.frames form.frames d small both.0)
            ∙ ap (λ b. entry_text (text_in t.frames f) ++ b)
            (later.spelled (All-drop (λ byte. byte < 256) (entry_length bytes) bytes fits));
        leads = (reads_frames_in t.frames form.frames d both.0, both.1, later.leads);
      }
