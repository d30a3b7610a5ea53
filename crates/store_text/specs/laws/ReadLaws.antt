-- Laws of what is read of a store, for callers: it is a kept set, and the bytes are its text.
use Rattle.std.proofs.Common.{◌≡◌, ℕ, ◌+◌, ◌<◌, ◌≤◌, Bool, true, false, not, ltb, List, ◌++◌, length, take, drop, All}
use Rattle.std.proofs.Common.{None, Result, Ok, Err, refl, sym, ap, ◌∙◌, arith}
use Rattle.std.specs.Prelude.{if◌then◌else◌}
use Rattle.std.specs.Int.{w32, to_be_bytes}
use Rattle.std.specs.Str.{bytes_eq}
use Rattle.std.proofs.Math.Seq.{take-add}
use Rattle.std.proofs.lemmas.Bool.{ltb-false}
use Rattle.std.proofs.lemmas.Slice.Eq.{bytes_eq-Decides}
use Rattle.std.proofs.lemmas.List.{length-take, length-drop, take-append-drop, take-take}
use Rattle.std.proofs.lemmas.List.Elements.{All-take, All-drop}
use Rattle.std.proofs.lemmas.Nat.{be_bytes_4}
use Rattle.packet_frame.specs.Frame.{Fields}
use Rattle.packet_verdicts.specs.KeptSet.{KeptSet, IsKeptSet, empty_set}
use Rattle.store_text.specs.declared.format.StoreForm.{StoreForm}
use Rattle.store_text.specs.declared.format.TheConstants.{STORE_FORM, HEAD_LENGTH}
use Rattle.store_text.specs.declared.fault.StoreKind.TheVariants.{Cut, Magic, Tag}
use Rattle.store_text.specs.declared.fault.BadStore.{BadStore}
use Rattle.store_text.specs.declared.fault.BadStore.TheVariants.{At}
use Rattle.store_text.specs.Form.{IsStoreForm, store_tag}
use Rattle.store_text.specs.Store.{store_text, store_of_in, head_in, entries_in, text_before_tag_in}
use Rattle.store_text.specs.Refusals.{tag_place, ends_in_store_tag, then_tag_in, session_of, many_of, entries_of}
use Rattle.store_text.specs.Refusals.{read_entries_in, read_text_in, read_text}
use Rattle.store_text.specs.laws.FormLaws.{store_form_is}
use Rattle.store_text.specs.laws.EntryReading.{at_each}
use Rattle.store_text.specs.laws.Leading.{Leads, StandThere, read_leads}
use Rattle.store_text.specs.laws.LedKeptSets.{HasGrownBy, leads_make}

chain : (a b : Bool) (x y : BadStore) (rest : Result KeptSet BadStore) (set : KeptSet)
    → (if a then Err x else if not b then Err y else rest) ≡ Ok set → (a ≡ false) × (b ≡ true) × (rest ≡ Ok set)
chain true b x y rest set e = absurd (cc)
chain false false x y rest set e = absurd (cc)
chain false true x y rest set e = (refl, refl, e)

tag_by : (b : Bool) (x : BadStore) (read set : KeptSet) → (if b then Ok read else Err x) ≡ Ok set
    → (b ≡ true) × (◌≡◌ {A = Result KeptSet BadStore} (Ok read) (Ok set))
tag_by true x read set e = (refl, e)
tag_by false x read set e = absurd (cc)

-- the bytes up to a place, and then so many
grow : (i n : ℕ) (bytes front more : List ℕ) → take i bytes ≡ front → take n (drop i bytes) ≡ more
    → take (i + n) bytes ≡ front ++ more
grow i n bytes front more first next =
    take-add i n bytes ∙ ap (λ t. t ++ take n (drop i bytes)) first ∙ ap (λ t. front ++ t) next

module _ (t : StoreForm) (form : IsStoreForm t) where
  tagged : (bytes : List ℕ) (result : Result KeptSet BadStore) (set : KeptSet) → then_tag_in t bytes result ≡ Ok set
      → (result ≡ Ok set) × (ends_in_store_tag t bytes ≡ true)
  tagged bytes (Err fault) set e = absurd (cc)
  tagged bytes (Ok read) set e =
      let p = tag_by (ends_in_store_tag t bytes) (At (tag_place t bytes) Tag) read set e in (p.1, p.0)

  -- what the bytes before the entries and behind them tell, where nothing is refused
  pub record ReadsOn (limit : ℕ) (bytes : List ℕ) (set : KeptSet) : Type 0 where
    pub long : HEAD_LENGTH + t.tag ≤ length bytes
    pub mark : take 4 bytes ≡ t.mark
    pub entries : read_entries_in t (many_of bytes) HEAD_LENGTH (empty_set (session_of bytes) limit) None
        (entries_of t bytes) ≡ Ok set
    pub tag : drop (tag_place t bytes) bytes ≡ store_tag t (take (tag_place t bytes) bytes)

  pub reads_on : (limit : ℕ) (bytes : List ℕ) (set : KeptSet) → read_text_in t limit bytes ≡ Ok set
      → ReadsOn limit bytes set
  unfolding read_text_in
  reads_on limit bytes set e =
      let entries = read_entries_in t (many_of bytes) HEAD_LENGTH (empty_set (session_of bytes) limit) None
      (entries_of t bytes) in
      let p = chain (ltb (length bytes) (HEAD_LENGTH + t.tag)) (bytes_eq (take 4 bytes) t.mark) (At (length bytes) Cut)
      (At 0 Magic) (then_tag_in t bytes entries) set e in
      let g = tagged bytes entries set p.2 in
      record {
        long = ltb-false (length bytes) (HEAD_LENGTH + t.tag) p.0;
        mark = (bytes_eq-Decides (take 4 bytes) t.mark).0 p.1;
        entries = g.0;
        tag = (bytes_eq-Decides (drop (tag_place t bytes) bytes) (store_tag t (take (tag_place t bytes) bytes))).0 g.1;
      }

  -- What is read of bytes are frames that lead from nothing to the set, and the bytes are the store of these frames.
  pub record IsReadFrom (limit : ℕ) (bytes : List ℕ) (set : KeptSet) : Type 0 where
    pub frames : List Fields
    pub leads : Leads t (empty_set (session_of bytes) limit) None frames set
    pub session : length (session_of bytes) ≡ 8
    pub many : length frames ≡ many_of bytes
    pub entries : All (λ byte. byte < 256) bytes → entries_of t bytes ≡ entries_in t frames
    pub text : All (λ byte. byte < 256) bytes → bytes ≡ store_of_in t (session_of bytes) frames

  module _ (limit : ℕ) (bytes : List ℕ) (set : KeptSet) (read : read_text_in t limit bytes ≡ Ok set) where
    on : ReadsOn limit bytes set
    on = reads_on limit bytes set read

    there : StandThere t form (many_of bytes) (empty_set (session_of bytes) limit) None (entries_of t bytes) set
    there =
        read_leads t form (many_of bytes) HEAD_LENGTH (empty_set (session_of bytes) limit) None
        (entries_of t bytes) set on.entries

    eight : length (session_of bytes) ≡ 8
    eight = omega (arith, length-take 8 (drop 4 bytes), length-drop 4 bytes, on.long)

    module _ (fits : All (λ byte. byte < 256) bytes) where
      many : to_be_bytes w32 (length there.frames) ≡ take 4 (drop 12 bytes)
      many =
          let four = take 4 (drop 12 bytes) in
          ap (to_be_bytes w32) there.number
          ∙ be_bytes_4 four (many_of bytes) (omega
          (arith, length-take 4 (drop 12 bytes), length-drop 12 bytes, on.long))
          (at_each four
          (All-take (λ byte. byte < 256) 4 (drop 12 bytes) (All-drop (λ byte. byte < 256) 12 bytes fits))) refl

      head_is : take HEAD_LENGTH bytes ≡ head_in t (session_of bytes) (length there.frames)
      head_is =
          grow 12 4 bytes (t.mark ++ session_of bytes) (to_be_bytes w32 (length there.frames))
          (grow 4 8 bytes t.mark (session_of bytes) on.mark refl) (sym many)

      spelled : entries_of t bytes ≡ entries_in t there.frames
      spelled =
          there.spelled (All-drop (λ byte. byte < 256) HEAD_LENGTH (take (tag_place t bytes) bytes)
          (All-take (λ byte. byte < 256) (tag_place t bytes) bytes fits))

      before : take (tag_place t bytes) bytes ≡ text_before_tag_in t (session_of bytes) there.frames
      before =
          sym (take-append-drop HEAD_LENGTH (take (tag_place t bytes) bytes))
          ∙ ap (λ b. b ++ entries_of t bytes)
          (take-take HEAD_LENGTH (tag_place t bytes) bytes (omega (arith, on.long)) ∙ head_is)
          ∙ ap (λ b. head_in t (session_of bytes) (length there.frames) ++ b) spelled

      is_text : bytes ≡ store_of_in t (session_of bytes) there.frames
      unfolding store_of_in
      is_text =
          sym (take-append-drop (tag_place t bytes) bytes) ∙ ap (λ b. take (tag_place t bytes) bytes ++ b) on.tag
          ∙ ap (λ b. b ++ store_tag t b) before

    pub read_from : IsReadFrom limit bytes set
    read_from =
        record {
          frames = there.frames;
          leads = there.leads;
          session = eight;
          many = there.number;
          entries = spelled;
          text = is_text;
        }

-- ---- the stores that are written today

-- what is read of bytes
pub record ReadsStore (most : ℕ) (bytes : List ℕ) (set : KeptSet) : Type 0 where
  -- it is a kept set of a session number of eight bytes, within the limit
  pub sound : IsKeptSet set
  pub session : length set.session ≡ 8
  pub limit : set.limit ≡ most
  -- and the bytes are its text
  pub text : bytes ≡ store_text set

module _ (limit : ℕ) (bytes : List ℕ) (set : KeptSet) (read : read_text limit bytes ≡ Ok set) where
  from : IsReadFrom STORE_FORM store_form_is limit bytes set
  from = read_from STORE_FORM store_form_is limit bytes set read

  grown : HasGrownBy (empty_set (session_of bytes) limit) from.frames set
  grown = leads_make from.frames (session_of bytes) limit set from.leads

  -- What is read is a kept set, of a session number of eight bytes, within the limit.
  pub read_sound : IsKeptSet set
  read_sound = grown.sound

  pub read_session : length set.session ≡ 8
  read_session = ap length grown.session ∙ from.session

  pub read_limit : set.limit ≡ limit
  read_limit = grown.limit

  module _ (fits : All (λ byte. byte < 256) bytes) where
    same_text : bytes ≡ store_text set
    same_text =
        from.text fits
        ∙ ap (λ (s : List ℕ). store_of_in STORE_FORM s from.frames) (sym grown.session)
        ∙ ap (λ (fs : List Fields). store_of_in STORE_FORM set.session fs) (sym grown.frames)

    -- And the bytes are its text.
    pub read_is_written : ReadsStore limit bytes set
    read_is_written = record { sound = read_sound; session = read_session; limit = read_limit; text = same_text }
