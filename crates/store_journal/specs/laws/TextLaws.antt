-- What a journal's text is read as.
use Rattle.std.proofs.Common.{◌≡◌, inl, inr, ℕ, zero, suc, ◌+◌, ◌<◌, ◌≤◌, Bool, true, false, cond, List, [], ◌∷◌}
use Rattle.std.proofs.Common.{◌++◌, length, take, drop, Option, None, Some, refl, sym, ap, ◌∙◌, append_assoc}
use Rattle.std.proofs.Common.{length-append, arith}
use Rattle.std.specs.Prelude.{Result, Ok, nat_lt, nat_le}
use Rattle.std.specs.Str.{bytes_eq}
use Rattle.std.proofs.lemmas.Slice.Eq.{bytes_eq-Decides}
use Rattle.std.proofs.lemmas.Bool.{cases_lt}
use Rattle.std.specs.Int.{w16, from_be_bytes, to_be_bytes}
use Rattle.std.proofs.lemmas.Nat.{from_be_bytes-to_be_bytes_2}
use Rattle.std.proofs.lemmas.List.{append-nil, take_at, drop_at}
use Rattle.std.proofs.lemmas.Bool.Decides.{nat_tests}
use Rattle.pet_base.specs.Entries.{entry_text}
use Rattle.store_journal.specs.Text.{Keep, Keeps, HasFrames, as_journal, mark_text, front_text, reading_of}
use Rattle.store_journal.specs.Text.{open_entry, entries_text, is_end, part_and_more, whole_entry, go_on, read_entry}
use Rattle.store_journal.specs.Text.{read_gates}

part_is : (frame tail : List ℕ) → 0 < length tail → part_and_more (length frame) (frame ++ tail) ≡ Some (frame, tail)
part_is frame tail some =
    let long : nat_lt (length frame) (length (frame ++ tail)) ≡ true =
    grind (arith, nat_tests, length-append frame tail) in
    ap
    (λ (b : Bool).
    cond {A = Option (List ℕ × List ℕ)} b
    (Some (take (length frame) (frame ++ tail), drop (length frame) (frame ++ tail))) None) long
    ∙ ap (λ (front : List ℕ). Some (front, drop (length frame) (frame ++ tail)))
    (take_at frame tail (length frame) refl)
    ∙ ap (λ (back : List ℕ). Some (frame, back)) (drop_at frame tail (length frame) refl)

two_first : (n : ℕ) (more : List ℕ)
    → whole_entry (to_be_bytes w16 n ++ more) ≡ part_and_more (from_be_bytes w16 (to_be_bytes w16 n)) more
two_first n more = refl

-- an entry with something behind it is whole
pub entry_whole : (frame tail : List ℕ) → length frame < 65536 → 0 < length tail
    → whole_entry (entry_text frame ++ tail) ≡ Some (frame, tail)
entry_whole frame tail short some =
    ap whole_entry (append_assoc (to_be_bytes w16 (length frame)) frame tail)
    ∙ two_first (length frame) (frame ++ tail)
    ∙ ap (λ (n : ℕ). part_and_more n (frame ++ tail)) (from_be_bytes-to_be_bytes_2 (length frame) short)
    ∙ part_is frame tail some

-- a gate ends it
end_is : {S : Type 0} (keep : Keep S) (n at : ℕ) (set : S) (gate : ℕ) (rest : List ℕ) → is_end gate rest ≡ true
    → read_gates keep (suc n) at set (gate ∷ rest) ≡ Ok set
unfolding read_gates
end_is keep n at set gate rest ends =
    ap (λ (b : Bool). cond b (Ok set) (read_entry keep at set (whole_entry rest) (read_gates keep n))) ends

-- an entry is read, and then what is behind it
pub entry_is : {S : Type 0} (keep : Keep S) (n at : ℕ) (set next : S) (frame tail : List ℕ) → length frame < 65536
    → 0 < length tail → keep set frame ≡ Some next
    → read_gates keep (suc n) at set (open_entry frame ++ tail) ≡ read_gates keep n (at + 3 + length frame) next tail
unfolding read_gates
entry_is {S = S} keep n at set next frame tail short some kept =
    ap (λ (e : Option (List ℕ × List ℕ)). read_entry keep at set e (read_gates keep n))
    (entry_whole frame tail short some)
    ∙ ap (λ (o : Option S). go_on at frame tail o (read_gates keep n)) kept

-- entries are read, up to the gate that ends them
pub entries_are : {S : Type 0} (keep : Keep S) (frames : List (List ℕ)) (n at : ℕ) (set last : S) (gate : ℕ)
    (rest : List ℕ)
    → Keeps keep set frames last → is_end gate rest ≡ true → length frames < n
    → read_gates keep n at set (entries_text frames ++ gate ∷ rest) ≡ Ok last
entries_are keep frames zero at set last gate rest keeps ends few = absurd (omega arith)
entries_are {S = S} keep [] (suc n) at set last gate rest keeps ends few = end_is keep n at set gate rest ends
    ∙ ap (λ (s : S). Ok s) keeps
entries_are keep (frame ∷ frames) (suc n) at set last gate rest keeps ends few =
    ap (λ (text : List ℕ). read_gates keep (suc n) at set text)
    (append_assoc (open_entry frame) (entries_text frames) (gate ∷ rest))
    ∙ entry_is keep n at set keeps.0 frame (entries_text frames ++ gate ∷ rest) keeps.1
    (omega (arith, length-append (entries_text frames) (gate ∷ rest))) keeps.2
    ∙ entries_are keep frames n (at + 3 + length frame) keeps.0 last gate rest keeps.3 ends (omega arith)

-- each entry takes a byte at least
pub few_entries : (frames : List (List ℕ)) → length frames ≤ length (entries_text frames)
few_entries [] = omega arith
few_entries (frame ∷ frames) =
    omega (arith, few_entries frames, length-append (entry_text frame) (entries_text frames))

-- one frame more
pub keeps_more : {S : Type 0} (keep : Keep S) (frames : List (List ℕ)) (set last next : S) (frame : List ℕ)
    → Keeps keep set frames last → length frame < 65536 → keep last frame ≡ Some next
    → Keeps keep set (frames ++ frame ∷ []) next
keeps_more {S = S} keep [] set last next frame keeps short kept = (
  next,
  short,
  ap (λ (s : S). keep s frame) keeps
      ∙ kept,
  refl,
)
keeps_more keep (f ∷ frames) set last next frame keeps short kept =
    (keeps.0, keeps.1, keeps.2, keeps_more keep frames keeps.0 last next frame keeps.3 short kept)

pub entries_push : (frames : List (List ℕ)) (frame : List ℕ)
    → entries_text (frames ++ frame ∷ []) ≡ entries_text frames ++ open_entry frame
entries_push [] frame = append-nil (open_entry frame)
entries_push (f ∷ frames) frame =
    ap (λ (text : List ℕ). open_entry f ++ text) (entries_push frames frame)
    ∙ sym (append_assoc (open_entry f) (entries_text frames) (open_entry frame))

front_split : (session : List ℕ) (frames : List (List ℕ)) (tail : List ℕ) → length session ≡ 8
    → (take 8 (drop 4 (front_text session frames ++ tail)) ≡ session)
    × (drop 12 (front_text session frames ++ tail) ≡ entries_text frames ++ tail)
front_split session frames tail eight =
    let whole = append_assoc session (entries_text frames) tail in (
      ap (λ (text : List ℕ). take 8 text) whole ∙ take_at session (entries_text frames ++ tail) 8 eight,
      ap (λ (text : List ℕ). drop 8 text) whole ∙ drop_at session (entries_text frames ++ tail) 8 eight,
    )

-- a text of at most 13 bytes
pub short_is : {S : Type 0} (keep : Keep S) (empty : S) (session text : List ℕ) → length text ≤ 13
    → reading_of keep empty session text ≡ Ok empty
unfolding reading_of
short_is {S = S} keep empty session text short =
    let few : nat_le (length text) 13 ≡ true = grind (arith, nat_tests) in
    rw few refl

pub same_bytes : (a : List ℕ) → bytes_eq a a ≡ true
same_bytes a = (bytes_eq-Decides a a).1 refl

-- a longer one that begins with the mark and the session
pub long_is : {S : Type 0} (keep : Keep S) (empty : S) (session text : List ℕ) (read : Result S ℕ) → 13 < length text
    → take 4 text ≡ mark_text → take 8 (drop 4 text) ≡ session
    → read_gates keep (length text) 12 empty (drop 12 text) ≡ read
    → reading_of keep empty session text ≡ as_journal read
unfolding reading_of
long_is keep empty session text read long mark named gates =
    let many : nat_le (length text) 13 ≡ false = grind (arith, nat_tests) in
    let marked : bytes_eq (take 4 text) mark_text ≡ true = ap (λ (t : List ℕ). bytes_eq t mark_text) mark
    ∙ same_bytes mark_text in
    let same : bytes_eq (take 8 (drop 4 text)) session ≡ true = ap (λ (t : List ℕ). bytes_eq t session) named
    ∙ same_bytes session in
    rw (many, marked, same, gates) refl

pub front_length : (session : List ℕ) (frames : List (List ℕ)) → length session ≡ 8
    → length (front_text session frames) ≡ 12 + length (entries_text frames)
front_length session frames eight = omega (arith, length-append session (entries_text frames))

-- a text that stands for frames that are kept stands for their set
pub journal_is : {S : Type 0} (keep : Keep S) (empty : S) (session : List ℕ) (frames : List (List ℕ)) (set : S)
    (text : List ℕ)
    → length session ≡ 8 → Keeps keep empty frames set → HasFrames session frames text
    → reading_of keep empty session text ≡ Ok set
journal_is {S = S} keep empty session frames set text eight keeps is =
    let size : length text ≡ 13 + length (entries_text frames) + length is.rest =
    omega (
      arith,
      ap length is.is,
      front_length session frames eight,
      length-append (front_text session frames)
          (is.gate ∷ is.rest),
    ) in
    let parts = front_split session frames (is.gate ∷ is.rest) eight in
    elim (cases_lt 13 (length text)) [
      | inr short ↦ short_is keep empty session text short
          ∙ ap (λ (s : S). Ok s) (no_frames frames keeps (omega arith))
      | inl long ↦
          long_is keep empty session text (Ok set) long (ap (λ (t : List ℕ). take 4 t) is.is)
          (ap (λ (t : List ℕ). take 8 (drop 4 t)) is.is ∙ parts.0)
          (ap (λ (t : List ℕ). read_gates keep (length text) 12 empty (drop 12 t)) is.is
          ∙ ap (λ (t : List ℕ). read_gates keep (length text) 12 empty t) parts.1
          ∙ entries_are keep frames (length text) 12 empty set is.gate is.rest keeps is.ends
          (omega (arith, few_entries frames)))
    ]
  where
    no_frames : (frames : List (List ℕ)) → Keeps keep empty frames set → length (entries_text frames) ≤ 0
        → empty ≡ set
    no_frames [] keeps few = keeps
    no_frames (frame ∷ frames) keeps few = absurd (omega arith)
