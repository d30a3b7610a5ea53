-- The store of two that is put piece after piece: the entries that are put next, and that so many were merged.
use Rattle.std.specs.Prelude.{OnOk, Result, Ok, Err}
use Rattle.std.proofs.Common.{◌≡◌, ℕ, ◌+◌, ◌-◌, ◌<◌, suc, List, [], ◌∷◌, ◌++◌, length, take, drop, sym, ap, ◌∙◌}
use Rattle.std.proofs.Common.{arith, append_assoc, append-nil, inl, inr}
use Rattle.std.proofs.lemmas.Bool.{cases_Bool}
use Rattle.std.proofs.lemmas.List.{append_cancel_left, length-append, take_at}
use Rattle.pet_base.specs.Entries.{entry_text}
use Rattle.packet_frame.specs.Frame.{Fields, text}
use Rattle.store_text.specs.Refusals.{datagram_in, entry_length}
use Rattle.store_text.specs.Store.{entries_in}
use Rattle.store_text.specs.declared.format.TheConstants.{STORE_FORM}
use Rattle.store_text.specs.laws.PuttingLaws.{entries_append}
use Rattle.store_packets.specs.inside.Reading.{frame_of}
use Rattle.store_packets.specs.inside.Listed.{frames_at}
use Rattle.store_union.specs.inside.Merging.{is_before, left_from, passed, without, merged}
use Rattle.store_packets.proofs.Listed.{frames_none, frames_then}
use Rattle.store_union.proofs.Merged.{merged_none, merged_next}
use Rattle.store_union.proofs.Passing.{passed_none, passed_more, passed_stop, left_none, left_more, left_stop}

pub on_ok_all : {A E P : Type 0} (r : Result A E) → P → OnOk r P
on_ok_all (Ok x) p = p
on_ok_all (Err e) p = tt

-- ---- bytes in front of others

pub before_is : (bytes rest front first : List ℕ) (n : ℕ) → bytes ≡ front ++ rest → n ≡ length bytes - length rest
    → first ≡ take n bytes → first ≡ front
before_is bytes rest front first n is many e =
    e ∙ ap (take n) is
    ∙ take_at front rest n (omega (arith, many, ap length is, length-append front rest))

-- ---- entries

pub up_to_text : (fs : List Fields) (g : Fields) (front entry : List ℕ) → front ≡ entries_in STORE_FORM fs
    → entry ≡ entry_text (text g) → front ++ entry ≡ entries_in STORE_FORM (fs ++ (g ∷ []))
up_to_text fs g front entry is one =
    ap (λ l. l ++ entry) is ∙ ap (λ l. entries_in STORE_FORM fs ++ l) (one ∙ sym (append-nil (entry_text (text g))))
    ∙ sym (entries_append fs (g ∷ []))

-- the frames that are passed and those that are left are all
pub passed_left : (g : Fields) (fs : List Fields) → fs ≡ passed g fs ++ left_from g fs
passed_left g [] = sym (ap (λ l. l ++ left_from g []) (passed_none g) ∙ left_none g)
passed_left g (f ∷ fs) =
    elim (cases_Bool (is_before f g)) [
      | inl e ↦
          ap (λ l. f ∷ l) (passed_left g fs)
          ∙ sym (ap (λ l. l ++ left_from g (f ∷ fs)) (passed_more g f fs e)
          ∙ ap (λ l. (f ∷ passed g fs) ++ l) (left_more g f fs e))
      | inr e ↦
          sym (ap (λ l. l ++ left_from g (f ∷ fs)) (passed_stop g f fs e) ∙ left_stop g f fs e)
    ]

-- behind what was passed the rest are the entries that are left
pub left_spelled : (g : Fields) (fs left : List Fields) (bytes rest : List ℕ) → bytes ≡ entries_in STORE_FORM fs
    → bytes ≡ entries_in STORE_FORM (passed g fs) ++ rest → left ≡ left_from g fs → rest ≡ entries_in STORE_FORM left
left_spelled g fs left bytes rest spelled front is =
    append_cancel_left (entries_in STORE_FORM (passed g fs)) rest (entries_in STORE_FORM left)
    (sym front ∙ spelled ∙ ap (entries_in STORE_FORM) (passed_left g fs)
    ∙ entries_append (passed g fs) (left_from g fs)
    ∙ ap (λ l. entries_in STORE_FORM (passed g fs) ++ entries_in STORE_FORM l) (sym is))

pub next_spelled : (f : Fields) (fs all : List Fields) (bytes after : List ℕ) → all ≡ f ∷ fs
    → bytes ≡ entry_text (text f) ++ after → bytes ≡ entries_in STORE_FORM all → after ≡ entries_in STORE_FORM fs
next_spelled f fs all bytes after are is spelled =
    append_cancel_left (entry_text (text f)) after (entries_in STORE_FORM fs)
    (sym is ∙ spelled ∙ ap (entries_in STORE_FORM) are)

-- ---- so many of the other list were merged

pub record MergedTo (mine0 theirs0 : List Fields) (count done : ℕ) (mine : List Fields) (rest : List ℕ) : Type 0 where
  pub front : List Fields
  pub is : (many : ℕ) → many + done ≡ count
      → merged mine0 theirs0 ≡ front ++ merged mine (frames_at STORE_FORM many rest)

abbrev pub merged_to_first : (mine0 mine : List Fields) (count : ℕ) (entries : List ℕ) → mine ≡ mine0
    → MergedTo mine0 (frames_at STORE_FORM count entries) count 0 mine entries
merged_to_first mine0 mine count entries same = record {
  front = [];
  is = λ many e. let is : count ≡ many = omega (arith, e) in
      ap (λ l. merged l (frames_at STORE_FORM count entries)) (sym same)
      ∙ ap (λ n. merged mine (frames_at STORE_FORM n entries)) is;
}

module _ {mine0 theirs0 : List Fields} {count done : ℕ} {mine : List Fields} {rest : List ℕ}
    (m : MergedTo mine0 theirs0 count done mine rest) where
  pub merged_to_end : done ≡ count → merged mine0 theirs0 ≡ m.front ++ mine
  merged_to_end e =
      m.is 0 (omega (arith, e))
      ∙ ap (λ l. m.front ++ l) (ap (merged mine) (frames_none STORE_FORM rest) ∙ merged_none mine)

  module _ {datagram after : List ℕ} (is : datagram ≡ datagram_in rest) (behind : after ≡ drop (entry_length rest) rest)
      {left : List Fields} (left_is : left ≡ without (frame_of STORE_FORM datagram)
      (left_from (frame_of STORE_FORM datagram) mine)) where
    abbrev g : Fields
    g = frame_of STORE_FORM datagram

    -- what is put next
    abbrev pub up_to : List Fields
    up_to = passed g mine ++ (g ∷ [])

    pub step : (many : ℕ) → merged mine (frames_at STORE_FORM (suc many) rest)
        ≡ up_to ++ merged left (frames_at STORE_FORM many after)
    step many =
        ap (merged mine) (frames_then STORE_FORM rest is behind many)
        ∙ merged_next mine g (frames_at STORE_FORM many after)
        ∙ ap (λ l. passed g mine ++ (g ∷ merged l (frames_at STORE_FORM many after))) (sym left_is)
        ∙ sym (append_assoc (passed g mine) (g ∷ []) (merged left (frames_at STORE_FORM many after)))

    abbrev pub merged_to_next : MergedTo mine0 theirs0 count (done + 1) left after
    merged_to_next = record {
      front = m.front ++ up_to;
      is = λ many e.
          m.is (suc many) (omega (arith, e)) ∙ ap (λ l. m.front ++ l) (step many)
          ∙ sym (append_assoc m.front up_to (merged left (frames_at STORE_FORM many after)));
    }

    -- it stands at the front of all
    pub merged_to_all : done < count → merged mine0 theirs0
        ≡ (m.front ++ up_to) ++ merged left (frames_at STORE_FORM (count - suc done) after)
    merged_to_all low = merged_to_next.is (count - suc done) (omega (arith, low))
