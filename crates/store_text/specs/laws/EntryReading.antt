-- Laws of one entry of a store: what is read of the entry of a datagram, and what bytes an entry that is read has.
use Rattle.std.proofs.Common.{◌≡◌, ℕ, ◌+◌, ◌<◌, ◌≤◌, suc, Bool, true, false, not, ◌&&◌, ltb, List, ◌++◌, length, take}
use Rattle.std.proofs.Common.{drop, All, get_or, Some, Result, Err, append_assoc, refl, sym, ap, ◌∙◌, arith, inl, inr}
use Rattle.std.specs.Prelude.{if◌then◌else◌}
use Rattle.std.specs.Int.{w16, from_be_bytes, to_be_bytes}
use Rattle.std.proofs.Math.Seq.{take-append_seam, drop-append_seam}
use Rattle.std.proofs.lemmas.Bool.{le-ltb, ltb-false, cases_lt}
use Rattle.std.proofs.lemmas.List.{length-append, length-take, length-drop, get_or_past, take-append-drop, drop-drop}
use Rattle.std.proofs.lemmas.List.Elements.{All-take}
use Rattle.std.proofs.lemmas.Nat.{from_be_bytes-to_be_bytes_2, be_bytes_2}
use Rattle.packet_frame.specs.Refusals.{number, fields_in}
use Rattle.pet_base.specs.Entries.{entry_text}
use Rattle.packet_verdicts.specs.KeptSet.{KeptSet, keep}
use Rattle.store_text.specs.declared.format.StoreForm.{StoreForm}
use Rattle.store_text.specs.declared.fault.BadStore.{BadStore}
use Rattle.store_text.specs.declared.fault.BadStore.TheVariants.{At}
use Rattle.store_text.specs.declared.fault.StoreKind.TheVariants.{Cut}
use Rattle.store_text.specs.Refusals.{Last, entry_fault_in, entry_length, datagram_in, is_whole, then_next}
use Rattle.store_text.specs.Refusals.{read_entries_in}

-- ---- the entry of a datagram, and bytes behind it

two_first : (n : ℕ) (more : List ℕ) → number w16 0 (to_be_bytes w16 n ++ more) ≡ from_be_bytes w16 (to_be_bytes w16 n)
two_first n more = refl

two_behind : (n : ℕ) (more : List ℕ) → drop 2 (to_be_bytes w16 n ++ more) ≡ more
two_behind n more = refl

length_two : (n : ℕ) → length (to_be_bytes w16 n) ≡ 2
length_two n = refl

module _ (d more : List ℕ) (short : length d < 65536) where
  behind : entry_text d ++ more ≡ to_be_bytes w16 (length d) ++ (d ++ more)
  behind = append_assoc (to_be_bytes w16 (length d)) d more

  pub entry_number : number w16 0 (entry_text d ++ more) ≡ length d
  entry_number =
      ap (number w16 0) behind ∙ two_first (length d) (d ++ more) ∙ from_be_bytes-to_be_bytes_2 (length d) short

  pub entry_long : length (entry_text d ++ more) ≡ 2 + length d + length more
  entry_long =
      omega (
        arith,
        length-append (entry_text d) more,
        length-append (to_be_bytes w16 (length d)) d,
        length_two (length d),
      )

  pub entry_datagram : datagram_in (entry_text d ++ more) ≡ d
  entry_datagram =
      ap (λ n. take n (drop 2 (entry_text d ++ more))) entry_number
      ∙ ap (λ t. take (length d) t) (ap (drop 2) behind ∙ two_behind (length d) (d ++ more))
      ∙ take-append_seam d more

  pub entry_rest : drop (entry_length (entry_text d ++ more)) (entry_text d ++ more) ≡ more
  entry_rest =
      let long : entry_length (entry_text d ++ more) ≡ length (entry_text d) =
      omega (arith, entry_number, length-append (to_be_bytes w16 (length d)) d, length_two (length d)) in
      ap (λ n. drop n (entry_text d ++ more)) long ∙ drop-append_seam (entry_text d) more

  pub entry_whole : is_whole (entry_text d ++ more) ≡ true
  entry_whole =
      let some : ltb (length (entry_text d ++ more)) 2 ≡ false =
      le-ltb (length (entry_text d ++ more)) 2 (omega (arith, entry_long)) in
      let all : ltb (length (entry_text d ++ more)) (entry_length (entry_text d ++ more)) ≡ false =
      le-ltb (length (entry_text d ++ more)) (entry_length (entry_text d ++ more))
      (omega (arith, entry_long, entry_number)) in
      ap (λ b. not b && not (ltb (length (entry_text d ++ more)) (entry_length (entry_text d ++ more)))) some
      ∙ ap not all

-- what is read of an entry that is all there
abbrev pub read_next : StoreForm → ℕ → ℕ → KeptSet → Last → List ℕ → Result KeptSet BadStore
read_next t many at set last bytes =
    then_next at (entry_fault_in t set last (datagram_in bytes))
    (read_entries_in t many (at + entry_length bytes) (keep set (fields_in t.frames (datagram_in bytes)))
    (Some ((fields_in t.frames (datagram_in bytes)).group, (fields_in t.frames (datagram_in bytes)).number))
    (drop (entry_length bytes) bytes))

pub read_whole : (t : StoreForm) (many at : ℕ) (set : KeptSet) (last : Last) (bytes : List ℕ) → is_whole bytes ≡ true
    → read_entries_in t (suc many) at set last bytes ≡ read_next t many at set last bytes
unfolding read_entries_in
read_whole t many at set last bytes whole =
    ap (λ b. if not b then Err (At at Cut) else read_next t many at set last bytes) whole

pub read_cut : (t : StoreForm) (many at : ℕ) (set : KeptSet) (last : Last) (bytes : List ℕ) → is_whole bytes ≡ false
    → read_entries_in t (suc many) at set last bytes ≡ Err (At at Cut)
unfolding read_entries_in
read_cut t many at set last bytes cut =
    ap (λ b. if not b then Err (At at Cut) else read_next t many at set last bytes) cut

-- ---- bytes whose first entry is all there

not_cut : (a b : Bool) → (not a && not b) ≡ true → (a ≡ false) × (b ≡ false)
not_cut true b e = absurd (cc)
not_cut false true e = absurd (cc)
not_cut false false e = (refl, refl)

pub whole_two : (bytes : List ℕ) → is_whole bytes ≡ true → 2 ≤ length bytes
whole_two bytes whole =
    ltb-false (length bytes) 2 (not_cut (ltb (length bytes) 2) (ltb (length bytes) (entry_length bytes)) whole).0

pub whole_long : (bytes : List ℕ) → is_whole bytes ≡ true → entry_length bytes ≤ length bytes
whole_long bytes whole =
    ltb-false (length bytes) (entry_length bytes)
    (not_cut (ltb (length bytes) 2) (ltb (length bytes) (entry_length bytes)) whole).1

pub at_each : (bytes : List ℕ) → All (λ byte. byte < 256) bytes → (i : ℕ) → get_or bytes i 0 < 256
at_each bytes fits i =
    elim (cases_lt i (length bytes)) [
      | inl lt ↦ fits i 0 lt
      | inr le ↦ rw (get_or_past bytes i 0 le) (omega arith)
    ]

pub whole_datagram : (bytes : List ℕ) → is_whole bytes ≡ true → length (datagram_in bytes) ≡ number w16 0 bytes
whole_datagram bytes whole =
    omega (arith, whole_long bytes whole, length-take (number w16 0 bytes) (drop 2 bytes), length-drop 2 bytes)

-- they are the entry, and bytes behind it
pub whole_is : (bytes : List ℕ) → All (λ byte. byte < 256) bytes → is_whole bytes ≡ true
    → bytes ≡ entry_text (datagram_in bytes) ++ drop (entry_length bytes) bytes
whole_is bytes fits whole =
    let first = take 2 bytes in
    let two : to_be_bytes w16 (number w16 0 bytes) ≡ first =
    be_bytes_2 first (number w16 0 bytes) (omega (arith, length-take 2 bytes, whole_two bytes whole))
    (at_each first (All-take (λ byte. byte < 256) 2 bytes fits)) refl in
    let head : to_be_bytes w16 (length (datagram_in bytes)) ≡ first =
    ap (to_be_bytes w16) (whole_datagram bytes whole) ∙ two in
    let after : drop (number w16 0 bytes) (drop 2 bytes) ≡ drop (entry_length bytes) bytes =
    drop-drop (number w16 0 bytes) 2 bytes in
    sym (take-append-drop 2 bytes)
    ∙ ap (λ t. first ++ t) (sym (take-append-drop (number w16 0 bytes) (drop 2 bytes)))
    ∙ ap (λ t. first ++ (datagram_in bytes ++ t)) after
    ∙ ap (λ t. t ++ (datagram_in bytes ++ drop (entry_length bytes) bytes)) (sym head)
    ∙ sym (append_assoc (to_be_bytes w16 (length (datagram_in bytes))) (datagram_in bytes)
    (drop (entry_length bytes) bytes))
