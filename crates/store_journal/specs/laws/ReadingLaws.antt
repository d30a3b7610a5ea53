-- What the calls that read an entry find.
use Rattle.std.proofs.Common.{◌≡◌, ℕ, ◌+◌, ◌-◌, ◌<◌, ◌≤◌, Bool, true, false, cond, List, [], ◌∷◌, ◌++◌, length, take}
use Rattle.std.proofs.Common.{drop, Option, None, Some, refl, sym, ap, ◌∙◌, append_assoc, length-drop, arith}
use Rattle.std.specs.Prelude.{nat_lt}
use Rattle.std.specs.Int.{w16, from_be_bytes, to_be_bytes}
use Rattle.std.proofs.lemmas.Nat.{from_be_bytes-to_be_bytes_2}
use Rattle.std.proofs.lemmas.Bool.Decides.{nat_tests}
use Rattle.std.proofs.lemmas.List.{drop-drop, length-take-le, take-append-drop}
use Rattle.outside_disk.specs.Disk.{DiskSeen, Untold, Tells, IfTold, Holds}
use Rattle.store_journal.specs.Text.{part_and_more, whole_entry}
use Rattle.store_journal.specs.inside.Entry.{IsEntry, IsEntryOf}

none_short : (l : List ℕ) → length l < 2 → whole_entry l ≡ None
none_short [] short = refl
none_short (a ∷ []) short = refl
none_short (a ∷ b ∷ l) short = absurd (omega arith)

parts_of : (l : List ℕ) → 2 ≤ length l → whole_entry l ≡ part_and_more (from_be_bytes w16 (take 2 l)) (drop 2 l)
parts_of [] long = absurd (omega arith)
parts_of (a ∷ []) long = absurd (omega arith)
parts_of (a ∷ b ∷ l) long = refl

part_none : (n : ℕ) (more : List ℕ) → length more ≤ n → part_and_more n more ≡ None
part_none n more le =
    let no : nat_lt n (length more) ≡ false = grind (arith, nat_tests) in
    ap (λ (b : Bool). cond {A = Option (List ℕ × List ℕ)} b (Some (take n more, drop n more)) None) no

part_some : (n : ℕ) (more : List ℕ) → n < length more → part_and_more n more ≡ Some (take n more, drop n more)
part_some n more lt =
    let yes_it_is : nat_lt n (length more) ≡ true = grind (arith, nat_tests) in
    ap (λ (b : Bool). cond {A = Option (List ℕ × List ℕ)} b (Some (take n more, drop n more)) None) yes_it_is

-- fewer than two bytes behind the gate
entry_short : (gate size : ℕ) (buffer bytes : List ℕ) → gate + 1 < size → size - gate - 1 < 2 → length bytes ≡ size
    → IsEntry None buffer gate bytes
entry_short gate size buffer bytes within short is =
    none_short (drop (gate + 1) bytes) (omega (arith, length-drop (gate + 1) bytes))

behind_count : (gate : ℕ) (bytes : List ℕ) → drop 2 (drop (gate + 1) bytes) ≡ drop (gate + 3) bytes
behind_count gate bytes = drop-drop 2 (gate + 1) bytes ∙ ap (λ (k : ℕ). drop k bytes) (omega arith)

-- the count in two bytes
pub count_back : (n : ℕ) (two : List ℕ) → n < 65536 → two ≡ to_be_bytes w16 n → from_be_bytes w16 two ≡ n
count_back n two small is = ap (λ (l : List ℕ). from_be_bytes w16 l) is ∙ from_be_bytes-to_be_bytes_2 n small

-- the frame is not whole, or no gate follows it
entry_none : (gate size n : ℕ) (buffer bytes : List ℕ) → gate + 1 < size → 2 ≤ size - gate - 1 → length bytes ≡ size
    → n < 65536 → take 2 (drop (gate + 1) bytes) ≡ to_be_bytes w16 n → size - gate - 1 - 2 ≤ n
    → IsEntry None buffer gate bytes
entry_none gate size n buffer bytes within long is small count few =
    parts_of (drop (gate + 1) bytes) (omega (arith, length-drop (gate + 1) bytes))
    ∙ ap (λ (k : ℕ). part_and_more k (drop 2 (drop (gate + 1) bytes)))
    (count_back n (take 2 (drop (gate + 1) bytes)) small count)
    ∙ part_none n (drop 2 (drop (gate + 1) bytes))
    (omega (arith, length-drop 2 (drop (gate + 1) bytes), length-drop (gate + 1) bytes))

entry_some : (gate size n : ℕ) (buffer bytes : List ℕ) → length bytes ≡ size
    → take 2 (drop (gate + 1) bytes) ≡ to_be_bytes w16 n → gate + 3 + n < size
    → take n buffer ≡ take n (drop (gate + 3) bytes) → IsEntryOf n buffer gate bytes
entry_some gate size n buffer bytes is count some front =
    let long : length (take n buffer) ≡ n = ap length front
    ∙ length-take-le n (drop (gate + 3) bytes) (omega (arith, length-drop (gate + 3) bytes)) in
    record {
      long = long;
      is = sym (take-append-drop 2 (drop (gate + 1) bytes))
          ∙ ap (λ (l : List ℕ). l ++ drop 2 (drop (gate + 1) bytes)) (count
          ∙ ap (λ (k : ℕ). to_be_bytes w16 k) (sym long))
          ∙ ap (λ (l : List ℕ). to_be_bytes w16 (length (take n buffer)) ++ l) (behind_count gate bytes
          ∙ sym (take-append-drop n (drop (gate + 3) bytes)))
          ∙ ap (λ (l : List ℕ). to_be_bytes w16 (length (take n buffer)) ++ (l ++ drop n (drop (gate + 3) bytes)))
          (sym front)
          ∙ ap (λ (l : List ℕ). to_be_bytes w16 (length (take n buffer)) ++ (take n buffer ++ l))
          (drop-drop n (gate + 3) bytes)
          ∙ sym (append_assoc (to_be_bytes w16 (length (take n buffer))) (take n buffer) (drop (gate + 3 + n) bytes));
      within = omega (arith, is);
    }

-- the same, told or not
pub short_entry : (gate size : ℕ) (buffer : List ℕ) (a : DiskSeen) → gate + 1 < size → size - gate - 1 < 2
    → IfTold a (λ d. length d.bytes ≡ size) → IfTold a (λ d. IsEntry None buffer gate d.bytes)
short_entry gate size buffer Untold within short is = tt
short_entry gate size buffer (Tells d) within short is = entry_short gate size buffer d.bytes within short is

pub no_entry : (gate size n : ℕ) (buffer : List ℕ) (a : DiskSeen) → gate + 1 < size → 2 ≤ size - gate - 1
    → IfTold a (λ d. length d.bytes ≡ size) → n < 65536
    → IfTold a (λ d. take 2 (drop (gate + 1) d.bytes) ≡ to_be_bytes w16 n)
    → size - gate - 1 - 2 ≤ n → IfTold a (λ d. IsEntry None buffer gate d.bytes)
no_entry gate size n buffer Untold within long is small count few = tt
no_entry gate size n buffer (Tells d) within long is small count few =
    entry_none gate size n buffer d.bytes within long is small count few

pub some_entry : (gate size n : ℕ) (part buffer : List ℕ) (a : DiskSeen) → IfTold a (λ d. length d.bytes ≡ size)
    → IfTold a (λ d. take 2 (drop (gate + 1) d.bytes) ≡ to_be_bytes w16 n)
    → gate + 3 + n < size → length part ≡ n → take n buffer ≡ part → IfTold a (λ d. Holds d.bytes (gate + 3) part)
    → IfTold a (λ d. IsEntryOf n buffer gate d.bytes)
some_entry gate size n part buffer Untold is count some len front holds = tt
some_entry gate size n part buffer (Tells d) is count some len front holds =
    entry_some gate size n buffer d.bytes is count some (front ∙ holds
    ∙ ap (λ (k : ℕ). take k (drop (gate + 3) d.bytes)) len)
