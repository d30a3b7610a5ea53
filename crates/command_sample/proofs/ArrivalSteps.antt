-- The packets that arrive, one more at a time, and their steps.
use Rattle.std.proofs.Common.{◌≡◌, ℕ, zero, suc, ◌+◌, ◌<◌, ◌≤◌, List, [], ◌∷◌, ◌++◌, length, take, get_or, refl, sym, ap}
use Rattle.std.proofs.Common.{subst, ◌∙◌, arith, append_assoc}
use Rattle.std.specs.List.{flat_map, range_with_len}
use Rattle.std.proofs.lemmas.List.{append-nil, get_or-map, take_all}
use Rattle.packet_met.specs.Met.{Pair}
use Rattle.packet_session.specs.Encoding.{Encoding}
use Rattle.packet_session.specs.Session.{Session}
use Rattle.pet_receive.specs.Arrivals.{ReceiverState}
use Rattle.command_sample.specs.Arrivals.{arrivals_of_group, arrivals_in, arrivals_of}
use Rattle.command_sample.specs.SampleSteps.{arrival_steps, steps_behind}
use Rattle.command_sample.specs.inside.Receiving.{HasReceived, IsSource}
use Rattle.command_sample.specs.laws.ArrivalLaws.{arrivals_many}
use Rattle.command_sample.proofs.Arrived.{in_group}

steps_split : (s : Session) (before xs ys : List Pair)
    → steps_behind s before (xs ++ ys) ≡ steps_behind s before xs + steps_behind s (before ++ xs) ys
unfolding steps_behind
steps_split s before [] ys = omega (arith, ap (λ (l : List Pair). steps_behind s l ys) (append-nil before))
steps_split s before (x ∷ xs) ys =
    omega (
      arith,
      steps_split s (before ++ x ∷ []) xs ys,
      ap (λ (l : List Pair). steps_behind s l ys) (append_assoc before (x ∷ []) xs),
    )

steps_one : (s : Session) (before : List Pair) (pair : Pair)
    → steps_behind s before (pair ∷ []) ≡ arrival_steps s before pair
unfolding steps_behind
steps_one s before pair = omega arith

-- ---- of a group

abbrev pub front : ℕ → ℕ → List Pair
front group many = take many (arrivals_in group)

front_steps : (s : Session) (before xs : List Pair) (many : ℕ)
    → steps_behind s before (take many xs) ≤ steps_behind s before xs
unfolding steps_behind
front_steps s before xs zero = omega arith
front_steps s before [] (suc many) = omega arith
front_steps s before (x ∷ xs) (suc many) = omega (arith, front_steps s (before ++ x ∷ []) xs many)

take_more : (xs : List Pair) (k : ℕ) (d : Pair) → k < length xs → take (suc k) xs ≡ take k xs ++ get_or xs k d ∷ []
take_more [] k d low = absurd (omega arith)
take_more (x ∷ xs) zero d low = refl
take_more (x ∷ xs) (suc k) d low = ap (λ (l : List Pair). x ∷ l) (take_more xs k d (omega arith))

front_more : (group k number : ℕ) → k < 96 → get_or arrivals_of_group k 0 ≡ number
    → front group (k + 1) ≡ front group k ++ (group, number) ∷ []
front_more group k number low is =
    ap (λ (n : ℕ). front group n) (let e : k + 1 ≡ suc k = omega arith in e)
    ∙ take_more (arrivals_in group) k (group, 0) (omega (arith, low, in_group group))
    ∙ ap (λ (p : Pair). front group k ++ p ∷ [])
    (get_or-map (λ (n : ℕ). (group, n)) arrivals_of_group k 0 (group, 0) (omega (arith, low, arrivals_many))
    ∙ ap (λ (n : ℕ). (group, n)) is)

-- what is known of the receiver of a session after so many packets of a group
pub record HasTaken (e : Encoding) (old : ReceiverState ℕ) (start many : ℕ) (r : ReceiverState ℕ) (now : ℕ) : Type 0 where
  pub received : (s : Session) (pairs : List Pair) → IsSource s e → HasReceived s pairs old
      → HasReceived s (pairs ++ front e.header.group many) r
  pub cost : (s : Session) (pairs : List Pair) → IsSource s e → HasReceived s pairs old
      → now ≤ start + steps_behind s pairs (front e.header.group many)

pub taken_none : (e : Encoding) (old : ReceiverState ℕ) (start : ℕ) → HasTaken e old start 0 old start
taken_none e old start = record {
  received = λ s pairs source has. subst (λ (l : List Pair). HasReceived s l old) (sym (append-nil pairs)) has;
  cost = λ s pairs source has. omega arith;
}

module _ (e : Encoding) (old : ReceiverState ℕ) (start many number : ℕ) (r : ReceiverState ℕ) (now : ℕ)
    (taken : HasTaken e old start many r now) (low : many < 96) (is : get_or arrivals_of_group many 0 ≡ number) where
  abbrev OneReceived : ReceiverState ℕ → Type 0
  OneReceived later =
      (s : Session) (pairs : List Pair) → IsSource s e → HasReceived s pairs r
      → HasReceived s (pairs ++ (e.header.group, number) ∷ []) later

  abbrev OneCounted : ℕ → Type 0
  OneCounted past =
      (s : Session) (pairs : List Pair) → IsSource s e → HasReceived s pairs r
      → past ≤ now + arrival_steps s pairs (e.header.group, number)

  one_more_steps : (s : Session) (pairs : List Pair)
      → steps_behind s pairs (front e.header.group (many + 1))
      ≡ steps_behind s pairs (front e.header.group many)
      + arrival_steps s (pairs ++ front e.header.group many) (e.header.group, number)
  one_more_steps s pairs =
      ap (steps_behind s pairs) (front_more e.header.group many number low is)
      ∙ steps_split s pairs (front e.header.group many) ((e.header.group, number) ∷ [])
      ∙ ap (λ (n : ℕ). steps_behind s pairs (front e.header.group many) + n)
      (steps_one s (pairs ++ front e.header.group many) (e.header.group, number))

  counted_more : (past : ℕ) → OneCounted past → (s : Session) (pairs : List Pair) → IsSource s e
      → HasReceived s pairs old → past ≤ start + steps_behind s pairs (front e.header.group (many + 1))
  counted_more past counted s pairs source has =
      omega (
        arith,
        counted s (pairs ++ front e.header.group many) source (taken.received s pairs source has),
        taken.cost s pairs source has,
        one_more_steps s pairs,
      )

  pub taken_more : (later : ReceiverState ℕ) (past : ℕ) → OneReceived later → OneCounted past
      → HasTaken e old start (many + 1) later past
  taken_more later past received counted = record {
    received =
        λ s pairs source has.
        subst (λ (l : List Pair). HasReceived s l later)
        (append_assoc pairs (front e.header.group many) ((e.header.group, number) ∷ [])
        ∙ ap (λ (l : List Pair). pairs ++ l) (sym (front_more e.header.group many number low is)))
        (received s (pairs ++ front e.header.group many) source (taken.received s pairs source has));
    cost = counted_more past counted;
  }

  pub stopped_within : (past : ℕ) → OneCounted past → (s : Session) (pairs : List Pair) → IsSource s e
      → HasReceived s pairs old → past ≤ start + steps_behind s pairs (arrivals_in e.header.group)
  stopped_within past counted s pairs source has =
      omega (
        arith,
        counted_more past counted s pairs source has,
        front_steps s pairs (arrivals_in e.header.group) (many + 1),
      )

pub taken_all : (e : Encoding) (old : ReceiverState ℕ) (start many : ℕ) (r : ReceiverState ℕ) (now : ℕ)
    → HasTaken e old start many r now → 96 ≤ many
    → ((s : Session) (pairs : List Pair) → IsSource s e → HasReceived s pairs old
    → HasReceived s (pairs ++ arrivals_in e.header.group) r)
    × ((s : Session) (pairs : List Pair) → IsSource s e → HasReceived s pairs old
    → now ≤ start + steps_behind s pairs (arrivals_in e.header.group))
taken_all e old start many r now taken all =
    let whole : front e.header.group many ≡ arrivals_in e.header.group =
    take_all many (arrivals_in e.header.group) (omega (arith, all, in_group e.header.group)) in (
      λ s pairs source has. subst (λ (l : List Pair). HasReceived s (pairs ++ l) r) whole
          (taken.received s pairs source has),
      λ s pairs source has. subst (λ (l : List Pair). now ≤ start + steps_behind s pairs l) whole
          (taken.cost s pairs source has),
    )

-- ---- of all groups

range_more : (f : ℕ → List Pair) (a n : ℕ)
    → flat_map f (range_with_len a (suc n)) ≡ flat_map f (range_with_len a n) ++ f (a + n)
range_more f a zero = append-nil (f a) ∙ ap f (let e : a ≡ a + 0 = omega arith in e)
range_more f a (suc n) =
    ap (λ (l : List Pair). f a ++ l)
    (range_more f (a + 1) n
    ∙ ap (λ (k : ℕ). flat_map f (range_with_len (a + 1) n) ++ f k) (let e : (a + 1) + n ≡ a + suc n = omega arith in e))
    ∙ sym (append_assoc (f a) (flat_map f (range_with_len (a + 1) n)) (f (a + suc n)))

pub group_more : (n : ℕ) → arrivals_of (n + 1) ≡ arrivals_of n ++ arrivals_in n
group_more n =
    ap arrivals_of (let e : n + 1 ≡ suc n = omega arith in e) ∙ range_more arrivals_in 0 n
    ∙ ap (λ (k : ℕ). arrivals_of n ++ arrivals_in k) (let e : 0 + n ≡ n = omega arith in e)

pub all_steps_more : (s : Session) (n : ℕ)
    → steps_behind s [] (arrivals_of (n + 1))
    ≡ steps_behind s [] (arrivals_of n) + steps_behind s (arrivals_of n) (arrivals_in n)
all_steps_more s n =
    ap (steps_behind s []) (group_more n) ∙ steps_split s [] (arrivals_of n) (arrivals_in n)

pub all_steps_within : (s : Session) (n k m : ℕ) → n + k ≡ m
    → steps_behind s [] (arrivals_of n) ≤ steps_behind s [] (arrivals_of m)
all_steps_within s n zero m is =
    let same : steps_behind s [] (arrivals_of n) ≡ steps_behind s [] (arrivals_of m) =
    ap (λ (i : ℕ). steps_behind s [] (arrivals_of i)) (let e : n ≡ m = omega (arith, is) in e) in
    omega (arith, same)
all_steps_within s n (suc k) m is =
    omega (arith, all_steps_more s n, all_steps_within s (n + 1) k m (omega (arith, is)))
