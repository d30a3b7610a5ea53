-- How many packets of a group have arrived after so many arrivals, and by which of these its layers are shown.
use Rattle.std.proofs.Common.{◌≡◌, ◌≢◌, ℕ, zero, suc, ◌+◌, ◌-◌, ◌*◌, ◌<◌, ◌≤◌, Bool, true, false, cond, List, [], ◌∷◌, ◌++◌}
use Rattle.std.proofs.Common.{length, map, take, get_or, refl, sym, ap, ap₂, ◌∙◌, arith, inl, inr}
use Rattle.std.specs.Prelude.{◌==◌, ◌&&◌, ◌||◌, not, All, count_by, min, nat_le}
use Rattle.std.specs.List.{flat_map, list_all, range_with_len, enumerate_from}
use Rattle.std.proofs.lemmas.Bool.{and_from, cases_eq, eq-eqb, ne_eqb, le-leb, lt-leb}
use Rattle.std.proofs.lemmas.List.{length-append, length-map, length-take, take-map, take_all}
use Rattle.std.proofs.lemmas.List.Elements.{All-head, All-tail}
use Rattle.std.proofs.lemmas.List.FromFn.{get_or-range_with_len, length-range_with_len}
use Rattle.std.proofs.lemmas.List.Sums.{sum_by-cons, prefix_len_is}
use Rattle.packet_met.specs.Met.{Pair, has_pair, distinct_met, shows, all_shown}
use Rattle.packet_met.specs.laws.CountsAreMet.{some_count}
use Rattle.packet_met.specs.laws.PairLaws.{has_either}
use Rattle.packet_session.specs.Session.{Session, SessionGroup}
use Rattle.stripe_plan.specs.declared.layer.LayerSize.{LayerSize}
use Rattle.stripe_plan.specs.Layers.{count_of, plan_stripes, words_before}
use Rattle.stripe_plan.proofs.CountLemmas.{count_of-le}
use Rattle.command_sample.specs.Arrivals.{arrivals_of_group, arrivals_in, arrivals_of}
use Rattle.command_sample.specs.Showings.{shown_after}
use Rattle.command_sample.specs.laws.ArrivalLaws.{arrivals_many}
use Rattle.command_sample.specs.laws.SessionLaws.{IsLikeAll, sample_layers, layers_needed}
use Rattle.command_sample.proofs.Numbers.{is_in, apart, apart_front, counted}

-- those of so many groups, from one on
abbrev pub arrivals_from : ℕ → ℕ → List Pair
arrivals_from first groups = flat_map arrivals_in (range_with_len first groups)

pub in_group : (group : ℕ) → length (arrivals_in group) ≡ 96
in_group group = length-map arrivals_of_group (λ (n : ℕ). (group, n)) ∙ arrivals_many

in_all : (first groups : ℕ) → length (arrivals_from first groups) ≡ 96 * groups
in_all first zero = refl
in_all first (suc groups) =
    omega (
      arith,
      length-append (arrivals_in first) (arrivals_from (first + 1) groups),
      in_group first,
      in_all (first + 1) groups,
    )

pub arrivals_count : (groups : ℕ) → length (arrivals_of groups) ≡ 96 * groups
arrivals_count groups = in_all 0 groups

abbrev no_pairs : List Pair
no_pairs = []

take_nothing : (k : ℕ) → take k no_pairs ≡ []
take_nothing zero = refl
take_nothing (suc k) = refl

-- the front of two lists on end
take_both : (k : ℕ) (xs ys : List Pair) → take k (xs ++ ys) ≡ take k xs ++ take (k - length xs) ys
take_both k [] ys =
    ap (λ (n : ℕ). take n ys) (let e : k ≡ k - 0 = omega arith in e)
    ∙ sym (ap (λ (l : List Pair). l ++ take (k - 0) ys) (take_nothing k))
take_both zero (x ∷ xs) ys =
    sym (ap (λ (n : ℕ). take n ys) (let e : 0 - length (x ∷ xs) ≡ 0 = omega arith in e))
take_both (suc k) (x ∷ xs) ys =
    ap (λ (l : List Pair). x ∷ l)
    (take_both k xs ys
    ∙ ap (λ (n : ℕ). take k xs ++ take n ys) (let e : k - length xs ≡ suc k - length (x ∷ xs) = omega arith in e))

-- ---- which packets of a group are there

abbrev numbered : ℕ → List ℕ → List Pair
numbered group xs = map (λ n. (group, n)) xs

own_number : (group n : ℕ) (xs : List ℕ) → has_pair (numbered group xs) group n ≡ is_in xs n
own_number group n [] = refl
own_number group n (x ∷ xs) =
    ap₂ (λ (a b : Bool). (a && (x == n)) || b) (eq-eqb group group refl) (own_number group n xs)

other_number : (group other n : ℕ) (xs : List ℕ) → group ≢ other → has_pair (numbered group xs) other n ≡ false
other_number group other n [] differ = refl
other_number group other n (x ∷ xs) differ =
    ap₂ (λ (a b : Bool). (a && (x == n)) || b) (ne_eqb group other differ) (other_number group other n xs differ)

-- the packets of the first of some groups, and those of the others
first_and_later : (first groups k group n : ℕ)
    → has_pair (take k (arrivals_from first (suc groups))) group n
    ≡ (has_pair (numbered first (take k arrivals_of_group)) group n
    || has_pair (take (k - 96) (arrivals_from (first + 1) groups)) group n)
first_and_later first groups k group n =
    let later : List Pair = arrivals_from (first + 1) groups in
    ap (λ (l : List Pair). has_pair l group n) (take_both k (arrivals_in first) later)
    ∙ has_either (take k (arrivals_in first)) (take (k - length (arrivals_in first)) later) group n
    ∙ ap₂ (λ (l : List Pair) (m : ℕ). has_pair l group n || has_pair (take (k - m) later) group n)
    (take-map (λ (x : ℕ). (first, x)) k arrivals_of_group) (in_group first)

none_before : (first groups k group n : ℕ) → group < first
    → has_pair (take k (arrivals_from first groups)) group n ≡ false
none_before first zero k group n low = ap (λ (l : List Pair). has_pair l group n) (take_nothing k)
none_before first (suc groups) k group n low =
    first_and_later first groups k group n
    ∙ ap₂ (λ (a b : Bool). a || b)
    (other_number first group n (take k arrivals_of_group) (λ e. omega (arith, e)))
    (none_before (first + 1) groups (k - 96) group n (omega arith))

or_none : (a : Bool) → (a || false) ≡ a
or_none true = refl
or_none false = refl

there : (first groups k group n : ℕ) → first ≤ group → group < first + groups
    → has_pair (take k (arrivals_from first groups)) group n
    ≡ is_in (take (k - 96 * (group - first)) arrivals_of_group) n
there first zero k group n from to = absurd (omega arith)
there first (suc groups) k group n from to =
    first_and_later first groups k group n
    ∙ elim (cases_eq group first) [
      | inl same ↦
          let none = none_before (first + 1) groups (k - 96) group n (omega (arith, same)) in
          let all : k ≡ k - 96 * (group - first) = omega (arith, same) in
          ap (λ (b : Bool). has_pair (numbered first (take k arrivals_of_group)) group n || b) none
          ∙ or_none (has_pair (numbered first (take k arrivals_of_group)) group n)
          ∙ ap (λ (g : ℕ). has_pair (numbered g (take k arrivals_of_group)) group n) (sym same)
          ∙ own_number group n (take k arrivals_of_group)
          ∙ ap (λ (m : ℕ). is_in (take m arrivals_of_group) n) all
      | inr differ ↦
          let left : (k - 96) - 96 * (group - (first + 1)) ≡ k - 96 * (group - first) = omega (arith, differ, from) in
          ap (λ (b : Bool). b || has_pair (take (k - 96) (arrivals_from (first + 1) groups)) group n)
          (other_number first group n (take k arrivals_of_group) (λ e. differ (sym e)))
          ∙ there (first + 1) groups (k - 96) group n (omega (arith, differ, from)) (omega arith)
          ∙ ap (λ (m : ℕ). is_in (take m arrivals_of_group) n) left
    ]

-- ---- how many they are

count_same : (p q : ℕ → Bool) (xs : List ℕ) → ((i : ℕ) → p i ≡ q i) → count_by p xs ≡ count_by q xs
count_same p q [] same = refl
count_same p q (x ∷ xs) same =
    omega (
      arith,
      ap (λ (b : Bool). cond {A = ℕ} b 1 0) (same x),
      count_same p q xs same,
      sum_by-cons (λ i. cond {A = ℕ} (p i) 1 0) x xs,
      sum_by-cons (λ i. cond {A = ℕ} (q i) 1 0) x xs,
    )

pub arrived : (groups k group : ℕ) → group < groups
    → distinct_met (take k (arrivals_of groups)) group 100 ≡ min (k - 96 * group) 96
arrived groups k group low =
    let past : k - 96 * (group - 0) ≡ k - 96 * group = omega arith in
    let front : List ℕ = take (k - 96 * group) arrivals_of_group in
    count_same (has_pair (take k (arrivals_of groups)) group) (is_in front) (range_with_len 0 100)
    (λ n. there 0 groups k group n (omega arith) (omega arith)
    ∙ ap (λ (m : ℕ). is_in (take m arrivals_of_group) n) past)
    ∙ counted front (apart_front arrivals_of_group (k - 96 * group) apart)
    ∙ length-take (k - 96 * group) arrivals_of_group ∙ ap (λ (m : ℕ). min (k - 96 * group) m) arrivals_many

-- ---- what they show

some : (layer : ℕ) → 0 < count_of sample_layers layer
some layer =
    some_count (words_before sample_layers layer) (words_before sample_layers (layer + 1)) (plan_stripes sample_layers)

pub few : (layer : ℕ) → layer < 3 → count_of sample_layers layer ≤ 95
few layer inside = by layer inside
  where
    d : LayerSize
    d = record { length = 0; need = 0 }

    by : (j : ℕ) → j < 3 → count_of sample_layers j ≤ 95
    by zero low = omega (arith, count_of-le sample_layers 0 d (omega arith) layers_needed)
    by (suc zero) low = omega (arith, count_of-le sample_layers 1 d (omega arith) layers_needed)
    by (suc (suc zero)) low = omega (arith, count_of-le sample_layers 2 d (omega arith) layers_needed)
    by (suc (suc (suc j))) low = absurd (omega arith)

module _ (groups group : ℕ) (low : group < groups) (g : SessionGroup) (is : IsLikeAll g) (layer : ℕ) where
  -- by so many
  shows_by : (k : ℕ)
      → shows (take k (arrivals_of groups)) group g layer
      ≡ nat_le (count_of sample_layers layer) (min (k - 96 * group) 96)
  shows_by k =
      ap₂ (λ (l : List LayerSize) (p : ℕ). nat_le (count_of l layer)
      (distinct_met (take k (arrivals_of groups)) group p)) is.layers is.packets
      ∙ ap (nat_le (count_of sample_layers layer)) (arrived groups k group low)

  pub shown_by_all : layer < 3 → shows (arrivals_of groups) group g layer ≡ true
  shown_by_all inside =
      let many = arrivals_count groups in
      ap (λ (l : List Pair). shows l group g layer)
      (sym (take_all (96 * groups) (arrivals_of groups) (omega (arith, many))))
      ∙ shows_by (96 * groups)
      ∙ le-leb (count_of sample_layers layer) (min (96 * groups - 96 * group) 96)
      (omega (arith, few layer inside, low))

  -- the layer is shown by as many packets of the group as its count says, behind those of the groups before
  pub shown_at : layer < 3
      → shown_after (arrivals_of groups) group g layer ≡ 96 * group + count_of sample_layers layer
  unfolding shown_after
  shown_at inside =
      let c : ℕ = count_of sample_layers layer in
      let at : ℕ = 96 * group + c in
      let n : ℕ = length (arrivals_of groups) + 1 in
      let many = arrivals_count groups in
      let room : at < n = omega (arith, many, few layer inside, low) in
      prefix_len_is (λ k. not (shows (take k (arrivals_of groups)) group g layer)) (range_with_len 0 n) at 0
      (omega (arith, room, length-range_with_len 0 n))
      (λ k below. let place : get_or (range_with_len 0 n) k 0 ≡ k =
      get_or-range_with_len 0 n k 0 (omega (arith, below, room)) ∙ (let e : 0 + k ≡ k = omega arith in e) in
      ap (λ (i : ℕ). not (shows (take i (arrivals_of groups)) group g layer)) place
      ∙ ap not (shows_by k ∙ lt-leb c (min (k - 96 * group) 96) (omega (arith, below, some layer))))
      (λ within. let place : get_or (range_with_len 0 n) at 0 ≡ at =
      get_or-range_with_len 0 n at 0 room ∙ (let e : 0 + at ≡ at = omega arith in e) in
      ap (λ (i : ℕ). not (shows (take i (arrivals_of groups)) group g layer)) place
      ∙ ap not (shows_by at ∙ le-leb c (min (at - 96 * group) 96) (omega (arith, few layer inside))))

-- ---- every layer of every group

each_layer : (p : ℕ → Bool) (k n : ℕ) → ((i : ℕ) → k ≤ i → i < k + n → p i ≡ true)
    → list_all p (range_with_len k n) ≡ true
each_layer p k zero each = refl
each_layer p k (suc n) each =
    and_from (p k) (list_all p (range_with_len (k + 1) n)) (each k (omega arith) (omega arith))
    (each_layer p (k + 1) n (λ i from to. each i (omega (arith, from)) (omega (arith, to))))

each_group : (groups k : ℕ) (gs : List SessionGroup) → All IsLikeAll gs → k + length gs ≤ groups
    → list_all (λ (e : ℕ × SessionGroup). list_all (λ layer. shows (arrivals_of groups) e.0 e.1 layer)
    (range_with_len 0 (length e.1.layers))) (enumerate_from k gs) ≡ true
each_group groups k [] all room = refl
each_group groups k (g ∷ gs) all room =
    let is = All-head IsLikeAll g gs all in
    let three : length g.layers ≡ 3 = ap (λ (l : List LayerSize). length l) is.layers in
    and_from (list_all (shows (arrivals_of groups) k g) (range_with_len 0 (length g.layers)))
    (list_all (λ (e : ℕ × SessionGroup). list_all (λ layer. shows (arrivals_of groups) e.0 e.1 layer)
    (range_with_len 0 (length e.1.layers))) (enumerate_from (k + 1) gs))
    (each_layer (shows (arrivals_of groups) k g) 0 (length g.layers)
    (λ i from to. shown_by_all groups k (omega (arith, room)) g is i (omega (arith, to, three))))
    (each_group groups (k + 1) gs (All-tail IsLikeAll g gs all) (omega (arith, room)))

pub all_are_shown : (s : Session) (groups : ℕ) → All IsLikeAll s.groups → length s.groups ≡ groups
    → all_shown s (arrivals_of groups) ≡ true
all_are_shown s groups alike many = each_group groups 0 s.groups alike (omega (arith, many))
