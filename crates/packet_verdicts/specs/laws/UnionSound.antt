-- Laws of the union of two kept sets, for callers: what it keeps, how much that is, and that it is a kept set.
use Rattle.std.specs.Prelude.{is_some, is_none, count_by, option_and_then, filter}
use Rattle.std.proofs.Common.{◌≡◌, ℕ, ◌+◌, cond, Bool, true, false, ◌&&◌, List, [], ◌∷◌, zero, suc, length, get_or}
use Rattle.std.proofs.Common.{Option, None, Some, sum_by, refl, sym, ap, ◌∙◌, arith}
use Rattle.std.specs.List.{range_with_len}
use Rattle.std.specs.Option.{option_or}
use Rattle.std.proofs.lemmas.List.Sums.{sum_by-cons, length-filter}
use Rattle.packet_set.specs.Packets.{Packets, slot_at, count_held, count_in}
use Rattle.packet_verdicts.specs.KeptSet.{KeptSet, open_group, payload_of, count_kept, kept_in_all, cost_in, cost_kept}
use Rattle.packet_verdicts.specs.Union.{join_slots, join_group, union, new_groups, is_new, new_numbers}
use Rattle.packet_verdicts.specs.laws.EntryLaws.{weight}
use Rattle.packet_verdicts.specs.laws.JoinedGroups.{Rises, slot_join, join_open, found_join, sum_join}

-- ---- what the union keeps

pub union_open : (a b : KeptSet) (group : ℕ) → Rises b.groups
    → open_group (union a b) group ≡ join_open (open_group a group) (open_group b group)
union_open a b group s = found_join a.groups b.groups group s

pub join_payload : (o u : Option Packets) (number : ℕ)
    → option_and_then (λ p. slot_at p number) (join_open o u)
    ≡ option_or (option_and_then (λ p. slot_at p number) o) (option_and_then (λ p. slot_at p number) u)
join_payload None None number = refl
join_payload None (Some q) number = refl
join_payload (Some p) None number = or_none (slot_at p number)
  where
    or_none : (o : Option (List ℕ)) → o ≡ option_or o None
    or_none None = refl
    or_none (Some x) = refl
join_payload (Some p) (Some q) number = slot_join p.slots q.slots number

pub union_payload : (a b : KeptSet) (group number : ℕ) → Rises b.groups
    → payload_of (union a b) group number ≡ option_or (payload_of a group number) (payload_of b group number)
union_payload a b group number s =
    ap (option_and_then (λ p. slot_at p number)) (union_open a b group s)
    ∙ join_payload (open_group a group) (open_group b group) number

-- ---- how many packets are kept of a joined group

abbrev one_where : {A : Type 0} → (A → Bool) → A → ℕ
one_where t x = cond (t x) 1 0

count_shift : (t : ℕ → Bool) (n a : ℕ)
    → count_by t (range_with_len (a + 1) n) ≡ count_by (λ i. t (suc i)) (range_with_len a n)
count_shift t zero a = refl
count_shift t (suc n) a =
    let e : a + 1 ≡ suc a = omega arith in
    omega (
      arith,
      sum_by-cons (one_where t) (a + 1) (range_with_len (a + 1 + 1) n),
      sum_by-cons (one_where (λ i. t (suc i))) a (range_with_len (a + 1) n),
      count_shift t n (a + 1),
      ap (one_where t) e,
    )

count_first : (t : ℕ → Bool) (n : ℕ)
    → count_by t (range_with_len 0 (suc n)) ≡ one_where t 0 + count_by (λ i. t (suc i)) (range_with_len 0 n)
count_first t n = omega (arith, sum_by-cons (one_where t) 0 (range_with_len (0 + 1) n), count_shift t n 0)

one_more : {A : Type 0} (x y : Option A)
    → one_where is_some (option_or x y) ≡ one_where is_some x + cond (is_some y && is_none x) 1 0
one_more None None = refl
one_more None (Some y) = refl
one_more (Some x) None = refl
one_more (Some x) (Some y) = refl

module _ {A : Type 0} where
  count_places : (w : Option A → Bool) (ys : List (Option A))
      → count_by (λ i. w (get_or ys i None)) (range_with_len 0 (length ys)) ≡ count_by w ys
  count_places w [] = refl
  count_places w (y ∷ ys) =
      omega (
        arith,
        count_first (λ i. w (get_or (y ∷ ys) i None)) (length ys),
        sum_by-cons (one_where w) y ys,
        count_places w ys,
      )

  count_and : (ys : List (Option A)) → count_by (λ y. is_some y && true) ys ≡ count_by is_some ys
  count_and [] = refl
  count_and (y ∷ ys) =
      omega (
        arith,
        sum_by-cons (one_where (λ (t : Option A). is_some t && true)) y ys,
        sum_by-cons (one_where (λ (t : Option A). is_some t)) y ys,
        same y,
        count_and ys,
      )
    where
      same : (t : Option A)
          → one_where (λ (u : Option A). is_some u && true) t ≡ one_where (λ (u : Option A). is_some u) t
      same None = refl
      same (Some x) = refl

abbrev is_added : List (Option (List ℕ)) → List (Option (List ℕ)) → ℕ → Bool
is_added xs ys i = is_some (get_or ys i None) && is_none (get_or xs i None)

count_joined : (xs ys : List (Option (List ℕ)))
    → count_held (join_slots xs ys) ≡ count_held xs + count_by (is_added xs ys) (range_with_len 0 (length ys))
unfolding join_slots
count_joined [] ys = omega (arith, count_places (λ (y : Option (List ℕ)). is_some y && true) ys, count_and ys)
count_joined (x ∷ xs) [] = omega arith
count_joined (x ∷ xs) (y ∷ ys) =
    let one : Option (List ℕ) → ℕ = λ t. cond (is_some t) 1 0 in
    omega (
      arith,
      sum_by-cons one (option_or x y) (join_slots xs ys),
      sum_by-cons one x xs,
      count_first (is_added (x ∷ xs) (y ∷ ys)) (length ys),
      one_more x y,
      count_joined xs ys,
    )

pub count_join : (o : Option Packets) (q : Packets)
    → count_in (join_group o q) ≡ weight count_in o + length (new_numbers o q)
count_join None q =
    omega (arith, count_places is_some q.slots, length-filter (is_new None q) (range_with_len 0 (length q.slots)))
count_join (Some p) q =
    omega (arith, count_joined p.slots q.slots, length-filter (is_new (Some p) q) (range_with_len 0 (length q.slots)))

-- how many are added to a group, where it is open there
abbrev pub added_to : Option Packets → Option Packets → ℕ
added_to mine None = 0
added_to mine (Some theirs) = length (new_numbers mine theirs)

pub union_count : (a b : KeptSet) (group : ℕ) → Rises b.groups
    → count_kept (union a b) group ≡ count_kept a group + added_to (open_group a group) (open_group b group)
union_count a b group s = ap (weight count_in) (union_open a b group s) ∙ by (open_group a group) (open_group b group)
  where
    by : (o u : Option Packets) → weight count_in (join_open o u) ≡ weight count_in o + added_to o u
    by o None = omega arith
    by o (Some q) = count_join o q

pub union_kept : (a b : KeptSet) → Rises a.groups → Rises b.groups
    → kept_in_all (union a b) ≡ kept_in_all a + sum_by (λ e. length (new_numbers (open_group a e.0) e.1)) b.groups
union_kept a b s t = sum_join count_in (λ o q. length (new_numbers o q)) count_join a.groups b.groups s t

-- ---- what the union costs

cost_join : (o : Option Packets) (q : Packets)
    → cost_in (join_group o q) ≡ weight cost_in o + cond (is_none o) (cost_in q) 0
cost_join None q = omega arith
cost_join (Some p) q = omega arith

sum_filter : {A : Type 0} (p : A → Bool) (f : A → ℕ) (xs : List A)
    → sum_by f (filter p xs) ≡ sum_by (λ x. cond (p x) (f x) 0) xs
sum_filter p f [] = refl
sum_filter p f (x ∷ xs) = by (p x) (sum_filter p f xs) ∙ sym (sum_by-cons (λ t. cond (p t) (f t) 0) x xs)
  where
    by : (b : Bool) → sum_by f (filter p xs) ≡ sum_by (λ t. cond (p t) (f t) 0) xs
        → sum_by f (cond b (x ∷ filter p xs) (filter p xs)) ≡ cond b (f x) 0 + sum_by (λ t. cond (p t) (f t) 0) xs
    by true ih = omega (arith, sum_by-cons f x (filter p xs), ih)
    by false ih = omega (arith, ih)

pub union_cost : (a b : KeptSet) → Rises a.groups → Rises b.groups
    → cost_kept (union a b) ≡ cost_kept a + sum_by (λ e. cost_in e.1) (new_groups a b)
union_cost a b s t =
    sum_join cost_in (λ o q. cond (is_none o) (cost_in q) 0) cost_join a.groups b.groups s t
    ∙ ap (λ n. cost_kept a + n)
    (sym (sum_filter (λ (e : ℕ × Packets). is_none (open_group a e.0)) (λ (e : ℕ × Packets). cost_in e.1) b.groups))
