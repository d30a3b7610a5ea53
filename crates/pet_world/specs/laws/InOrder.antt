-- What an event shows stands by group, then layer, and no layer stands there twice.
use Rattle.std.proofs.Common.{◌≢◌, ℕ, zero, suc, ◌+◌, ◌<◌, Bool, true, false, cond, List, [], ◌∷◌, ◌++◌}
use Rattle.std.proofs.Common.{All, length, map}
use Rattle.std.proofs.Common.{refl, sym, ap, subst, arith, inl, inr}
use Rattle.std.specs.Prelude.{filter, flat_map, not, ◌&&◌}
use Rattle.std.specs.List.{enumerate_from, range_with_len}
use Rattle.std.proofs.lemmas.List.{map-append}
use Rattle.std.proofs.lemmas.List.Elements.{All-append, All-map, All-filter, All-head, All-tail}
use Rattle.std.proofs.lemmas.List.FromFn.{length-range_with_len, get_or-range_with_len}
use Rattle.packet_session.specs.Session.{Session, SessionGroup}
use Rattle.packet_met.specs.Met.{Pair, shows, newly_shown_by}
use Rattle.pet_base.specs.declared.event.Event.{Event}
use Rattle.pet_base.specs.declared.event.Shown.{Shown}
use Rattle.pet_world.specs.ReceivedSets.{Sets, set_of, receiver_of, met_then, shown_to, shown_by_event, IsBefore}
use Rattle.pet_world.specs.ReceivedSets.{AreInOrder}
use Rattle.pet_world.specs.laws.ShownOnce.{flat_all}

-- what stands before another is another
pub before_other : (x y : Shown) → IsBefore x y → x ≢ y
before_other x y (inl lower) same = omega (arith, lower, ap (λ (z : Shown). z.group) same)
before_other x y (inr here) same = omega (arith, here.1, ap (λ (z : Shown). z.layer) same)

on_end : (xs ys : List Shown) → AreInOrder xs → AreInOrder ys → All (λ x. All (IsBefore x) ys) xs
    → AreInOrder (xs ++ ys)
unfolding AreInOrder
on_end [] ys first second apart = second
on_end (x ∷ xs) ys first second apart =
    let each = λ (z : Shown). All (IsBefore z) ys in (
      All-append (IsBefore x) xs ys first.0 (All-head each x xs apart),
      on_end xs ys first.1 second (All-tail each x xs apart),
    )

module _ (receiver : ℕ) where
  abbrev named : ℕ × ℕ → Shown
  named p = record { receiver = receiver; group = p.0; layer = p.1 }

  abbrev of_group : ℕ → List ℕ → List Shown
  of_group group layers = shown_to receiver (map (λ layer. (group, layer)) layers)

  -- the layers of one group
  group_in_order : (group : ℕ) (p : ℕ → Bool) (first many : ℕ)
      → AreInOrder (of_group group (filter p (range_with_len first many)))
  unfolding AreInOrder
  group_in_order group p first zero = tt
  group_in_order group p first (suc many) = by (p first) (group_in_order group p (first + 1) many)
    where
      rest : List ℕ
      rest = filter p (range_with_len (first + 1) many)

      above : All (λ layer. first < layer) rest
      above =
          All-filter p (λ layer. first < layer) (range_with_len (first + 1) many)
          (λ k d lt. omega (
            arith,
            lt,
            length-range_with_len (first + 1) many,
            get_or-range_with_len (first + 1) many k d (omega (arith, lt, length-range_with_len (first + 1) many)),
          ))

      by : (b : Bool) → AreInOrder (of_group group rest) → AreInOrder (of_group group (cond b (first ∷ rest) rest))
      by false later = later
      by true later =
          let is_before = IsBefore (named (group, first)) in (
            All-map is_before named (map (λ layer. (group, layer)) rest)
                (All-map (λ (q : ℕ × ℕ). is_before (named q)) (λ (layer : ℕ). (group, layer)) rest
                (λ k d lt. inr (refl, above k d lt))),
            later,
          )

  -- those of all groups from one on
  groups_in_order : (before now : List Pair) (groups : List SessionGroup) (k : ℕ)
      → AreInOrder (shown_to receiver
      (flat_map (λ e. map (λ layer. (e.0, layer)) (newly_shown_by before now e.0 e.1)) (enumerate_from k groups)))
  unfolding AreInOrder
  groups_in_order before now [] k = tt
  groups_in_order before now (g ∷ groups) k =
      let f = λ (e : ℕ × SessionGroup). map (λ (layer : ℕ). (e.0, layer)) (newly_shown_by before now e.0 e.1) in
      let layers = newly_shown_by before now k g in
      let later = flat_map f (enumerate_from (k + 1) groups) in
      let above : All (λ q. k < q.0) later =
      flat_all (λ (q : ℕ × ℕ). k < q.0) f groups (k + 1)
      (λ i n x at is.
      let lower : k < n = omega (arith, at) in
      All-map (λ (q : ℕ × ℕ). k < q.0) (λ (layer : ℕ). (n, layer)) (newly_shown_by before now n x) (λ j d lt. lower)) in
      let shown_above : All (λ y. k < y.group) (shown_to receiver later) =
      All-map (λ (y : Shown). k < y.group) named later above in
      let each = λ (x : Shown). All (IsBefore x) (shown_to receiver later) in
      let apart : All each (of_group k layers) =
      All-map each named (map (λ layer. (k, layer)) layers)
      (All-map (λ (q : ℕ × ℕ). each (named q)) (λ (layer : ℕ). (k, layer)) layers
      (λ i d lt j e lower. inl (shown_above j e lower))) in
      subst AreInOrder (sym (map-append named (map (λ layer. (k, layer)) layers) later))
      (on_end (of_group k layers) (shown_to receiver later)
      (group_in_order k (λ layer. shows now k g layer && not (shows before k g layer)) 0 (length g.layers))
      (groups_in_order before now groups (k + 1)) apart)

-- what an event shows
pub shown_in_order : (s : Session) (sets : Sets) (event : Event) → AreInOrder (shown_by_event s sets event)
unfolding shown_by_event
shown_in_order s sets event =
    groups_in_order (receiver_of event) (set_of sets (receiver_of event)) (met_then sets event) s.groups 0
