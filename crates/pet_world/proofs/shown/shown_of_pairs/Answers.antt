use Rattle.std.proofs.Common.{◌≡◌, ℕ, ◌+◌, ◌<◌, List, [], ◌∷◌, ◌++◌, length, map, take, get_or, sym, ap, ◌∙◌, arith}
use Rattle.std.proofs.lemmas.List.{take_more, map-append, take_all}
use Rattle.pet_base.specs.declared.event.Shown.{Shown}
use Rattle.pet_world.specs.ReceivedSets.{shown_to}
use Rattle.pet_world.proofs.shown.shown_of_pairs.Goals as goal

abbrev same : ℕ × ℕ → ℕ × ℕ
same s = (s.0, s.1)

pair_more : (receiver : ℕ) (pairs : List (ℕ × ℕ)) (i : ℕ) (d : ℕ × ℕ) (old new : List Shown) → i < length pairs
    → old ≡ shown_to receiver (map same (take i pairs))
    → new ≡ old ++ record { receiver = receiver; group = (get_or pairs i d).0; layer = (get_or pairs i d).1 } ∷ []
    → new ≡ shown_to receiver (map same (take (i + 1) pairs))
pair_more receiver pairs i d old new lt so next =
    let named : ℕ × ℕ → Shown = λ q. record { receiver = receiver; group = q.0; layer = q.1 } in
    let one : List (ℕ × ℕ) = get_or pairs i d ∷ [] in
    next ∙ ap (λ (t : List Shown). t
    ++ record { receiver = receiver; group = (get_or pairs i d).0; layer = (get_or pairs i d).1 } ∷ []) so
    ∙ sym (map-append named (map same (take i pairs)) (map same one))
    ∙ ap (map named) (sym (map-append same (take i pairs) one))
    ∙ ap (λ (l : List (ℕ × ℕ)). map named (map same l)) (sym (take_more pairs i d lt))

pub loop-pair-preserved : goal.loop-pair-preserved
loop-pair-preserved c = record {
  items =
      pair_more c.args.receiver c.args.pairs.now c.loop-pair.pair-index
      (0, 0) c.loop-pair.shown.items c.push_reserved.new.self.items c.loop-pair-test.true c.loop-pair.invariant.items
      c.push_reserved.ensures.items;
  few = omega (arith, c.push_reserved.ensures.len, c.loop-pair.invariant.few);
  room = omega (arith, c.push_reserved.ensures.capacity, c.loop-pair.invariant.room);
}

pub returns : goal.returns
returns c =
    let all : take c.loop-pair.pair-index c.args.pairs.now ≡ c.args.pairs.now =
    take_all c.loop-pair.pair-index c.args.pairs.now (omega (arith, c.loop-pair-test.false)) in
    c.loop-pair.invariant.items ∙ ap (λ (l : List (ℕ × ℕ)). shown_to c.args.receiver (map same l)) all
