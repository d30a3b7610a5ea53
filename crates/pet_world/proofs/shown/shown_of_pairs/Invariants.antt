use Rattle.std.proofs.Common.{◌≡◌, ◌≤◌, length, take}
use Rattle.std.specs.Prelude.{map, vec_len, vec_capacity}
use Rattle.pet_world.specs.ReceivedSets.{shown_to}
use Rattle.pet_world.proofs.shown.shown_of_pairs.Given as goal

abbrev pub invariant-loop-pair : goal.invariant-loop-pair
invariant-loop-pair l = record {
  items : l.shown.items ≡ shown_to l.receiver (map (λ s. (s.0, s.1)) (take l.pair-index l.pairs));
  few : vec_len l.shown ≤ l.pair-index;
  room : length l.pairs ≤ vec_capacity l.shown;
}
