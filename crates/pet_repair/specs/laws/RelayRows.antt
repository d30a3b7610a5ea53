-- Rows of the rule, computed: six packets of layers that need 2, 3 and 5 of them.
use Rattle.std.proofs.Common.{◌≡◌, ℕ, List, [], ◌∷◌, Option, Some, map, refl}
use Rattle.stripe_plan.specs.Layers.{stripes_from}
use Rattle.stripe_plan.specs.Plan.{plan_from}
use Rattle.packet_session.specs.Session.{Session}
use Rattle.packet_met.specs.Met.{Pair}
use Rattle.pet_repair.specs.Relay.{output_from}

abbrev pub example : Session
example = record {
  number = [];
  groups =
      (record {
        packets = 6;
        layers = (record { length = 46; need = 2 }) ∷ (record { length = 7; need = 3 }) ∷
            (record { length = 15; need = 5 }) ∷ [];
        message = [];
      }) ∷ [];
}

abbrev pub of_group : List ℕ → List (Option Pair)
of_group numbers = map (λ n. Some (0, n)) numbers

abbrev pub pairs : List ℕ → List Pair
pairs numbers = map (λ n. (0, n)) numbers

-- the last layer is shown at the arrival of 1, and 2 is sent with it
pub row_whole : output_from example [] (of_group (3 ∷ 3 ∷ 0 ∷ 4 ∷ 5 ∷ 1 ∷ 2 ∷ [])) ≡ pairs (3 ∷ 0 ∷ 4 ∷ 5 ∷ 1 ∷ 2 ∷ [])
unfolding output_from stripes_from plan_from
row_whole = refl

-- so it stands before the arrival of 2
pub row_first : output_from example [] (of_group (3 ∷ 3 ∷ 0 ∷ 4 ∷ 5 ∷ 1 ∷ [])) ≡ pairs (3 ∷ 0 ∷ 4 ∷ 5 ∷ 1 ∷ 2 ∷ [])
unfolding output_from stripes_from plan_from
row_first = refl

-- and not before
pub row_before : output_from example [] (of_group (3 ∷ 3 ∷ 0 ∷ 4 ∷ 5 ∷ [])) ≡ pairs (3 ∷ 0 ∷ 4 ∷ 5 ∷ [])
unfolding output_from stripes_from plan_from
row_before = refl

pub row_two : output_from example [] (of_group (5 ∷ 5 ∷ 5 ∷ 2 ∷ [])) ≡ pairs (5 ∷ 2 ∷ [])
unfolding output_from stripes_from plan_from
row_two = refl
