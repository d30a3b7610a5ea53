-- One event as each of its kinds is carried out: what it leaves and shows, in order, and what it costs.
use Rattle.std.specs.Prelude.{ℕ, ◌+◌, ◌≤◌, List}
use Rattle.field_elements.specs.Field.{Coding}
use Rattle.pet_base.specs.declared.event.Event.{Event}
use Rattle.pet_base.specs.declared.event.Shown.{Shown}
use Rattle.pet_world.specs.ReceivedSets.{AreInOrder}
use Rattle.pet_world.specs.World.{WorldState, IsCarriedOut, event_steps}

pub record IsDone {E : Type 0} (c : Coding E) (w : WorldState E) (event : Event) (shown : List Shown)
    (v : WorldState E) (before past : ℕ) : Type 0 where
  pub step : IsCarriedOut c w event shown v
  pub order : AreInOrder shown
  pub cost : past ≤ before + event_steps w event
