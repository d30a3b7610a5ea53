-- What the fields of a receiver keep to.
use Rattle.std.specs.Prelude.{◌≡◌, ℕ, ◌^◌, ◌<◌, ◌≤◌, Option, Some}
use Rattle.field_elements.specs.Field.{Coding}
use Rattle.stripe_plan.specs.Sizes.{ArePlanBounds}
use Rattle.packet_frame.specs.Format.{IsFormat}
use Rattle.packet_verdicts.specs.KeptSet.{IsKeptSetBy, cost_kept, told_by}
use Rattle.packet_receiver.specs.Arrivals.{GroupState, ReceiverState, Order, kept_set, state_of, HasKept}

module _ {E : Type 0} (is_element : E → Type 0) (count : ℕ) (c : Coding E) where
  -- what is kept is a kept set, the state stands for some order, and both numbers beside it are those of the set
  pub record IsReceiver (r : ReceiverState E) (told : Option ℕ) (cost : ℕ) : Type 0 where
    pub format : IsFormat r.format
    pub plan : ArePlanBounds r.format.bounds
    pub word : r.format.word ≡ c.width
    pub points : r.format.bounds.packets ≤ count
    pub few : (group : ℕ) (g : GroupState E) → state_of r group ≡ Some g → g.packets.header.table.packets ≤ count
    pub fits : r.limit < 2 ^ 64
    pub set : IsKeptSetBy c.width (kept_set r)
    pub stands : (order : Order) × HasKept is_element c r order
    pub told_is : told ≡ told_by (kept_set r)
    pub cost_is : cost ≡ cost_kept (kept_set r)
