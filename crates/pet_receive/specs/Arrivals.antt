-- The order in which kept frames arrived, and what a receiver holds after it: those of a receiver of any format.
pub use Rattle.packet_receiver.specs.Arrivals.{Order, numbers_of, ReceiverState, kept_set, state_of, HasKept}
pub use Rattle.packet_receiver.specs.Arrivals.{GroupState, layers_of, stripe_lengths, points_of, HoldsAfter}
