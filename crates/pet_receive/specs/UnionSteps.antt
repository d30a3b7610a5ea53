-- How many steps a receiver may take that takes in all that another has kept: those of a receiver of any format.
pub use Rattle.packet_receiver.specs.UnionSteps.{steps_after, union_steps}
