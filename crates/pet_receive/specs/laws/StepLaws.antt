-- Laws of the steps that all kept frames may take: those of a receiver of any format.
pub use Rattle.packet_receiver.specs.laws.StepLaws.{group_steps, steps_more, steps_keep}
