-- The layers that a kept set shows, and when it shows all of a session: those of a receiver of any format.
pub use Rattle.packet_receiver.specs.ShownBytes.{IsShownIn, IsShownBytes, Agrees, shown_in, IsShown, shown_in_all}
pub use Rattle.packet_receiver.specs.ShownBytes.{groups_told, IsComplete}
