-- The tags of the packets that a receiver keeps: those of a receiver of any format.
pub use Rattle.packet_receiver.specs.Tags.{frame_tag, tag_at, kept_tag}
