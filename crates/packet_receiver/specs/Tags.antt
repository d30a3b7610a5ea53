-- The tags of the packets that a receiver keeps. This project's own.
use Rattle.std.specs.Prelude.{ℕ, List, Option, option_and_then}
use Rattle.packet_verdicts.specs.KeptSet.{KeptSet, open_group}
-- which tags they are is defined with the group
pub use Rattle.packet_group.specs.Tags.{frame_tag, tag_at}

-- the tag of a kept packet's frame, as frames are written today, or none where the packet is not kept
abbrev pub kept_tag : KeptSet → ℕ → ℕ → Option (List ℕ)
kept_tag set group number = option_and_then (λ p. tag_at p number) (open_group set group)
