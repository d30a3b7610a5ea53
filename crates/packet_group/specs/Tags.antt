-- The tags that are kept beside the packets of a group. This project's own.
use Rattle.std.specs.Prelude.{◌≡◌, ℕ, List, Option, None, Some, MatchOption, option_map, slice_index_or}
use Rattle.packet_frame.specs.Frame.{Fields, tag_of, text_before_tag}
use Rattle.packet_frame.specs.View.{fields_with}
use Rattle.packet_frame.specs.declared.format.TheConstants.{FORMAT}
use Rattle.packet_set.specs.Packets.{Packets, slot_at}

-- the tag of a frame, as frames are written today
abbrev pub frame_tag : Fields → List ℕ
frame_tag f = tag_of FORMAT (text_before_tag FORMAT f)

-- the tag of the frame of the packet of this number, where that is kept
abbrev pub tag_at : Packets → ℕ → Option (List ℕ)
tag_at p number = option_map (λ payload. frame_tag (fields_with p.header number payload)) (slot_at p number)

-- the packet of this number is kept, and this is the tag of its frame
abbrev pub IsTagOf : Packets → ℕ → List ℕ → Type 0
IsTagOf p number tag =
    MatchOption (slot_at p number) ⊥ (λ payload. tag ≡ frame_tag (fields_with p.header number payload))

-- each of these tags, by number, is that of the frame of a kept packet; of no packet a tag has to be there
abbrev pub AreTagsOf : Packets → List (Option (List ℕ)) → Type 0
AreTagsOf p tags = (number : ℕ) (tag : List ℕ) → slice_index_or tags number None ≡ Some tag → IsTagOf p number tag
