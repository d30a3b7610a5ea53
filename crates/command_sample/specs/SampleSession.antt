-- The session of `sample`, and the video of all its layers. This project's own.
use Rattle.std.specs.Prelude.{ℕ, List, length, map}
use Rattle.std.specs.List.{flat_map, range_with_len}
use Rattle.packet_session.specs.Session.{Session, SessionGroup, bytes_of_layer}
use Rattle.reassemble.specs.Video.{group_video}
use Rattle.stream_sample.specs.SampleStream.{sample_text}
use Rattle.stream_session.specs.Accepted.{session_of}
use Rattle.command_sample.specs.SamplePriority.{sample_priority}

-- that of the stream that is made of this seed, with so many groups
abbrev pub sample_session : ℕ → ℕ → Session
sample_session seed groups = session_of sample_priority (sample_text seed groups)

-- the video of a group of which all layers are shown
abbrev pub whole_group_video : SessionGroup → List ℕ
whole_group_video g = group_video (map (bytes_of_layer 2 g.layers g.message) (range_with_len 0 (length g.layers)))

-- those of all groups, in order
unfoldable pub whole_session_video : Session → List ℕ
whole_session_video s = flat_map whole_group_video s.groups
