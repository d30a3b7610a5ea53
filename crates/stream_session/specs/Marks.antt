-- The marks by which two readings of a stream compare its groups: a length, and the front of a SHA-256 digest
-- (FIPS 180-4). This project's own.
use Rattle.std.specs.Prelude.{ℕ, min, List, length, map, take, replicate, slice_index_or}
use Rattle.sha2.specs.Sha256.{sha256}
use Rattle.priority_file.specs.Priority.{Priorities}
use Rattle.stream_groups.specs.CutGroups.{CutGroup}
use Rattle.stream_groups.specs.Cutting.{cut_groups}
use Rattle.stream_session.specs.declared.mark.GroupMark.{GroupMark}

-- Of a group of these bytes. The length is a word of 32 bits, and stops at the greatest; a stream that is accepted is
-- shorter.
unfoldable pub mark_of : List ℕ → GroupMark
mark_of bytes = record { length = min (length bytes) 4294967295; digest = take 8 (sha256 bytes) }

-- of a group that a reading did not find
abbrev pub no_mark : GroupMark
no_mark = record { length = 0; digest = replicate 8 0 }

-- of these groups
abbrev pub group_marks : List CutGroup → List GroupMark
group_marks groups = map (λ (g : CutGroup). mark_of g.bytes) groups

-- of all groups of a stream, in order
abbrev pub marks_of : Priorities → List ℕ → List GroupMark
marks_of priority stream = group_marks (cut_groups priority stream)

-- of the group at this place
abbrev pub mark_at : List GroupMark → ℕ → GroupMark
mark_at marks group = slice_index_or marks group no_mark
