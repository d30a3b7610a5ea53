-- What callers know of the marks of a stream: how many there are, and what the mark of a group that was found tells.
-- This
-- project's own.
use Rattle.std.proofs.Common.{◌≡◌, ◌≢◌, ℕ, ◌<◌, ◌^◌, List, length, ap, arith}
use Rattle.std.proofs.lemmas.List.{length-map}
use Rattle.mpeg_scan.specs.Pieces.{pieces_of}
use Rattle.priority_file.specs.Priority.{Priorities}
use Rattle.layer_split.specs.Groups.{groups_of}
use Rattle.stream_groups.specs.CutGroups.{CutGroup}
use Rattle.stream_groups.specs.Cutting.{cut_group, cut_groups}
use Rattle.stream_session.specs.Tables.{tables_of, cuts_of_stream}
use Rattle.stream_session.specs.laws.SessionLaws.{length-tables}
use Rattle.stream_session.specs.Marks.{mark_of, no_mark, marks_of}
use Rattle.stream_session.specs.declared.mark.GroupMark.{GroupMark}

-- as many as tables
pub length-marks : (priority : Priorities) (stream : List ℕ)
    → length (marks_of priority stream) ≡ length (tables_of priority (cuts_of_stream priority stream))
length-marks priority stream =
    let marks = length-map (cut_groups priority stream) (λ (g : CutGroup). mark_of g.bytes) in
    let groups = length-map (groups_of (pieces_of stream)) (cut_group priority stream) in
    let tables = length-tables priority (groups_of (pieces_of stream)) in
    omega (arith, marks, groups, tables)

-- the length is that of the group
pub mark_length : (bytes : List ℕ) → length bytes < 2 ^ 32 → (mark_of bytes).length ≡ length bytes
unfolding mark_of
mark_length bytes few = omega (arith, few)

some_length : (bytes : List ℕ) → 0 < length bytes → 0 < (mark_of bytes).length
unfolding mark_of
some_length bytes some = omega (arith, some)

-- a group that has bytes is told from one that was not found
pub mark_found : (bytes : List ℕ) → 0 < length bytes → mark_of bytes ≢ no_mark
mark_found bytes some e =
    let same : (mark_of bytes).length ≡ 0 = ap (λ (m : GroupMark). m.length) e in
    omega (arith, same, some_length bytes some)
