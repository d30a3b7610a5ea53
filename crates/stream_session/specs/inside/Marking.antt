-- Where a pass stands that keeps the tables and the marks of a stream's groups as they end, and what it answers at the
-- end. This project's own.
use Rattle.std.specs.Prelude.{◌≡◌, ℕ, List, map}
use Rattle.sha2.specs.Hashers.{Holds256}
use Rattle.priority_file.specs.Priority.{Priorities}
use Rattle.packet_frame.specs.declared.format.Format.{Format}
use Rattle.pet_base.specs.declared.limits.TheConstants.{MAX_SESSION}
use Rattle.layer_split.specs.Layers.{Cut}
use Rattle.stream_groups.specs.declared.groups.GroupCutter.{GroupCutter}
use Rattle.stream_groups.specs.CutGroups.{CutGroup}
use Rattle.stream_groups.specs.Cutting.{HasCut}
use Rattle.stream_session.specs.declared.marking.KeptGroups.{KeptGroups}
use Rattle.stream_session.specs.declared.marking.MarkedPass.{MarkedPass}
use Rattle.stream_session.specs.declared.marking.MarkedPlan.{MarkedPlan}
use Rattle.stream_session.specs.Marks.{group_marks, marks_of}
use Rattle.stream_session.specs.Number.{hashed}
use Rattle.stream_session.specs.Passing.{IsPlanIn}
use Rattle.stream_session.specs.Planning.{HasTables}

-- the cuts of these groups
abbrev pub cuts_in_groups : List CutGroup → List Cut
cuts_in_groups groups = map (λ (g : CutGroup). g.cut) groups

-- these are the tables and the marks of the groups
pub record AreKept (kept : KeptGroups) (priority : Priorities) (groups : List CutGroup) : Type 0 where
  pub has_tables : HasTables kept.tables priority (cuts_in_groups groups)
  pub has_marks : kept.marks.items ≡ group_marks groups

-- the cutter has read the stream, and these are the tables and the marks of the groups that it gave
pub record HasKept (cutter : GroupCutter) (kept : KeptGroups) (priority : Priorities) (stream : List ℕ) : Type 0 where
  pub given : List CutGroup
  pub cut : HasCut cutter priority stream given
  pub are_kept : AreKept kept priority given

-- The pass under this priority, of a priority file of these bytes, has read the stream: its groups as they ended, and
-- all
-- bytes are hashed.
pub record HasMarked (marked : MarkedPass) (priority : Priorities) (file stream : List ℕ) : Type 0 where
  pub has_kept : HasKept marked.cutter marked.kept priority stream
  pub has_hashed : Holds256 marked.hasher (hashed file stream)

-- the session that the stream is in a format, and the marks of all its groups
pub record IsMarkedPlanOf (t : Format) (marked : MarkedPlan) (priority : Priorities) (file stream : List ℕ) : Type 0 where
  pub plan : IsPlanIn t MAX_SESSION marked.plan priority file stream
  pub marks : marked.marks.items ≡ marks_of priority stream
