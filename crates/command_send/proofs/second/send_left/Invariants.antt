use Rattle.std.proofs.Common.{◌≡◌, ◌+◌, ◌≤◌, ◌++◌, List, length, take}
use Rattle.outside_routes.specs.Sending.{Routes, OnlyGrows}
use Rattle.stream_groups.specs.CutGroups.{CutGroup}
use Rattle.command_send.specs.inside.Sending.{HasSentSome}
use Rattle.command_send.specs.inside.Second.{cost_left}
use Rattle.command_send.specs.inside.Job.{job_of, lent}
use Rattle.pet_base.specs.Lent.{AreSame}
use Rattle.command_send.proofs.second.send_left.Given as goal

abbrev pub invariant-loop-group : goal.invariant-loop-group
invariant-loop-group g l = record {
  count : l.number ≡ l.from + l.group-index;
  sent : (first : Routes) (before : List CutGroup) → l.from ≡ length before
      → HasSentSome (job_of g.F.Field.coding l.job) before first (lent l.initial.outside)
      → HasSentSome (job_of g.F.Field.coding l.job)
      (before ++ take l.group-index l.groups) first (lent l.outside);
  others : OnlyGrows (lent l.initial.outside) (lent l.outside);
  calm_place : (lent l.outside).place.faults ≡ (lent l.initial.outside).place.faults;
  calm_link : (lent l.outside).link.faults ≡ (lent l.initial.outside).link.faults;
  same : AreSame l.initial.outside l.outside;
  out : l.outside.out.now ≡ l.initial.outside.out.now;
  left : l.outside.steps.now + cost_left l.job.found.source.tables.items l.number
      ≤ l.initial.outside.steps.now + cost_left l.job.found.source.tables.items l.from;
}
