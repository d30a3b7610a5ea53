use Rattle.std.proofs.Common.{◌≡◌, ℕ, ◌+◌, ◌≤◌, List}
use Rattle.outside_routes.specs.Sending.{Routes, OnlyGrows}
use Rattle.stream_groups.specs.Cutting.{pieces_left}
use Rattle.command_send.specs.inside.Second.{Knows, HasGone, cost_left}
use Rattle.command_send.specs.inside.Job.{job_of, lent}
use Rattle.pet_base.specs.Lent.{AreSame}
use Rattle.command_send.proofs.second.send_ended.Given as goal

abbrev pub invariant-loop-group : goal.invariant-loop-group
invariant-loop-group g l = record {
  known : Knows l.groups.cutter l.job.found.source.priority;
  gone : (stream : List ℕ) (first : Routes)
      → HasGone (job_of g.F.Field.coding l.job) stream l.initial.groups first (lent l.initial.outside)
      → HasGone (job_of g.F.Field.coding l.job) stream l.groups first (lent l.outside);
  others : OnlyGrows (lent l.initial.outside) (lent l.outside);
  calm_place : (lent l.outside).place.faults ≡ (lent l.initial.outside).place.faults;
  calm_link : (lent l.outside).link.faults ≡ (lent l.initial.outside).link.faults;
  same : AreSame l.initial.outside l.outside;
  out : l.outside.out.now ≡ l.initial.outside.out.now;
  left : l.outside.steps.now + cost_left l.job.found.source.tables.items l.groups.sent
      ≤ l.initial.outside.steps.now + cost_left l.job.found.source.tables.items l.initial.groups.sent;
}

abbrev pub decreases-loop-group : goal.decreases-loop-group
decreases-loop-group g l = pieces_left l.groups.cutter
