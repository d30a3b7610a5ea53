use Rattle.std.proofs.Common.{◌≡◌, ◌+◌, ◌≤◌, List, ℕ, length}
use Rattle.std.specs.Io.KnownBytes.{prepend_known}
use Rattle.pet_base.specs.declared.limits.TheConstants.{MAX_STREAM}
use Rattle.outside_files.specs.Portions.{IsReadOf, room_left}
use Rattle.command_send.specs.inside.Second.{HasReached, OnlyPasses, cost_left}
use Rattle.command_send.specs.inside.Job.{job_of, lent}
use Rattle.pet_base.specs.Lent.{AreSame}
use Rattle.command_send.proofs.second.read_again.Given as goal

abbrev pub invariant-loop-count : goal.invariant-loop-count
invariant-loop-count g l = record {
  stream : List ℕ;
  read : IsReadOf MAX_STREAM l.portions (length stream);
  rest : (lent l.initial.outside).place.rest ≡ prepend_known stream (lent l.outside).place.rest;
  stands : HasReached (job_of g.F.Field.coding l.job) stream l.pass.change l.pass.groups (lent l.initial.outside) (lent l.outside);
  others : OnlyPasses (lent l.initial.outside) (lent l.outside);
  calm_place : (lent l.outside).place.faults ≡ (lent l.initial.outside).place.faults;
  calm_link : (lent l.outside).link.faults ≡ (lent l.initial.outside).link.faults;
  same : AreSame l.initial.outside l.outside;
  out : l.outside.out.now ≡ l.initial.outside.out.now;
  left : l.outside.steps.now + cost_left l.job.found.source.tables.items l.pass.groups.sent
      ≤ l.initial.outside.steps.now + cost_left l.job.found.source.tables.items l.initial.pass.groups.sent;
}

abbrev pub decreases-loop-count : goal.decreases-loop-count
decreases-loop-count g l = room_left l.portions
