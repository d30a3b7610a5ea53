use Rattle.std.proofs.Common.{◌≡◌, ℕ, ◌<◌, ◌≤◌}
use Rattle.stream_session.specs.Marks.{mark_at, no_mark}
use Rattle.command_send.proofs.second.first_lost.Given as goal

-- no group so far was lost
abbrev pub invariant-loop-group : goal.invariant-loop-group
invariant-loop-group g l = (k : ℕ) → l.from ≤ k → k < l.group → mark_at l.job.found.marks.items k ≡ no_mark
