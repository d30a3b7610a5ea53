use Rattle.std.proofs.Common.{◌≤◌, ◌<◌, ◌-◌, ◌≡◌, length}
use Rattle.outside_disk.specs.Disk.{IfTold, Between, Reads}
use Rattle.store_journal.specs.inside.Turns.{SoFar}
use Rattle.store_journal.specs.Opening.{Reached}
use Rattle.store_journal.proofs.reading.read_entries.Given as goal

abbrev pub invariant-gates : goal.invariant-gates
invariant-gates g l = record {
  within : l.gate < l.size;
  size : IfTold (g.D.Disk.seen l.disk) (λ d. length d.bytes ≡ l.size);
  so_far : IfTold (g.D.Disk.seen l.initial.disk)
      (λ d. SoFar g.R.Receive.keep l.gate (g.R.Receive.set l.initial.receiver) (g.R.Receive.set l.receiver) d.bytes);
  reached : Reached g.R.Receive.keep g.R.Receive.cost (g.R.Receive.set l.initial.receiver) l.gate
      (g.R.Receive.set l.receiver) l.initial.steps l.steps;
  same : Between Reads (g.D.Disk.seen l.initial.disk) (g.D.Disk.seen l.disk);
  later : g.D.Disk.faults l.initial.disk ≤ g.D.Disk.faults l.disk;
}

abbrev pub decreases-gates : goal.decreases-gates
decreases-gates g l = l.size - l.gate
