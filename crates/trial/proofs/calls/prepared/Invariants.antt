use Rattle.std.proofs.Common.{◌≡◌, ◌<◌, length, All}
use Rattle.trial.proofs.calls.prepared.Given as goal

abbrev pub invariant-loop-i : goal.invariant-loop-i
invariant-loop-i l = record {
  long : length l.all.items ≡ l.i;
  elements : All (λ p. p.factor < 65536) l.all.items;
}
