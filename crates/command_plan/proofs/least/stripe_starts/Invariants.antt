use Rattle.std.proofs.Common.{◌≡◌, take}
use Rattle.command_plan.specs.Least.{lengths_in, listed_words, starts_by}
use Rattle.command_plan.proofs.least.stripe_starts.Given as goal

abbrev pub invariant-loop-repeat : goal.invariant-loop-repeat
invariant-loop-repeat l = record {
  at : l.at ≡ listed_words (take l.repeat-index l.repeats);
  starts : l.starts.items ≡ starts_by 0 (lengths_in (take l.repeat-index l.repeats));
}
