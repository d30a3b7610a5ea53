use Rattle.std.proofs.Common.{◌≡◌, ◌≤◌, take}
use Rattle.command_plan.specs.Least.{listed_words}
use Rattle.command_plan.proofs.least.have_words.Given as goal

abbrev pub invariant-loop-repeat : goal.invariant-loop-repeat
invariant-loop-repeat l = record {
  total : l.total ≡ listed_words (take l.repeat-index l.repeats);
  few : l.total ≤ l.words;
}
