use Rattle.std.proofs.Common.{◌≡◌}
use Rattle.std.specs.Prelude.{option_copied}
use Rattle.text_cuts.specs.Cuts.{split_at}
use Rattle.text_plan.specs.PlanFile.{repeats_in}
use Rattle.text_plan.proofs.Parts.{repeats_ahead, size_ahead}
use Rattle.text_plan.proofs.plan_file.read_repeats.Given as goal

abbrev pub invariant-loop-rest : goal.invariant-loop-rest
invariant-loop-rest l = repeats_in (split_at 32 l.words) ≡ repeats_ahead l.list.items (option_copied l.rest)

abbrev pub decreases-loop-rest : goal.decreases-loop-rest
decreases-loop-rest l = size_ahead (option_copied l.rest)
