use Rattle.std.proofs.Common.{arith}
use Rattle.std.proofs.lemmas.Grind.{common_steps}
use Rattle.pet_ends.proofs.Written.{written_more}
use Rattle.pet_ends.proofs.transfer.write_whole.Goals as goal

pub loop-at-preserved : goal.loop-at-preserved
loop-at-preserved g c = record {
  within = grind (arith, common_steps);
  written = written_more _ _ _ _ _ _ c.loop-at.invariant.written c.in_ok-count.ensures.bytes;
}
