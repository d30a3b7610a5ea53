use Rattle.command_sample.specs.SamplePriority.{layer_lines, sample_priority}
use Rattle.command_sample.proofs.made.priority_text.Goals as goal

pub returns : goal.returns
unfolding sample_priority layer_lines
returns c = c.as_bytes.ensures.value
