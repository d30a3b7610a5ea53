use Rattle.command_sample.proofs.Making.{no_refusal}
use Rattle.command_sample.proofs.made.sample_priority.Goals as goal

pub unreachable-requires : goal.unreachable-requires
unreachable-requires c =
    no_refusal c.priority_text.result.now c.in-Err.fault c.priority_text.ensures
    (c.in-Err.ensures.refused c.in_default.not-NoMemory)
