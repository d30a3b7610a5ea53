use Rattle.std.proofs.Common.{◌∙◌}
use Rattle.command_sample.proofs.Making.{no_split_fault}
use Rattle.command_sample.proofs.made.cuts_of.Goals as goal

pub unreachable-requires : goal.unreachable-requires
unreachable-requires c =
    no_split_fault c.args.stream.now c.requires.accepted c.args.priority.now c.requires.priority c.deref.result.now
    (c.deref.ensures.value ∙ c.in_ok-pieces.ensures) c.in-Err.fault
    (c.in-Err.ensures.fault c.in_default.not-NoMemory)
