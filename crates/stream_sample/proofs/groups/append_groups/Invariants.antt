use Rattle.std.proofs.Common.{◌-◌}
use Rattle.stream_sample.specs.SampleStream.{sample_text}
use Rattle.stream_sample.proofs.Appended.{IsAppended}
use Rattle.stream_sample.proofs.groups.append_groups.Given as goal

abbrev pub invariant-loop-made : goal.invariant-loop-made
invariant-loop-made l =
    IsAppended l.fn.into.items (sample_text l.seed l.groups)
    (sample_text l.filler.state (l.groups - l.made)) l.into.items
