use Rattle.std.proofs.Common.{refl}
use Rattle.pet_text.specs.laws.WordLaws.{sample_groups}
use Rattle.command_sample.specs.SampleSteps.{sample_steps}
use Rattle.command_sample.specs.Samples.{SampleEnds}
use Rattle.pet_tool.specs.Commands.Streams.{line_of_sample, status_of_sample}
use Rattle.pet_tool.specs.Runs.{OnMemory}
use Rattle.pet_tool.proofs.Ends.{runs_so, with_memory}
use Rattle.pet_tool.proofs.Owed.Streams.{sample_agrees}
use Rattle.pet_tool.proofs.commands.streams.run_sample.Goals as goal

pub returns-clause-ends : goal.returns-clause-ends
returns-clause-ends g c = record {
  does =
      runs_so line_of_sample status_of_sample sample_agrees (λ s g. OnMemory (SampleEnds s g) (sample_steps s g)) _ _
      c.sample.result refl refl
      (with_memory refl refl refl refl c.sample.ensures.cost c.sample.ensures.samples)
      refl refl;
}

pub sample-requires : goal.sample-requires
sample-requires g c =
    let both = sample_groups c.args.seed c.args.groups c.requires.form in
    record { some = both.0; few = both.1 }
