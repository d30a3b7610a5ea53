use Rattle.std.proofs.Common.{◌++◌, List, ℕ, ap, ◌∙◌}
use Rattle.stream_sample.specs.SampleStream.{sample_text}
use Rattle.stream_session.specs.Number.{session_number}
use Rattle.stream_session.specs.Sessions.{tables_in}
use Rattle.stream_session.specs.Tables.{cuts_of_stream}
use Rattle.priority_file.specs.Refusals.{priorities_of}
use Rattle.command_sample.specs.SamplePriority.{sample_priority}
use Rattle.command_sample.proofs.Making.{accepted_so, made_so}
use Rattle.command_sample.proofs.made.make.Goals as goal

pub plan_of-requires-clause-accepted : goal.plan_of-requires-clause-accepted
plan_of-requires-clause-accepted c =
    accepted_so c.args.seed c.args.groups c.deref.result.now c.requires.some c.requires.few
    (c.deref.ensures.value ∙ c.in_ok-sample_stream.ensures.ok
    ∙ ap (λ (l : List ℕ). l ++ sample_text c.args.seed c.args.groups) c.new-stream.ensures.items)

pub cuts_of-requires-clause-accepted : goal.cuts_of-requires-clause-accepted
cuts_of-requires-clause-accepted c =
    accepted_so c.args.seed c.args.groups c.deref-2.result.now c.requires.some c.requires.few
    (c.deref-2.ensures.value ∙ c.in_ok-sample_stream.ensures.ok
    ∙ ap (λ (l : List ℕ). l ++ sample_text c.args.seed c.args.groups) c.new-stream.ensures.items)

pub returns-clause-made : goal.returns-clause-made
returns-clause-made c =
    made_so c.args.seed c.args.groups
    (record { stream = c.sample_stream.new.into; plan = c.in_ok-plan.plan; cuts = c.in_ok-cuts.cuts })
    c.requires.some c.requires.few
    (c.in_ok-sample_stream.ensures.ok
    ∙ ap (λ (l : List ℕ). l ++ sample_text c.args.seed c.args.groups) c.new-stream.ensures.items)
    (c.in_ok-plan.ensures.number ∙ ap (session_number sample_priority) c.deref.ensures.value)
    (c.in_ok-plan.ensures.tables ∙ ap (tables_in sample_priority) c.deref.ensures.value)
    (c.in_ok-cuts.ensures ∙ ap (cuts_of_stream (priorities_of sample_priority)) c.deref-2.ensures.value)
