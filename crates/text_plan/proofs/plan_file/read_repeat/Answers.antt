use Rattle.std.proofs.Common.{◌∙◌, sym}
use Rattle.text_cuts.specs.laws.CutLaws.{at_some, of_some}
use Rattle.text_plan.proofs.Parts.{three_parts}
use Rattle.text_plan.proofs.plan_file.read_repeat.Goals as goal

pub returns-then-is_some : goal.returns-then-is_some
returns-then-is_some c =
    let first = at_some c.cut.result.1 c.in_ok-behind.field-0 _ _ c.in_ok-behind.was c.cut.ensures.parts in
    let second = of_some c.cut-2.result.1 _ _ (sym c.is_some.ensures ∙ c.if-is_some.true) c.cut-2.ensures.parts in
    three_parts c.args.word.now c.cut.result.0.now c.in_ok-behind.field-0.now c.cut-2.result.0.now second.0.now first
    second.1
