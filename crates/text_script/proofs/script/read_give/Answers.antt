use Rattle.std.proofs.Common.{◌∙◌, sym}
use Rattle.text_cuts.specs.laws.CutLaws.{at_some, of_some}
use Rattle.text_script.proofs.Words.{give_long}
use Rattle.text_script.proofs.script.read_give.Goals as goal

pub returns-then-is_some : goal.returns-then-is_some
returns-then-is_some c =
    let first = at_some c.cut.result.1 c.in_ok-behind.field-0 _ _ c.in_ok-behind.was c.cut.ensures.parts in
    let second = at_some c.cut-2.result.1 c.in_ok-behind-2.field-0 _ _ c.in_ok-behind-2.was c.cut-2.ensures.parts in
    let third = of_some c.cut-3.result.1 _ _ (sym c.is_some.ensures ∙ c.if-is_some.true) c.cut-3.ensures.parts in
    give_long c.args.groups c.args.packets c.args.words.now c.cut.result.0.now c.in_ok-behind.field-0.now
    c.cut-2.result.0.now c.in_ok-behind-2.field-0.now c.cut-3.result.0.now third.0.now first second third.1
