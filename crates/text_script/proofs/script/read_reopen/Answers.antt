use Rattle.std.proofs.Common.{◌∙◌, sym}
use Rattle.text_cuts.specs.laws.CutLaws.{of_some}
use Rattle.text_script.proofs.Words.{reopen_long}
use Rattle.text_script.proofs.script.read_reopen.Goals as goal

pub returns-then-is_some : goal.returns-then-is_some
returns-then-is_some c =
    let first = of_some c.cut.result.1 _ _ (sym c.is_some.ensures ∙ c.if-is_some.true) c.cut.ensures.parts in
    reopen_long c.args.words.now c.cut.result.0.now first.0.now first.1
