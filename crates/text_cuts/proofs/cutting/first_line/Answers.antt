use Rattle.text_cuts.specs.laws.CutLaws.{lines_more, at_some}
use Rattle.text_cuts.proofs.cutting.first_line.Goals as goal

pub returns-in-Some-clause-lines : goal.returns-in-Some-clause-lines
returns-in-Some-clause-lines c =
    lines_more c.args.bytes.now c.cut.result.0.now c.in-Some.behind.now
    (at_some c.cut.result.1 c.in-Some.behind _ _ c.in-Some.is c.cut.ensures.parts)
