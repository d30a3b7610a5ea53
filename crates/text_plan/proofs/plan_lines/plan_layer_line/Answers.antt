use Rattle.std.proofs.Common.{◌++◌, codes, decimal, ap, ◌∙◌}
use Rattle.text_plan.proofs.Pieces.{eleven}
use Rattle.text_plan.proofs.plan_lines.plan_layer_line.Goals as goal

pub returns-clause-ok : goal.returns-clause-ok
returns-clause-ok c =
    c.in_ok-extend_from_slice.ensures.items
    ∙ ap (λ bytes. c.args.into.now.items ++ bytes) (c.as_bytes.ensures.value ∙ (c.in_ok-line.ensures.ok ∙ eleven
    (codes "layer ") (decimal c.args.layer) (codes " ") c.args.name.now (codes " bytes ")
    (decimal c.args.size.now.length)
    (codes " need ") (decimal c.args.size.now.need) (codes " count ") (decimal c.args.count) (codes "\n")))
