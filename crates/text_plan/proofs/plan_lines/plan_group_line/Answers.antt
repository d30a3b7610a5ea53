use Rattle.std.proofs.Common.{◌++◌, codes, decimal, ap, ◌∙◌}
use Rattle.text_plan.proofs.Pieces.{eleven}
use Rattle.text_plan.proofs.plan_lines.plan_group_line.Goals as goal

pub returns-clause-ok : goal.returns-clause-ok
returns-clause-ok c =
    c.in_ok-extend_from_slice.ensures.items
    ∙ ap (λ bytes. c.args.into.now.items ++ bytes) (c.as_bytes.ensures.value ∙ (c.in_ok-line.ensures.ok ∙ eleven
    (codes "group ") (decimal c.args.group) (codes " words ") (decimal c.args.words) (codes " stripes ")
    (decimal c.args.stripes)
    (codes " bound ") (decimal c.args.bound) (codes " datagram ") (decimal c.args.datagram) (codes "\n")))
