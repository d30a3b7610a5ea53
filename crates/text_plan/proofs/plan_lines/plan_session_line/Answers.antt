use Rattle.std.proofs.Common.{◌++◌, codes, decimal, ap, ◌∙◌}
use Rattle.text_plan.specs.PlanLines.{hex_text}
use Rattle.text_plan.proofs.Pieces.{seven}
use Rattle.text_plan.proofs.plan_lines.plan_session_line.Goals as goal

pub returns-clause-ok : goal.returns-clause-ok
returns-clause-ok c =
    let rest = codes " groups "
    ++ (decimal c.args.groups ++ (codes " packets " ++ (decimal c.args.packets ++ codes "\n"))) in
    c.in_ok-extend_from_slice.ensures.items
    ∙ ap (λ bytes. c.args.into.now.items ++ bytes) (c.as_bytes.ensures.value ∙ (c.in_ok-line.ensures.ok
    ∙ (ap (λ text. codes "session " ++ (text ++ rest)) c.in_ok-session.ensures ∙ seven
    (codes "session ") (hex_text c.args.session.now) (codes " groups ") (decimal c.args.groups)
    (codes " packets ") (decimal c.args.packets) (codes "\n"))))
