use Rattle.std.proofs.Common.{◌∙◌, refl, ap, arith}
use Rattle.field_vectors.specs.laws.LaneLaws.{none_made, more_made}
use Rattle.field_vectors.proofs.long_rows.multiply_row.Goals as goal

pub loop-at-preserved : goal.loop-at-preserved
loop-at-preserved g c =
    let s = c.multiply_at in
    let is = c.loop-at.invariant.made in
    let more = more_made g.P.Prepared.ops.nought c.loop-at.at c.min.result _ c.args.row.now c.loop-at.row s.new.row _ refl is
    s.auto.row (omega arith) (λ i l m. omega (arith, is.long)) s.ensures.before
    (λ i l m e. s.ensures.inside i l (omega (arith, is.long))
    ∙ ap (g.P.Prepared.ops.times (g.P.Prepared.factor c.args.by.now)) e)
    s.ensures.behind (omega (arith, is.long)) in
    record { inside = omega (arith, s.auto.row); made = more }

pub loop-at-init : goal.loop-at-init
loop-at-init g c = record { inside = omega arith; made = none_made _ _ c.args.row.now _ refl }

pub returns-clause-products : goal.returns-clause-products
returns-clause-products g c i l = c.loop-at.invariant.made.done i (omega (arith, c.loop-at.invariant.made.long))
