use Rattle.std.proofs.Common.{◌∙◌, ◌+◌, get_or, ap, arith}
use Rattle.field_vectors.specs.laws.LaneLaws.{none_made, more_made}
use Rattle.field_vectors.proofs.long_rows.add_multiple_row.Goals as goal

pub loop-at-preserved : goal.loop-at-preserved
loop-at-preserved g c =
    let o = g.P.Prepared.ops in
    let at = c.loop-at.at in
    record {
      inside = omega arith;
      made =
          more_made o.nought at c.min.result _ c.args.into.now c.loop-at.into c.add_multiple_at.new.into _ c.requires
          c.loop-at.invariant.made c.add_multiple_at.auto.into (omega arith) (λ i l m. omega arith)
          c.add_multiple_at.ensures.before
          (λ i l m e. c.add_multiple_at.ensures.inside i l m
          ∙ ap (λ a. o.plus a (o.times (g.P.Prepared.factor c.args.by.now) (get_or c.args.other.now (at + i) o.nought))) e)
          c.add_multiple_at.ensures.behind (omega arith);
    }

pub loop-at-init : goal.loop-at-init
loop-at-init g c = record { inside = omega arith; made = none_made _ _ c.args.into.now _ c.requires }

pub returns-clause-sums : goal.returns-clause-sums
returns-clause-sums g c i l = c.loop-at.invariant.made.done i (omega arith)
