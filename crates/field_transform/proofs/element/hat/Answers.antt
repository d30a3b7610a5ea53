use Rattle.std.proofs.Common.{◌∙◌, ap, sym, add-one, arith}
use Rattle.field_transform.specs.Basis.{hats, next_hat}
use Rattle.field_transform.proofs.element.hat.Goals as goal

pub loop-i-preserved : goal.loop-i-preserved
loop-i-preserved g c =
    let o = g.F.Field.coding.ops in
    let inverse = g.F.Subspaces.inverse in
    record {
      value =
          c.next_level-value.ensures.next ∙ ap (next_hat o (inverse c.loop-i.i)) c.loop-i.invariant.value
          ∙ ap (λ k. hats o inverse k c.args.x) (sym (add-one c.loop-i.i));
      element = c.next_level-value.ensures.element;
      cost = omega (arith, c.next_level-value.ensures.cost, c.loop-i.invariant.cost);
    }
