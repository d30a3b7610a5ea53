use Rattle.std.proofs.Common.{◌∙◌, refl, sym, ap, subst, arith, take}
use Rattle.pet_poly.specs.InPlace.{linear_product_from}
use Rattle.pet_poly.specs.laws.InPlaceLaws.{linear_front, linear_product_is, linear_product_value}
use Rattle.pet_poly.proofs.Places.{here_is, linear_rest, linear_done, linear_end}
use Rattle.pet_poly.proofs.in_place.times_linear.Goals as goal

pub mul-requires-clause-second : goal.mul-requires-clause-second
mul-requires-clause-second g c =
    here_is g.F.Field.coding.ops c.args.low.now c.loop-i.low c.args.degree c.loop-i.i c.args.x c.loop-i.before
    c.index-low-i.result (omega arith) (omega arith) (omega arith)
    c.loop-i.invariant.rest c.index-low-i.is g.F.Field.is_element c.requires.elements

pub sub-requires-clause-second : goal.sub-requires-clause-second
sub-requires-clause-second g c =
    rw c.mul.ensures.product
    (g.met.F.Field.lawful.field.times_is c.args.x c.index-low-i.result c.requires.point
    (here_is g.F.Field.coding.ops c.args.low.now c.loop-i.low c.args.degree c.loop-i.i c.args.x c.loop-i.before
    c.index-low-i.result (omega arith) (omega arith)
    (omega arith) c.loop-i.invariant.rest c.index-low-i.is g.F.Field.is_element c.requires.elements))

pub loop-i-preserved : goal.loop-i-preserved
loop-i-preserved g c =
    let F = g.F.Field in
    record {
      done =
          linear_done F.coding.ops c.args.low.now c.loop-i.low c.args.degree c.loop-i.i c.args.x c.loop-i.before
          c.index-low-i.result (omega arith) (omega arith) (omega arith)
          c.loop-i.invariant.rest c.index-low-i.is c.sub.result
          (c.sub.ensures ∙ ap (F.coding.ops.minus c.loop-i.before) c.mul.ensures.product) c.loop-i.invariant.done;
      rest =
          linear_rest F.coding.ops c.args.low.now c.loop-i.low c.args.degree c.loop-i.i c.args.x c.loop-i.before
          c.index-low-i.result (omega arith) (omega arith) (omega arith)
          c.loop-i.invariant.rest c.index-low-i.is c.sub.result;
      element =
          here_is F.coding.ops c.args.low.now c.loop-i.low c.args.degree c.loop-i.i c.args.x c.loop-i.before
          c.index-low-i.result (omega arith) (omega arith) (omega arith)
          c.loop-i.invariant.rest c.index-low-i.is F.is_element c.requires.elements;
      cost = omega arith;
    }

pub returns-clause-places : goal.returns-clause-places
returns-clause-places g c =
    linear_end g.F.Field.coding.ops c.args.low.now c.loop-i.low c.args.degree c.loop-i.i c.args.x c.loop-i.before
    c.sub-2.result (omega arith) c.requires.room (omega arith)
    c.loop-i.invariant.rest c.sub-2.ensures c.loop-i.invariant.done

pub returns-clause-elements : goal.returns-clause-elements
returns-clause-elements g c =
    let F = g.F.Field in
    rw (linear_front F.coding.ops c.args.x c.args.low.now _ c.args.degree c.requires.room (returns-clause-places g c))
    (linear_product_is F.is_element F.coding.ops g.met.F.Field.lawful.field c.args.x
    (take c.args.degree c.args.low.now) c.requires.point c.requires.elements)

pub returns-clause-value : goal.returns-clause-value
returns-clause-value g c y hy =
    let F = g.F.Field in
    rw (linear_front F.coding.ops c.args.x c.args.low.now _ c.args.degree c.requires.room (returns-clause-places g c))
    (linear_product_value F.is_element F.coding.ops g.met.F.Field.lawful.field c.args.x
    (take c.args.degree c.args.low.now) y c.requires.point c.requires.elements hy)

pub loop-i-init : goal.loop-i-init
loop-i-init g c =
    let F = g.F.Field in
    record {
      done =
          ap (λ b. linear_product_from F.coding.ops c.args.x b (take c.args.degree c.args.low.now))
          c.zero-before.ensures;
      rest = refl;
      element = subst F.is_element (sym c.zero-before.ensures) g.met.F.Field.lawful.field.zero_is;
      cost = omega arith;
    }

pub returns-clause-cost : goal.returns-clause-cost
returns-clause-cost g c = omega (arith, c.loop-i.invariant.cost)
