use Rattle.std.proofs.Common.{◌≡◌, ◌∙◌, ℕ, ◌+◌, ◌-◌, ◌≤◌, List, ◌++◌, length, map, take, drop, ap, sym, arith, refl}
use Rattle.std.proofs.lemmas.List.{length-append, length-drop, length-take-le, take_all, take_at}
use Rattle.std.proofs.lemmas.List.Elements.{All-take, All-drop}
use Rattle.pet_interp.specs.Progressive.{longer_than}
use Rattle.pet_interp.specs.Blocks.{stripes_in}
use Rattle.pet_interp.specs.inside.Lifted.{grown_to}
use Rattle.pet_interp.proofs.Passes.{grown_part, grown_nothing, lengths_grown, cost_part}
use Rattle.pet_interp.proofs.lift.add_product.Goals as goal

-- what was prepared is the front that is handed on
part_taken : {A : Type 0} (n : ℕ) (prepared factors : List A) → length prepared ≡ length (take n factors)
    → n ≤ length factors → take n (prepared ++ drop n factors) ≡ prepared
part_taken n prepared factors e l = take_at prepared (drop n factors) n (e ∙ length-take-le n factors l)

pub loop-from-init : goal.loop-from-init
loop-from-init g c = record {
  within = omega arith;
  met = refl;
  some = refl;
  blocks = λ room h. h;
  done = sym (grown_nothing g.F.Field.coding.ops (length c.args.product.now) (stripes_in c.args.blocks.now));
  lengths = refl;
  cost = omega arith;
}

pub add_part-requires-clause-blocks : goal.add_part-requires-clause-blocks
add_part-requires-clause-blocks g c =
    (c.requires.blocks.0, c.loop-from.invariant.blocks c.requires.blocks.0 c.requires.blocks.1)

pub loop-from-preserved : goal.loop-from-preserved
loop-from-preserved g c =
    let o = g.F.Field.coding.ops in
    let product = c.args.product.now in
    let met = length product in
    let from = c.loop-from.from in
    let n = c.min-count.result in
    let factors = c.loop-from.factors in
    let inv = c.loop-from.invariant in
    let prepared = c.prepare.new.factors in
    let now = stripes_in c.loop-from.blocks in
    let ss = stripes_in c.args.blocks.now in
    let fits : n ≤ length factors = omega arith in
    let long : length prepared ≡ n = c.prepare.auto.factors ∙ length-take-le n factors fits in
    let size : from + n - from ≡ n = omega arith in
    let by = take (from + n - from) (drop from product) in
    let part : by ≡ take n (drop from product) = ap (λ k. take k (drop from product)) size in
    let counted : length by ≡ n = length-take-le (from + n - from) (drop from product)
    (omega (arith, length-drop from product)) ∙ size in
    record {
      within = omega arith;
      met = refl;
      some = length-append prepared (drop n factors) ∙ omega (arith, long, length-drop n factors, inv.some, fits);
      blocks = λ room h. c.add_part.ensures.blocks room (inv.blocks room h);
      done =
          grown_part o met from n product by ss now
          (stripes_in c.add_part.new.blocks) part inv.within inv.within c.add_part.ensures.stripes inv.done;
      lengths =
          ap (map length) c.add_part.ensures.stripes ∙ lengths_grown o met from by now inv.within
          ∙ inv.lengths;
      cost =
          cost_part c.args.steps.now c.loop-from.steps c.add_part.new.steps (longer_than met (map length ss))
          (longer_than met (map length now)) from n (length by) inv.cost
          c.add_part.ensures.cost (ap (longer_than met) inv.lengths) counted;
    }

pub returns-clause-blocks : goal.returns-clause-blocks
returns-clause-blocks g c = c.loop-from.invariant.blocks

pub prepare-requires-clause-elements : goal.prepare-requires-clause-elements
prepare-requires-clause-elements g c =
    let P = g.F.Field.is_element in
    All-take P _ _ (All-drop P c.loop-from.from c.args.product.now c.requires.products)

pub returns-clause-stripes : goal.returns-clause-stripes
returns-clause-stripes g c =
    let product = c.args.product.now in
    let all : take c.loop-from.from product ≡ product = take_all c.loop-from.from product (omega arith) in
    c.loop-from.invariant.done
    ∙ ap (λ t. map (grown_to g.F.Field.coding.ops (length product) t) (stripes_in c.args.blocks.now)) all

pub returns-clause-cost : goal.returns-clause-cost
returns-clause-cost g c =
    let all : c.loop-from.from ≡ length c.args.product.now = omega arith in
    rw all at c.loop-from.invariant.cost

pub overflow_sub-met : goal.overflow_sub-met
overflow_sub-met g c = c.loop-from.invariant.within

pub overflow_add-from : goal.overflow_add-from
overflow_add-from g c = omega arith

pub loop-from-smaller : goal.loop-from-smaller
loop-from-smaller g c = omega (arith, c.requires.some (omega arith))
