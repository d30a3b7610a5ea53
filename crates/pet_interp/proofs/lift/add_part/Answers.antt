use Rattle.std.proofs.Common.{◌≡◌, ◌∙◌, ◌<◌, ◌++◌, length, map, get_or, take, refl, ap, ap₂, sym, arith}
use Rattle.std.proofs.lemmas.List.{length-set, length-map, map-append}
use Rattle.pet_interp.specs.Blocks.{HeldBlock, stripes_in, no_block}
use Rattle.pet_interp.specs.inside.Lifted.{grown}
use Rattle.pet_interp.proofs.Passes.{blocks_kept, block_ahead, cost_block, stripes_more, stripes_more_set, rest_more}
use Rattle.pet_interp.proofs.Passes.{all_stripes, all_cost}
use Rattle.pet_interp.proofs.lift.add_part.Goals as goal

pub add_multiples-requires-clause-waits : goal.add_multiples-requires-clause-waits
add_multiples-requires-clause-waits g c =
    (c.loop-i.invariant.blocks c.requires.blocks.0 c.requires.blocks.1 c.loop-i.i c.index-blocks-i.result
    (omega (arith, c.loop-i.invariant.long))).waits

pub loop-i-preserved : goal.loop-i-preserved
loop-i-preserved g c =
    let P = g.F.Field.is_element in
    let met = c.args.met in
    let old = c.args.blocks.now in
    let now = c.loop-i.blocks in
    let i = c.loop-i.i in
    let b = c.index-blocks-i.result in
    let new = c.add_multiples.new.self in
    let inv = c.loop-i.invariant in
    let did = c.add_multiples.ensures in
    let G = grown g.F.Field.coding.ops met c.args.from c.args.by.now in
    let few0 : i < length old = c.loop-i-test.true in
    let few : i < length now = omega (arith, inv.long) in
    let same = block_ahead now old i b no_block few inv.rest in
    let count : length new.stripes ≡ length (get_or now i b).stripes =
    ap length did.stripes ∙ length-map (get_or now i b).stripes G in
    record {
      long = length-set now i new ∙ inv.long;
      blocks = λ room h. blocks_kept P met room now i b new (inv.blocks room h) few did.size did.waits count did.each;
      done =
          stripes_more_set now i new few
          ∙ ap₂ ◌++◌ inv.done (did.stripes ∙ ap (λ (v : HeldBlock g.row.F-Elem.Denot). map G v.stripes) same)
          ∙ sym (map-append G (stripes_in (take i old)) (get_or old i no_block).stripes)
          ∙ ap (map G) (sym (stripes_more old i few0));
      rest = rest_more now old i new inv.rest;
      cost =
          cost_block met (length c.args.by.now) now old i b c.args.steps.now c.loop-i.steps
          c.add_multiples.new.steps few0 same inv.cost did.cost;
    }

pub loop-i-init : goal.loop-i-init
loop-i-init g c = record { long = refl; blocks = λ room h. h; done = refl; rest = refl; cost = omega arith }

pub returns-clause-blocks : goal.returns-clause-blocks
returns-clause-blocks g c = c.loop-i.invariant.blocks

pub returns-clause-stripes : goal.returns-clause-stripes
returns-clause-stripes g c =
    all_stripes (map (grown g.F.Field.coding.ops c.args.met c.args.from c.args.by.now))
    c.loop-i.blocks c.args.blocks.now c.loop-i.i c.loop-i.invariant.long
    c.loop-i-test.false c.loop-i.invariant.done

pub returns-clause-cost : goal.returns-clause-cost
returns-clause-cost g c =
    all_cost c.args.met (length c.args.by.now) c.args.steps.now c.loop-i.steps c.args.blocks.now c.loop-i.i
    c.loop-i-test.false c.loop-i.invariant.cost
