use Rattle.std.proofs.Common.{◌≡◌, ◌∙◌, ◌+◌, ◌-◌, ◌*◌, ◌<◌, List, length, get_or, take, drop, refl, ap, ap₂, sym, arith}
use Rattle.std.proofs.lemmas.List.{length-set, length-append}
use Rattle.pet_poly.specs.Rows.{words}
use Rattle.pet_interp.specs.Blocks.{HeldBlock, stripes_in, no_block}
use Rattle.pet_interp.specs.inside.Lifted.{begun_all}
use Rattle.pet_interp.proofs.Columns.{parts}
use Rattle.pet_interp.proofs.BlockStripes.{length-begun_all}
use Rattle.pet_interp.proofs.Passes.{blocks_kept, block_ahead, cost_block, stripes_more, rest_more, values_ahead}
use Rattle.pet_interp.proofs.Passes.{words_take, begun_block, all_stripes, all_cost}
use Rattle.pet_interp.proofs.lift.begin.Goals as goal

pub overflow_mul-end : goal.overflow_mul-end
overflow_mul-end g c =
    let inv = c.loop-i.invariant in
    omega (
      arith,
      values_ahead c.loop-i.blocks c.args.blocks.now c.loop-i.i c.index-blocks-i.result g.F.Field.coding.width
          c.loop-i.at c.width.result c.WIDTH.result (length c.args.values.now)
          c.loop-i-test.true inv.long inv.rest inv.at c.width.ensures
          (c.WIDTH.ensures ∙ sym g.met.F.Field.wide) c.requires.width,
    )

pub overflow_add-end : goal.overflow_add-end
overflow_add-end g c =
    let inv = c.loop-i.invariant in
    omega (
      arith,
      values_ahead c.loop-i.blocks c.args.blocks.now c.loop-i.i c.index-blocks-i.result g.F.Field.coding.width
          c.loop-i.at c.width.result c.WIDTH.result (length c.args.values.now)
          c.loop-i-test.true inv.long inv.rest inv.at c.width.ensures
          (c.WIDTH.ensures ∙ sym g.met.F.Field.wide) c.requires.width,
    )

pub slice_bounds-begin-end : goal.slice_bounds-begin-end
slice_bounds-begin-end g c =
    let inv = c.loop-i.invariant in
    omega (
      arith,
      values_ahead c.loop-i.blocks c.args.blocks.now c.loop-i.i c.index-blocks-i.result g.F.Field.coding.width
          c.loop-i.at c.width.result c.WIDTH.result (length c.args.values.now)
          c.loop-i-test.true inv.long inv.rest inv.at c.width.ensures
          (c.WIDTH.ensures ∙ sym g.met.F.Field.wide) c.requires.width,
    )

pub begin-requires-clause-waits : goal.begin-requires-clause-waits
begin-requires-clause-waits g c =
    (c.loop-i.invariant.blocks c.requires.blocks.0 c.requires.blocks.1 c.loop-i.i c.index-blocks-i-in-loop-i.result
    (omega (arith, c.loop-i.invariant.long))).waits

pub loop-i-preserved : goal.loop-i-preserved
loop-i-preserved g c =
    let F = g.F.Field in
    let P = F.is_element in
    let o = F.coding.ops in
    let w = F.coding.width in
    let x = g.F.Rows.element_of c.args.x.now in
    let inverse = g.F.Rows.element_of c.args.inverse.now in
    let met = c.args.met in
    let bytes = c.args.values.now in
    let old = c.args.blocks.now in
    let now = c.loop-i.blocks in
    let i = c.loop-i.i in
    let at = c.loop-i.at in
    let b = c.index-blocks-i-in-loop-i.result in
    let new = c.begin.new.self in
    let inv = c.loop-i.invariant in
    let did = c.begin.ensures in
    let few0 : i < length old = c.loop-i-test.true in
    let few : i < length now = omega (arith, inv.long) in
    let here = get_or old i no_block in
    let before = stripes_in (take i old) in
    let same = block_ahead now old i b no_block few inv.rest in
    let wide : c.width.result ≡ length here.stripes =
    c.width.ensures
    ∙ ap (λ (v : HeldBlock g.row.F-Elem.Denot). length v.stripes)
    (block_ahead now old i c.index-blocks-i.result no_block few inv.rest) in
    let step : c.width.result * c.WIDTH.result ≡ length here.stripes * w =
    ap₂ ◌*◌ wide (c.WIDTH.ensures ∙ sym g.met.F.Field.wide) in
    let end : length (stripes_in (take (i + 1) old)) ≡ length before + length here.stripes =
    ap length (stripes_more old i few0) ∙ length-append before here.stripes in
    let size = at + c.width.result * c.WIDTH.result - at in
    let count : length new.stripes ≡ length (get_or now i b).stripes =
    ap length did.stripes
    ∙ length-begun_all o met x inverse (get_or now i b).stripes
    (words F.coding.spelt w (length (get_or now i b).stripes) (take size (drop at bytes))) in
    let read : words F.coding.spelt w (length here.stripes) (take size (drop at bytes))
    ≡ words F.coding.spelt w (length here.stripes) (drop (length before * w) bytes) =
    words_take F.coding.spelt w (length here.stripes) size (drop at bytes) (omega (arith, step))
    ∙ ap (λ n. words F.coding.spelt w (length here.stripes) (drop n bytes)) inv.at in
    record {
      at = omega (arith, inv.at, step, ap (λ n. n * w) end, parts (length before) (length here.stripes) w);
      long = length-set now i new ∙ inv.long;
      blocks = λ room h. blocks_kept P met room now i b new (inv.blocks room h) few did.size did.waits count did.each;
      done =
          begun_block o met x inverse F.coding.spelt w bytes
          (take size (drop at bytes)) now old i b new few0 inv.long inv.rest inv.done did.stripes read;
      rest = rest_more now old i new inv.rest;
      cost =
          cost_block met
          (met + 1) now old i b c.args.steps.now c.loop-i.steps c.begin.new.steps few0 same inv.cost did.cost;
    }

pub loop-i-init : goal.loop-i-init
loop-i-init g c =
    record { at = omega arith; long = refl; blocks = λ room h. h; done = refl; rest = refl; cost = omega arith }

pub returns-clause-blocks : goal.returns-clause-blocks
returns-clause-blocks g c = c.loop-i.invariant.blocks

pub returns-clause-stripes : goal.returns-clause-stripes
returns-clause-stripes g c =
    let F = g.F.Field in
    let made = λ (ss : List (List _)). begun_all F.coding.ops c.args.met (g.F.Rows.element_of c.args.x.now)
    (g.F.Rows.element_of c.args.inverse.now) ss (words F.coding.spelt F.coding.width (length ss) c.args.values.now) in
    all_stripes made c.loop-i.blocks c.args.blocks.now c.loop-i.i c.loop-i.invariant.long c.loop-i-test.false
    c.loop-i.invariant.done

pub returns-clause-cost : goal.returns-clause-cost
returns-clause-cost g c =
    all_cost c.args.met (c.args.met + 1) c.args.steps.now c.loop-i.steps c.args.blocks.now c.loop-i.i
    c.loop-i-test.false c.loop-i.invariant.cost

pub bounds-blocks-i : goal.bounds-blocks-i
bounds-blocks-i g c = omega (arith, c.loop-i.invariant.long)

pub bounds-blocks-i-in-loop-i : goal.bounds-blocks-i-in-loop-i
bounds-blocks-i-in-loop-i g c = omega (arith, c.loop-i.invariant.long)

pub slice_bounds-begin-count : goal.slice_bounds-begin-count
slice_bounds-begin-count g c = omega arith

pub begin-requires-clause-point : goal.begin-requires-clause-point
begin-requires-clause-point g c = c.requires.point

pub begin-requires-clause-inverse : goal.begin-requires-clause-inverse
begin-requires-clause-inverse g c = c.requires.inverse

pub loop-i-smaller : goal.loop-i-smaller
loop-i-smaller g c = omega arith
