use Rattle.std.proofs.Common.{◌≡◌, ◌<◌, ◌+◌, ◌-◌, ◌*◌, ℕ, List, length, drop, get_or, map, ap, sym, refl, ◌∙◌}
use Rattle.std.proofs.Common.{arith}
use Rattle.std.proofs.lemmas.List.{get_or-replicate, length-replicate}
use Rattle.pet_poly.specs.inside.Horner.{horner_from}
use Rattle.field_rows.specs.Columns.{column}
use Rattle.field_rows.specs.laws.PlaceLaws.{row_place}
use Rattle.field_vectors.specs.laws.LaneLaws.{added_lane, length_added}
use Rattle.field_vectors.specs.laws.LoopLaws.{horner_none, horner_next, horner_done}
use Rattle.field_vectors.proofs.kernels.column_values.Goals as goal

pub loop-j-init : goal.loop-j-init
loop-j-init g c =
    let p = g.P.Prepared in
    let z = p.ops.nought in
    let rows = c.args.rows.now in
    let few = c.requires.narrow in
    record {
      place = c.requires.whole;
      long = ap length c.zeros-sums.ensures ∙ length-replicate 32 z;
      sums = λ i l. ap (λ t. get_or t i z) c.zeros-sums.ensures ∙ get_or-replicate 32 i z z (omega (arith, few))
          ∙ sym (horner_none p.is_element p.ops g.met.P.Prepared.field rows (length c.args.into.now) c.args.count i
          (p.factor c.args.by.now) c.requires.whole l);
    }

pub loop-j-preserved : goal.loop-j-preserved
loop-j-preserved g c =
    let p = g.P.Prepared in
    let o = p.ops in
    let z = o.nought in
    let rows = c.args.rows.now in
    let w = length c.args.into.now in
    let x = p.factor c.args.by.now in
    let j = c.loop-j.j in
    let row = p.lanes c.load.result in
    let sums = p.joined c.loop-j.sums in
    let new = p.joined c.step-sums.result in
    let place : c.loop-j.at - w ≡ (j - 1) * w = row_place j w c.loop-j.at (omega arith) c.loop-j.invariant.place in
    let loaded : (i : ℕ) → i < w → get_or row i z ≡ get_or rows ((j - 1) * w + i) z =
    λ i l. c.load.ensures.lanes i (omega (arith, c.requires.narrow)) ∙ ap (λ n. get_or rows (n + i) z) place in
    let products : List g.row.P-Elem.Denot = map (o.times x) sums in
    record {
      place = place;
      long = length_added o.plus (o.times x) row sums products new c.load.ensures.long c.loop-j.invariant.long refl
          c.step-sums.ensures;
      sums = λ i l.
          added_lane z i (omega (arith, c.requires.narrow)) o.plus (o.times x) (get_or rows ((j - 1) * w + i) z)
          (horner_from o z (drop j (column z w c.args.count i rows)) x) row sums products new c.load.ensures.long
          c.loop-j.invariant.long refl c.step-sums.ensures (loaded i l) (c.loop-j.invariant.sums i l)
          ∙ horner_next p.is_element o g.met.P.Prepared.field rows w c.args.count i x c.requires.whole l j (omega arith)
          (omega arith);
    }

pub returns : goal.returns
returns g c i l =
    let p = g.P.Prepared in
    let z = p.ops.nought in
    c.unload.ensures i l ∙ ap (λ t. get_or t i z) c.join.ensures ∙ c.loop-j.invariant.sums i l
    ∙ horner_done p.is_element p.ops g.met.P.Prepared.field c.args.rows.now (length c.args.into.now) c.args.count i
    (p.factor c.args.by.now) c.requires.whole l c.loop-j.j (omega arith) c.elements.ensures.row c.elements.ensures.factor
