use Rattle.std.proofs.Common.{◌≡◌, ◌<◌, ◌+◌, ◌*◌, ℕ, get_or, map, length, ap, sym, ◌∙◌, arith}
use Rattle.std.proofs.lemmas.List.{get_or-map}
use Rattle.field_rows.proofs.AddedRows.{sums_more, rest_more, next_room}
use Rattle.field_rows.specs.laws.PlaceLaws.{more_rows, rows_le}
use Rattle.field_vectors.specs.laws.LoopLaws.{row_added, row_behind}
use Rattle.field_vectors.proofs.kernels.add_multiples.Goals as goal

pub loop-j-preserved : goal.loop-j-preserved
loop-j-preserved g c =
    let p = g.P.Prepared in
    let o = p.ops in
    let z = o.nought in
    let row = c.args.row.now in
    let w = length row in
    let j = c.loop-j.j in
    let at = c.loop-j.at in
    let rows = c.loop-j.rows in
    let s = c.add_times in
    let new = s.new.rows in
    let from = p.joined c.split-from.result in
    let place : at ≡ j * w = c.loop-j.invariant.place in
    let lane : (i : ℕ) → i < 32 → get_or from i z ≡ get_or row i z =
    λ i l. ap (λ t. get_or t i z) c.split-from.ensures ∙ c.load.ensures.lanes i l ∙ ap (λ k. get_or row k z) (omega arith) in
    let f = p.factor c.index-factors-j.result in
    let factor : ℕ → g.row.P-Elem.Denot = λ (i : ℕ). get_or (map p.factor c.args.factors.now) i z in
    let f_is : f ≡ factor j =
    sym (get_or-map p.factor c.args.factors.now j c.index-factors-j.result z (omega arith)
    ∙ ap p.factor (sym c.index-factors-j.is)) in
    let room = next_room j (length c.args.factors.now) at w (length rows) (length c.args.rows.now) (omega arith) place
    c.requires.room c.loop-j.auto.rows in
    let lanes : (i : ℕ) → i < 32 → at + i < length rows
    → get_or new (at + i) z ≡ o.plus (get_or rows (at + i) z) (o.times f (get_or row i z)) =
    λ i l m. s.ensures.inside i l m ∙ ap (λ y. o.plus (get_or rows (at + i) z) (o.times f y)) (lane i l) in
    let law = g.met.P.Prepared.field in
    let inside = row_added p.is_element o law at f row rows new s.ensures.factor s.ensures.elements c.requires.narrow
    s.auto.rows lanes s.ensures.behind room in
    let behind = row_behind p.is_element o law at f row rows new s.ensures.factor s.ensures.elements c.requires.narrow
    s.auto.rows lanes s.ensures.behind in
    record {
      place = ap (λ k. k + w) place ∙ sym (more_rows j w);
      done =
          sums_more o j at row rows c.args.rows.now new f factor place inside s.ensures.before behind f_is
          c.loop-j.invariant.rest c.loop-j.invariant.done;
      rest =
          rest_more o j at row rows c.args.rows.now new f factor place inside s.ensures.before behind f_is
          c.loop-j.invariant.rest;
    }

pub returns : goal.returns
returns g c =
    record {
      sums = λ j k l m. c.loop-j.invariant.done j k (omega arith) m;
      others = λ i l. c.loop-j.invariant.rest i
          (omega (arith, rows_le c.loop-j.j (length c.args.factors.now) (length c.args.row.now) (omega arith)));
    }
