use borrow.Rule.Slice.PartMut.{put_mid}
use Rattle.std.proofs.Common.{◌≡◌, ◌+◌, ◌-◌, ◌*◌, ◌<◌, ◌≤◌, List, length, get_or, take, drop, map, refl, ap, sym, ◌∙◌}
use Rattle.std.proofs.Common.{add-one, arith}
use Rattle.std.proofs.lemmas.List.{length-take-le, length-drop, take_all}
use Rattle.std.proofs.lemmas.List.Elements.{All-take, All-drop}
use Rattle.pet_poly.specs.Value.{value}
use Rattle.field_rows.specs.Blocks.{size_of, width_of, columns_of}
use Rattle.field_rows.proofs.Parts.{part_length}
use Rattle.field_rows.proofs.FirstBlocks.{room_size, room_width, more_size, more_width, step_done, b0}
use Rattle.field_rows.proofs.blocks.block_values.Goals as goal

pub loop-i-preserved : goal.loop-i-preserved
loop-i-preserved g c =
    let F = g.F.Field in
    let bs = c.args.blocks.now in
    let i = c.loop-i.i in
    let b = get_or bs i b0 in
    let laid = c.args.laid.now in
    let into = c.loop-i.into in
    let new = c.values.new.into in
    let l : i < length bs = omega arith in
    let V = λ (s : List _). value F.coding.ops s (g.F.Rows.element_of c.args.x.now) in
    let room : c.loop-i.at + b.length * b.width ≤ length laid =
    omega (arith, room_size bs i l, c.loop-i.invariant.place, c.requires.whole) in
    let till : c.loop-i.to + b.width ≤ length into =
    omega (arith, room_width bs i l, c.loop-i.invariant.until, c.loop-i.invariant.long) in
    let part : length new ≡ c.loop-i.to + b.width - c.loop-i.to =
    c.values.auto.into
    ∙ length-take-le (c.loop-i.to + b.width - c.loop-i.to) (drop c.loop-i.to into)
    (omega (arith, length-drop c.loop-i.to into)) in
    let whole : length (put_mid c.loop-i.to (c.loop-i.to + b.width - c.loop-i.to) into new) ≡ length into =
    part_length F.coding.ops.nought c.loop-i.to (c.loop-i.to + b.width - c.loop-i.to) into new (omega arith) part in
    let long_part : length (take (c.loop-i.at + b.length * b.width - c.loop-i.at) (drop c.loop-i.at laid))
    ≡ c.loop-i.at + b.length * b.width - c.loop-i.at =
    length-take-le (c.loop-i.at + b.length * b.width - c.loop-i.at) (drop c.loop-i.at laid)
    (omega (arith, length-drop c.loop-i.at laid)) in
    record {
      within = room;
      fits = rw whole till;
      place =
          ap (λ n. n + b.length * b.width) c.loop-i.invariant.place
          ∙ sym (ap (λ n. size_of (take n bs)) (add-one i) ∙ more_size bs i l);
      until =
          ap (λ n. n + b.width) c.loop-i.invariant.until
          ∙ sym (ap (λ n. width_of (take n bs)) (add-one i) ∙ more_width bs i l);
      long = whole ∙ c.loop-i.invariant.long;
      done =
          step_done V F.coding.ops.nought bs i c.loop-i.at c.loop-i.to laid into new l c.loop-i.invariant.place
          c.loop-i.invariant.until c.requires.whole c.loop-i.invariant.long
          c.values.auto.into c.values.ensures.values c.loop-i.invariant.done;
      cost = omega (arith, c.values.ensures.cost, c.loop-i.invariant.cost, long_part);
    }

pub loop-i-init : goal.loop-i-init
loop-i-init g c =
    record {
      within = omega arith;
      fits = omega arith;
      place = refl;
      until = refl;
      long = c.requires.room;
      done = refl;
      cost = omega arith;
    }

pub returns-clause-values : goal.returns-clause-values
returns-clause-values g c =
    let F = g.F.Field in
    let bs = c.args.blocks.now in
    let i = c.loop-i.i in
    let all : take i bs ≡ bs = take_all i bs (omega arith) in
    sym (take_all c.loop-i.to c.loop-i.into
    (omega (arith, c.loop-i.invariant.until, ap width_of all, c.loop-i.invariant.long))) ∙ c.loop-i.invariant.done
    ∙ ap (λ b. map (λ s. value F.coding.ops s (g.F.Rows.element_of c.args.x.now))
    (columns_of F.coding.ops.nought b c.args.laid.now)) all

pub returns-clause-cost : goal.returns-clause-cost
returns-clause-cost g c =
    let bs = c.args.blocks.now in
    let i = c.loop-i.i in
    omega (
      arith,
      c.loop-i.invariant.cost,
      c.loop-i.invariant.place,
      ap size_of (take_all i bs (omega arith)),
      c.requires.whole,
    )

pub values-requires : goal.values-requires
values-requires g c =
    let P = g.F.Field.is_element in
    let i = c.loop-i.i in
    let bs = c.args.blocks.now in
    let b = get_or bs i b0 in
    let l : i < length bs = omega arith in
    let n = c.loop-i.at + b.length * b.width - c.loop-i.at in
    let w = c.loop-i.to + b.width - c.loop-i.to in
    let room : c.loop-i.at + b.length * b.width ≤ length c.args.laid.now =
    omega (arith, room_size bs i l, c.loop-i.invariant.place, c.requires.whole) in
    let till : c.loop-i.to + b.width ≤ length c.loop-i.into =
    omega (arith, room_width bs i l, c.loop-i.invariant.until, c.loop-i.invariant.long) in
    let long : length (take n (drop c.loop-i.at c.args.laid.now)) ≡ n =
    length-take-le n (drop c.loop-i.at c.args.laid.now) (omega (arith, length-drop c.loop-i.at c.args.laid.now)) in
    let size : n ≡ b.length * b.width = omega arith in
    let wide : length (take w (drop c.loop-i.to c.loop-i.into)) ≡ b.width =
    length-take-le w (drop c.loop-i.to c.loop-i.into) (omega (arith, length-drop c.loop-i.to c.loop-i.into))
    ∙ omega arith in
    record {
      whole = long ∙ size ∙ ap (λ k. b.length * k) (sym wide);
      narrow = rw wide (c.requires.narrow i b0 l);
      elements =
          All-take P n (drop c.loop-i.at c.args.laid.now) (All-drop P c.loop-i.at c.args.laid.now c.requires.elements);
      point = c.requires.point;
    }
