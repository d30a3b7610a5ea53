use Rattle.std.proofs.Common.{◌+◌, ◌<◌, ◌≤◌, length, refl, ◌∙◌, arith, rules}
use Rattle.field_values.proofs.RowAfterRow.{row_end}
use Rattle.field_values.proofs.RowLanes.{new_long, placed_more, others_more}
use Rattle.field_values.proofs.wide.place_rows.Goals as goal

pub offset_bounds-into-to : goal.offset_bounds-into-to
offset_bounds-into-to g c =
    let l : c.loop.counter < c.args.size = omega (arith, c.requires.fewer) in
    let room : c.loop.at + c.args.lane + c.args.width ≤ length c.loop.into =
    omega (
      arith,
      row_end c.loop.counter c.args.size c.args.stripes c.loop.at (length c.loop.into) l
          c.loop.invariant.at_is c.loop.invariant.long,
      c.requires.lane,
    ) in
    search rules

pub loop-preserved : goal.loop-preserved
loop-preserved g c =
    let q = c.loop.counter in
    let n = c.args.count in
    let w = c.args.width in
    let rows = c.args.rows.now in
    let into = c.loop.into in
    let piece = c.copy_from_slice.new.self in
    let l : q < n = omega arith in
    record {
      from_is = omega (arith, c.loop.invariant.from_is);
      at_is = omega (arith, c.loop.invariant.at_is);
      long =
          new_long n w c.args.stripes c.args.lane c.args.size q c.loop.from c.loop.at rows into piece l
          c.requires.fewer c.requires.lane c.requires.rows c.loop.invariant.long c.loop.invariant.from_is
          c.loop.invariant.at_is (search rules)
          ∙ c.loop.invariant.long;
      placed =
          λ d.
          placed_more n w c.args.stripes c.args.lane c.args.size q c.loop.from c.loop.at rows into piece l
          c.requires.fewer c.requires.lane c.requires.rows c.loop.invariant.long c.loop.invariant.from_is
          c.loop.invariant.at_is (search rules) d
          (c.loop.invariant.placed d);
      others =
          λ d.
          others_more n w c.args.stripes c.args.lane c.args.size q c.loop.from c.loop.at rows into piece l
          c.requires.fewer c.requires.lane c.requires.rows c.loop.invariant.long c.loop.invariant.from_is
          c.loop.invariant.at_is (search rules) d
          c.args.into.now (c.loop.invariant.others d);
    }

pub loop-init : goal.loop-init
loop-init g c =
    record {
      from_is = omega arith;
      at_is = omega arith;
      long = c.requires.into;
      placed = λ d p n l m. absurd (omega arith);
      others = λ d p n l h. refl;
    }

pub returns-clause-placed : goal.returns-clause-placed
returns-clause-placed g c = λ d p n l m. c.loop.invariant.placed d p n (omega arith) m

pub returns-clause-others : goal.returns-clause-others
returns-clause-others g c = λ d p n l h. c.loop.invariant.others d p n l (λ m. h (omega arith))

pub offset_bounds-rows-from : goal.offset_bounds-rows-from
offset_bounds-rows-from g c =
    let room = row_end c.loop.counter c.args.count c.args.width c.loop.from (length c.args.rows.now) (omega arith)
    c.loop.invariant.from_is c.requires.rows in
    search rules

pub overflow_add-from : goal.overflow_add-from
overflow_add-from g c =
    let room = row_end c.loop.counter c.args.count c.args.width c.loop.from (length c.args.rows.now) (omega arith)
    c.loop.invariant.from_is c.requires.rows in
    search rules

pub overflow_add-from-in-loop : goal.overflow_add-from-in-loop
overflow_add-from-in-loop g c =
    let room = row_end c.loop.counter c.args.count c.args.width c.loop.from (length c.args.rows.now) (omega arith)
    c.loop.invariant.from_is c.requires.rows in
    search rules

pub slice_bounds-copy_from_slice-end : goal.slice_bounds-copy_from_slice-end
slice_bounds-copy_from_slice-end g c =
    let room = row_end c.loop.counter c.args.count c.args.width c.loop.from (length c.args.rows.now) (omega arith)
    c.loop.invariant.from_is c.requires.rows in
    search rules

pub overflow_add-to : goal.overflow_add-to
overflow_add-to g c =
    let l : c.loop.counter < c.args.size = omega (arith, c.requires.fewer) in
    let room = row_end c.loop.counter c.args.size c.args.stripes c.loop.at (length c.loop.into) l
    c.loop.invariant.at_is c.loop.invariant.long in
    search rules

pub overflow_add-at : goal.overflow_add-at
overflow_add-at g c =
    let l : c.loop.counter < c.args.size = omega (arith, c.requires.fewer) in
    let room = row_end c.loop.counter c.args.size c.args.stripes c.loop.at (length c.loop.into) l
    c.loop.invariant.at_is c.loop.invariant.long in
    search rules
