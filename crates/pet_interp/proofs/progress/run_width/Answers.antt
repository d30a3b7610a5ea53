use Rattle.pet_interp.proofs.progress.run_width.Goals as goal

pub returns-after-loop-width : goal.returns-after-loop-width
returns-after-loop-width c = record {
  some = c.loop-width.invariant.some;
  narrow = c.loop-width.invariant.narrow;
  inside = c.loop-width.invariant.inside;
  same = c.loop-width.invariant.same;
}

pub returns-else-lengths-at : goal.returns-else-lengths-at
returns-else-lengths-at c = record {
  some = c.loop-width.invariant.some;
  narrow = c.loop-width.invariant.narrow;
  inside = c.loop-width.invariant.inside;
  same = c.loop-width.invariant.same;
}

pub returns-else-width-lengths : goal.returns-else-width-lengths
returns-else-width-lengths c = record {
  some = c.loop-width.invariant.some;
  narrow = c.loop-width.invariant.narrow;
  inside = c.loop-width.invariant.inside;
  same = c.loop-width.invariant.same;
}
