use Rattle.std.proofs.Common.{◌≡◌, ◌≤◌, ◌+◌, ◌++◌, length, map, replicate, take}
use Rattle.std.specs.Prelude.{codes}
use Rattle.std.specs.List.{flat_map}
use Rattle.stripe_plan.specs.Layers.{plan_stripes}
use Rattle.stripe_plan.specs.Walk.{stripes_left}
use Rattle.text_plan.specs.PlanLines.{plan_lengths, rows_of, row_text, lengths_text}
use Rattle.text_plan.proofs.lengths.append_line.Given as goal

abbrev pub invariant-loop-size : goal.invariant-loop-size
invariant-loop-size l = record {
  can : goal.iterator-loop-size.can_next l.size-iterator;
  ends : goal.iterator-loop-size.is_finite l.size-iterator;
  few : l.row.times + length (stripes_left l.size-iterator) ≤ length (plan_stripes l.table.layers);
  text : l.into.items
      ++ (flat_map row_text
      (rows_of (replicate l.row.times l.row.size ++ map (λ s. s.1) (stripes_left l.size-iterator))) ++ codes "\n")
      ≡ l.fn.into.items ++ lengths_text (plan_lengths l.table.layers);
  front : take (length l.fn.into.items) l.into.items ≡ l.fn.into.items;
}
