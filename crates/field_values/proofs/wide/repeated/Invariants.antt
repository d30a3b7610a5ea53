use Rattle.std.proofs.Common.{◌≡◌, ◌-◌, ◌≤◌, replicate}
use Rattle.std.specs.Prelude.{vec_len}
use Rattle.field_values.proofs.wide.repeated.Given as goal

abbrev pub invariant-loop-done : goal.invariant-loop-done
invariant-loop-done g l = record {
  items : l.row.items ≡ replicate l.done l.fn.element;
  len : vec_len l.row ≡ l.done;
  within : l.done ≤ l.count;
}

abbrev pub decreases-loop-done : goal.decreases-loop-done
decreases-loop-done g l = l.count - l.done
