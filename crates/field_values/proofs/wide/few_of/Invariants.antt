use Rattle.std.proofs.Common.{◌≡◌, replicate}
use Rattle.std.specs.Prelude.{vec_len}
use Rattle.field_values.proofs.wide.few_of.Given as goal

abbrev pub invariant-loop : goal.invariant-loop
invariant-loop g l = record { items : l.row.items ≡ replicate l.counter l.element; len : vec_len l.row ≡ l.counter }
