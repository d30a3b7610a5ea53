use Rattle.std.proofs.Common.{◌≡◌, ℕ, ◌+◌, ◌-◌, ◌*◌, ◌^◌, ◌<◌, ◌≤◌, length}
use Rattle.std.specs.Prelude.{slice_index_or}
use Rattle.field_transform.specs.Basis.{value_in_basis}
use Rattle.field_transform.specs.Steps.{butterflies}
use Rattle.field_rows.specs.Columns.{column}
use Rattle.field_values.proofs.cosets.fill_cosets.Given as goal

abbrev pub invariant-loop-coset : goal.invariant-loop-coset
invariant-loop-coset g l = record {
  long : length l.into ≡ l.count * l.stripes;
  spare : length l.spare ≡ length l.initial.spare;
  values : (p c : ℕ) → p < l.count → l.first + p < l.coset * 2 ^ l.level → c < l.stripes
      → slice_index_or l.into (p * l.stripes + c) g.F.Field.coding.ops.nought
      ≡ value_in_basis g.F.Field.coding.ops g.F.Subspaces.inverse l.level
      (column g.F.Field.coding.ops.nought l.stripes (2 ^ l.level) c l.rows) (g.F.Field.coding.point_of (l.first + p));
  cost : l.steps ≤ l.initial.steps + (l.coset - l.from) * (butterflies l.level * l.stripes + 2 ^ (l.level + 1));
}
