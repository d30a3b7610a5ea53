use Rattle.std.proofs.Common.{◌≡◌, ℕ, ◌+◌, ◌*◌, ◌<◌, length, map, take, drop}
use Rattle.pet_poly.specs.Value.{value}
use Rattle.field_rows.specs.Blocks.{columns_of}
use Rattle.field_values.proofs.all_values.fill_rows.Given as goal

abbrev pub invariant-loop-p : goal.invariant-loop-p
invariant-loop-p g l = record {
  place : l.at ≡ l.p * l.stripes;
  long : length l.into ≡ l.count * l.stripes;
  values : (q : ℕ) → q < l.p → take l.stripes (drop (q * l.stripes) l.into)
      ≡ map (λ s. value g.F.Field.coding.ops s (g.F.Field.coding.point_of (l.first + q)))
      (columns_of g.F.Field.coding.ops.nought l.blocks l.laid);
  cost : l.steps ≡ l.initial.steps + l.p * length l.laid;
}
