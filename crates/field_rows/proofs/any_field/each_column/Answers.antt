use Rattle.std.proofs.Common.{◌≡◌, ◌*◌, ◌<◌, length, refl, ap, ◌∙◌, arith}
use native.Mathlib.Nat.{mul_comm}
use Rattle.std.proofs.lemmas.List.{length-set}
use Rattle.pet_poly.specs.Value.{value}
use Rattle.field_rows.specs.Columns.{column}
use Rattle.field_rows.specs.laws.PlaceLaws.{more_rows}
use Rattle.field_rows.specs.laws.PlaceLaws.{filled}
use Rattle.field_rows.proofs.AnyField.{all_from}
use Rattle.pet_poly.specs.laws.HornerLaws.{value_is}
use Rattle.field_rows.specs.laws.ColumnLaws.{column_elements}
use Rattle.field_rows.proofs.any_field.each_column.Goals as goal

pub loop-c-preserved : goal.loop-c-preserved
loop-c-preserved g c =
    let F = g.F.Field in
    record {
      long = length-set c.loop-c.into c.loop-c.c c.column_value.result ∙ c.loop-c.invariant.long;
      values =
          filled (λ k. value F.coding.ops (column F.coding.ops.nought
          (length c.args.into.now) c.args.count k c.args.rows.now) c.args.x) F.coding.ops.nought c.loop-c.into
          c.loop-c.c c.column_value.result
          (omega (arith, c.loop-c.invariant.long)) c.loop-c.invariant.values c.column_value.ensures.value;
      cost = omega (arith, c.column_value.ensures.cost, c.loop-c.invariant.cost, more_rows c.loop-c.c c.args.count);
    }

pub returns-clause-values : goal.returns-clause-values
returns-clause-values g c =
    λ k l.
    c.loop-c.invariant.values k (omega arith)

pub returns-clause-cost : goal.returns-clause-cost
returns-clause-cost g c =
    let e : c.loop-c.c ≡ length c.args.into.now = omega arith in
    omega (
      arith,
      c.loop-c.invariant.cost,
      ap (λ n. n * c.args.count) e,
      mul_comm c.args.count (length c.args.into.now),
      c.requires.whole,
    )

pub returns-clause-elements : goal.returns-clause-elements
returns-clause-elements g c =
    let F = g.F.Field in
    let w = length c.args.into.now in
    all_from F.is_element F.coding.ops.nought c.loop-c.into
    (λ k l.
    let m : k < w = omega (arith, c.loop-c.invariant.long) in
    rw (c.loop-c.invariant.values k (omega arith))
    (value_is F.is_element F.coding.ops g.met.F.Field.lawful.field
    (column F.coding.ops.nought w c.args.count k c.args.rows.now) c.args.x
    (column_elements F.is_element F.coding.ops.nought w c.args.count k c.args.rows.now m
    (omega (arith, c.requires.whole)) c.requires.elements) c.requires.point))

pub loop-c-init : goal.loop-c-init
loop-c-init g c = record { long = refl; values = λ k l. absurd (omega arith); cost = omega arith }
