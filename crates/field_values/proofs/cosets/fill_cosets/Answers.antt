use Rattle.std.proofs.Common.{◌≡◌, ℕ, ◌+◌, ◌*◌, ◌^◌, List, All, length, refl, ap, sym, subst, ◌∙◌, arith}
use Rattle.field_transform.specs.Basis.{value_in_basis}
use Rattle.field_transform.specs.Steps.{butterflies}
use Rattle.field_rows.specs.Columns.{column}
use Rattle.field_rows.specs.laws.PlaceLaws.{more_rows, rows_le}
use Rattle.field_values.proofs.CosetRows.{cosets_more, cost_more}
use Rattle.field_values.proofs.cosets.fill_cosets.Goals as goal

pub loop-coset-preserved : goal.loop-coset-preserved
loop-coset-preserved g c =
    let w = c.args.stripes in
    let n = c.args.level in
    let k = c.loop-coset.coset in
    let F = g.F.Field in
    let V = λ (rows : List g.row.F-Elem.Denot) (i x : ℕ). value_in_basis F.coding.ops g.F.Subspaces.inverse n
    (column F.coding.ops.nought w (2 ^ n) i rows) (F.coding.point_of x) in
    let rows = c.args.rows.now in
    let copy : c.copy_from_slice.new.self ≡ rows = c.copy_from_slice.ensures.after in
    record {
      long = c.fill_coset.auto.into ∙ c.loop-coset.invariant.long;
      spare = c.fill_coset.auto.rows ∙ c.copy_from_slice.ensures.len ∙ c.loop-coset.invariant.spare;
      values =
          λ p i l m h.
          cosets_more F.coding.ops.nought (V rows) w
          (2 ^ n) k c.args.first c.args.count c.loop-coset.into c.fill_coset.new.into c.loop-coset.invariant.values
          (λ q j a b d e. c.fill_coset.ensures.values q j a b d e ∙ ap (λ xs. V xs j (c.args.first + q)) copy)
          c.fill_coset.ensures.before p i l (omega (arith, more_rows k (2 ^ n))) h;
      cost =
          omega (
            arith,
            c.fill_coset.ensures.cost,
            c.loop-coset.invariant.cost,
            cost_more c.args.from k (butterflies n * w + 2 ^ (n + 1)) (omega arith),
          );
    }

pub loop-coset-init : goal.loop-coset-init
loop-coset-init g c =
    record {
      long = c.requires.room;
      spare = refl;
      values = λ p i l m h. absurd (omega (arith, c.requires.begins, m));
      cost = omega arith;
    }

pub copy_from_slice-requires : goal.copy_from_slice-requires
copy_from_slice-requires g c = c.loop-coset.invariant.spare ∙ c.requires.spare (omega arith) ∙ sym c.requires.size

pub returns-clause-values : goal.returns-clause-values
returns-clause-values g c =
    let w = c.args.stripes in
    let n = c.args.level in
    let F = g.F.Field in
    let last = c.args.last in
    let is : c.loop-coset.coset ≡ last = omega (arith, c.requires.order) in
    λ p i l m.
    cosets_more F.coding.ops.nought (λ j x. value_in_basis F.coding.ops g.F.Subspaces.inverse n
    (column F.coding.ops.nought w (2 ^ n) j c.args.rows.now) (F.coding.point_of x)) w
    (2 ^ n) last c.args.first c.args.count c.loop-coset.into c.fill_coset-2.new.into
    (rw is at c.loop-coset.invariant.values) c.fill_coset-2.ensures.values c.fill_coset-2.ensures.before p i l
    (omega (arith, c.requires.ends, l)) m

pub returns-clause-cost : goal.returns-clause-cost
returns-clause-cost g c =
    let each = butterflies c.args.level * c.args.stripes + 2 ^ (c.args.level + 1) in
    let is : c.loop-coset.coset ≡ c.args.last = omega (arith, c.requires.order) in
    omega (arith, c.fill_coset-2.ensures.cost, rw is at c.loop-coset.invariant.cost)

pub fill_coset-requires : goal.fill_coset-requires
fill_coset-requires g c =
    let size = 2 ^ c.args.level in
    record {
      level = c.requires.level;
      below = c.requires.below;
      elements = subst (All g.F.Field.is_element) (sym c.copy_from_slice.ensures.after) c.requires.elements;
      size = ap length c.copy_from_slice.ensures.after ∙ c.requires.size;
      some = omega (arith, rows_le c.loop-coset.coset c.args.last size (omega arith), c.requires.some);
      near = omega (arith, rows_le c.args.from c.loop-coset.coset size (omega arith), c.requires.near);
      few = c.requires.few;
      points = c.requires.points;
      room = c.loop-coset.invariant.long;
    }

pub fill_coset-requires-2 : goal.fill_coset-requires-2
fill_coset-requires-2 g c =
    record {
      level = c.requires.level;
      below = c.requires.below;
      elements = c.requires.elements;
      size = c.requires.size;
      some = c.requires.some;
      near = omega (arith, rows_le c.args.from c.args.last (2 ^ c.args.level) c.requires.order, c.requires.near);
      few = c.requires.few;
      points = c.requires.points;
      room = c.loop-coset.invariant.long;
    }
