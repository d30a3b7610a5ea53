use Rattle.std.proofs.Common.{◌+◌, ◌∙◌, arith}
use Rattle.field_values.proofs.cosets.transform.Goals as goal

pub returns-clause-values : goal.returns-clause-values
returns-clause-values g c = λ p i l m.
    c.fill_cosets.ensures.values p i l m
    ∙ c.convert.ensures.coefficients i (g.F.Field.coding.point_of (c.args.first + p)) m
    (g.met.F.Field.lawful.points.point_is (c.args.first + p) (omega (arith, c.requires.points, l)))

pub returns-clause-cost : goal.returns-clause-cost
returns-clause-cost g c = omega (arith, c.fill_cosets.ensures.cost, c.convert.ensures.bounded)

pub fill_cosets-requires : goal.fill_cosets-requires
fill_cosets-requires g c =
    let asked = c.requires in
    record {
      level = asked.level;
      below = asked.below;
      elements = c.convert.ensures.elements;
      size = c.convert.auto.rows ∙ asked.size;
      spare = asked.spare;
      order = asked.order;
      begins = asked.begins;
      near = asked.near;
      some = asked.some;
      ends = asked.ends;
      few = asked.few;
      points = asked.points;
      room = asked.room;
    }

pub convert-requires-clause-size : goal.convert-requires-clause-size
convert-requires-clause-size g c = c.requires.size

pub convert-requires-clause-zeros : goal.convert-requires-clause-zeros
convert-requires-clause-zeros g c = c.requires.zeros
