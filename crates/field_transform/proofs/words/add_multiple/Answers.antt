use Rattle.std.proofs.Common.{get_or, arith}
use Rattle.field_transform.proofs.Made.{multiples_are}
use Rattle.field_transform.proofs.Zeros.{nothing_added}
use Rattle.field_transform.proofs.words.add_multiple.Goals as goal

pub returns-then-not-none-clause-elements : goal.returns-then-not-none-clause-elements
returns-then-not-none-clause-elements g c =
    let F = g.F.Field in
    let law = g.met.F.Field.lawful.field in
    multiples_are F.is_element F.coding.ops law c.args.by c.args.into.now c.args.other.now c.add_multiple_row.new.into
    c.requires.factor c.requires.first c.requires.second
    c.add_multiple_row.auto.into c.requires.same c.add_multiple_row.ensures.sums

pub returns-else-not-none-clause-sums : goal.returns-else-not-none-clause-sums
returns-else-not-none-clause-sums g c i l =
    let F = g.F.Field in
    let law = g.met.F.Field.lawful.field in
    let z = F.coding.ops.nought in
    nothing_added F.is_element F.coding.ops law c.args.by (get_or c.args.into.now i z) (get_or c.args.other.now i z)
    (c.requires.nothing c.if-not-none.false)
    (c.requires.first i z (omega (arith, c.requires.same))) (c.requires.second i z l)
