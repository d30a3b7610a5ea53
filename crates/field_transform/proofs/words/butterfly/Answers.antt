use Rattle.std.proofs.Common.{get_or, length, ◌<◌, ◌∙◌, sym, arith}
use Rattle.std.proofs.lemmas.List.{get_or_past}
use Rattle.field_transform.proofs.Made.{multiples_are, sums_are}
use Rattle.field_transform.proofs.Zeros.{nothing_added}
use Rattle.field_transform.proofs.words.butterfly.Goals as goal

pub returns-then-none-clause-low : goal.returns-then-none-clause-low
returns-then-none-clause-low g c i l =
    let F = g.F.Field in
    let law = g.met.F.Field.lawful.field in
    let z = F.coding.ops.nought in
    nothing_added F.is_element F.coding.ops law c.args.by (get_or c.args.low.now i z) (get_or c.args.high.now i z)
    (c.requires.nothing c.if-none.true)
    (c.requires.first i z (omega (arith, c.requires.same))) (c.requires.second i z l)

pub returns-then-none-clause-high : goal.returns-then-none-clause-high
returns-then-none-clause-high g c i l =
    let F = g.F.Field in
    let law = g.met.F.Field.lawful.field in
    let z = F.coding.ops.nought in
    let m : i < length c.args.low.now = omega (arith, c.requires.same) in
    c.add_words.ensures.sums i m
    ∙ law.plus_comm (get_or c.args.high.now i z) (get_or c.args.low.now i z) (c.requires.second i z l)
    (c.requires.first i z m)

pub returns-else-none-clause-elements : goal.returns-else-none-clause-elements
returns-else-none-clause-elements g c =
    let F = g.F.Field in
    let law = g.met.F.Field.lawful.field in
    multiples_are F.is_element F.coding.ops law c.args.by c.args.low.now c.args.high.now c.butterfly_row.new.low
    c.requires.factor c.requires.first c.requires.second
    c.butterfly_row.auto.low c.requires.same c.butterfly_row.ensures.low

pub returns-else-none-clause-others : goal.returns-else-none-clause-others
returns-else-none-clause-others g c =
    let F = g.F.Field in
    let law = g.met.F.Field.lawful.field in
    let low =
    multiples_are F.is_element F.coding.ops law c.args.by c.args.low.now c.args.high.now c.butterfly_row.new.low
    c.requires.factor c.requires.first c.requires.second
    c.butterfly_row.auto.low c.requires.same c.butterfly_row.ensures.low in
    sums_are F.is_element F.coding.ops law c.butterfly_row.new.low c.args.high.now c.butterfly_row.new.high low
    c.requires.second
    (c.butterfly_row.auto.high ∙ sym (c.butterfly_row.auto.low ∙ c.requires.same))
    (c.butterfly_row.auto.low ∙ c.requires.same) c.butterfly_row.ensures.high

pub returns-else-none-clause-low : goal.returns-else-none-clause-low
returns-else-none-clause-low g c = c.butterfly_row.ensures.low

pub add_words-requires : goal.add_words-requires
add_words-requires g c =
    record {
      same = sym c.requires.same;
      zeros = λ i l. get_or_past c.args.low.now i g.F.Field.coding.ops.nought l;
      first = c.requires.second;
      second = c.requires.first;
    }

pub returns-then-none-clause-elements : goal.returns-then-none-clause-elements
returns-then-none-clause-elements g c = c.requires.first

pub returns-then-none-clause-others : goal.returns-then-none-clause-others
returns-then-none-clause-others g c = c.add_words.ensures.elements

pub returns-else-none-clause-high : goal.returns-else-none-clause-high
returns-else-none-clause-high g c = c.butterfly_row.ensures.high

pub returns-else-none-clause-cost : goal.returns-else-none-clause-cost
returns-else-none-clause-cost g c = λ _. c.butterfly_row.ensures.cost
