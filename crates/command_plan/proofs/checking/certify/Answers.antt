use Rattle.std.proofs.Common.{refl, ◌∙◌, arith}
use Rattle.std.proofs.lemmas.List.{length-map}
use Rattle.command_plan.proofs.GroupCertificates.{least_up_to, first_not_least, false_is}
use Rattle.command_plan.proofs.checking.certify.Goals as goal

pub returns-then-not-is-clause-cause : goal.returns-then-not-is-clause-cause
returns-then-not-is-clause-cause c =
    first_not_least (λ list. list.items) c.args.tables.now c.args.lists.now c.loop-group.group
    c.index-tables-group.result c.index-lists-group.result c.loop-group-test.true c.if-lists-tables.false
    c.index-tables-group.is c.index-lists-group.is c.as_slice.result.now c.as_slice.ensures.value
    (false_is c.in_ok-is.is' c.if-not-is.true c.in_ok-is.ensures)
    (length-map c.args.lists.now (λ list. list.items) ∙ c.if-lists-tables.false) c.loop-group.invariant.least

pub loop-group-preserved : goal.loop-group-preserved
loop-group-preserved c = record {
  least =
      least_up_to (λ list. list.items) c.args.tables.now c.args.lists.now c.loop-group.group
      c.index-tables-group.result c.index-lists-group.result c.loop-group-test.true c.if-lists-tables.false
      c.index-tables-group.is c.index-lists-group.is c.as_slice.result.now c.as_slice.ensures.value
      (c.in_ok-is.ensures.0 c.if-not-is.false) c.loop-group.invariant.least;
}

pub returns-clause-least : goal.returns-clause-least
returns-clause-least c = (
  refl,
  record {
    many = length-map c.args.lists.now (λ list. list.items) ∙ c.if-lists-tables.false;
    each = λ group within. c.loop-group.invariant.least group (omega (arith, within));
  },
)
