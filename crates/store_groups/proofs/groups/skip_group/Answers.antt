use Rattle.std.proofs.Common.{sym, ◌∙◌, arith}
use Rattle.store_groups.proofs.GroupEntries.{left_first, next_whole, next_fine, left_none, left_more, left_end}
use Rattle.store_groups.proofs.groups.skip_group.Goals as goal

pub loop-done-init : goal.loop-done-init
loop-done-init c own other cut = left_first c.args.group c.args.count c.args.entries.now own other cut

pub returns-in_default : goal.returns-in_default
returns-in_default c = record {
  cut =
      λ own other cut.
      absurd (next_whole c.args.group c.args.count c.loop-done.done c.loop-done.rest.now c.loop-done-test.true own other
      (c.loop-done.invariant own other cut) c.in_default.ensures.whole);
}

pub group_of-requires : goal.group_of-requires
group_of-requires c =
    let cut = c.requires.cut in
    next_fine c.args.group c.args.count c.loop-done.done c.loop-done.rest.now c.loop-done-test.true cut.0 cut.1
    (c.loop-done.invariant cut.0 cut.1 cut.2) c.in-Some.datagram.now c.in-Some.ensures.datagram

pub returns-then-group_of-group : goal.returns-then-group_of-group
returns-then-group_of-group c = record {
  cut =
      λ own other cut.
      left_none c.args.group c.args.count c.loop-done.done c.loop-done.rest.now c.loop-done-test.true
      c.in-Some.datagram.now c.in-Some.ensures.datagram own other (c.loop-done.invariant own other cut)
      (λ same. c.if-group_of-group.true (c.group_of.ensures ∙ same));
}

pub loop-done-preserved : goal.loop-done-preserved
loop-done-preserved c own other cut =
    left_more c.args.group c.args.count c.loop-done.done c.loop-done.rest.now c.loop-done-test.true
    c.in-Some.datagram.now c.in-Some.ensures.datagram own other (c.loop-done.invariant own other cut)
    (sym c.group_of.ensures ∙ c.if-group_of-group.false) c.in-Some.after.now c.in-Some.ensures.after

pub returns : goal.returns
returns c = record {
  cut =
      λ own other cut.
      left_end c.args.group c.args.count c.loop-done.done c.loop-done.rest.now own other (omega arith)
      (c.loop-done.invariant own other cut);
}
