use Rattle.std.proofs.Common.{◌∙◌, sym, nat_eq}
use Rattle.priority_file.proofs.ListWalks.{unlike_later, like_later, none_like}
use Rattle.priority_file.proofs.bounds.any_kind_twice.Goals as goal

pub loop-i-preserved : goal.loop-i-preserved
loop-i-preserved c =
    unlike_later nat_eq c.args.kinds.now c.loop-i.i c.index-kinds-i.result c.loop-i-test.true c.index-kinds-i.is
    (sym c.lists.ensures ∙ c.if-lists.false) c.loop-i.invariant

pub returns-then-lists : goal.returns-then-lists
returns-then-lists c =
    like_later nat_eq c.args.kinds.now c.loop-i.i c.index-kinds-i.result c.loop-i-test.true c.index-kinds-i.is
    (sym c.lists.ensures ∙ c.if-lists.true) c.loop-i.invariant

pub returns : goal.returns
returns c = none_like nat_eq c.args.kinds.now c.loop-i.i c.loop-i-test.false c.loop-i.invariant
