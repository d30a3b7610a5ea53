use Rattle.std.proofs.Common.{sym, ◌∙◌}
use Rattle.priority_file.specs.Draft.{class_of}
use Rattle.priority_file.proofs.EachRead.{read_nothing, read_more, unread, read_all}
use Rattle.priority_file.proofs.draft.kinds_of.Goals as goal

pub loop-word-init : goal.loop-word-init
loop-word-init c = read_nothing class_of c.args.words.now c.new-kinds.result.items c.new-kinds.ensures.items

pub loop-word-preserved : goal.loop-word-preserved
loop-word-preserved c =
    rw c.in_ok-push.ensures.items (read_more class_of c.args.words.now c.loop-word.word-index c.loop-word.kinds.items
    c.word-item.result c.in-Some.class c.loop-word-test.true c.word-item.is
    (sym c.class_of.ensures ∙ c.in-Some.is) c.loop-word.invariant)

pub returns : goal.returns
returns c =
    read_all class_of c.args.words.now c.loop-word.word-index c.loop-word.kinds.items c.loop-word-test.false
    c.loop-word.invariant

pub returns-in_default : goal.returns-in_default
returns-in_default c =
    unread class_of c.args.words.now c.loop-word.word-index c.loop-word.kinds.items c.word-item.result
    c.loop-word-test.true c.word-item.is (sym c.class_of.ensures ∙ c.in_default.is) c.loop-word.invariant
