-- The table, and behind it the mark.
use Rattle.std.proofs.Common.{◌≡◌, sym}
use Rattle.stream_session.proofs.KeptInOrder.{keeps_group, pushed}
use Rattle.stream_session.proofs.marking.KeptGroups.keep.Goals as goal

pub returns : goal.returns
returns c =
    let is : c.args.group.now ≡ record { cut = c.group.inside.cut; bytes = c.group.inside.bytes.items } =
    sym c.group.view_is in
    keeps_group c.args.self.now _ c.args.group.now
    (record { cut = c.group.inside.cut; bytes = c.group.inside.bytes.items }) is
    c.in_ok-keep.ensures.kept (pushed c.args.self.now.marks.items _ c.of.result c.deref.result.now
    c.group.inside.bytes.items c.of.ensures c.deref.ensures.value c.in_ok-push.ensures.items)
