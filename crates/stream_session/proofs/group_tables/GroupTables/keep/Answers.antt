-- The layers of one group more.
use Rattle.std.proofs.Common.{refl}
use Rattle.stream_session.proofs.OneGroupMore.{keeps_more}
use Rattle.stream_session.proofs.group_tables.GroupTables.keep.Goals as goal

pub returns-clause-kept : goal.returns-clause-kept
returns-clause-kept c priority cuts few fit h =
    keeps_more c.args.self.now _ priority cuts c.args.cut.now _ refl c.in_ok-push.ensures.items
    (c.layers_of-layers.ensures priority h.needs) few fit h
