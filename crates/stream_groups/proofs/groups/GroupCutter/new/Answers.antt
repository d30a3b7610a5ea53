-- Nothing was read.
use Rattle.std.proofs.Common.{refl}
use Rattle.stream_groups.proofs.Reading.{new_cut}
use Rattle.stream_groups.proofs.groups.GroupCutter.new.Goals as goal

pub returns-clause-cut : goal.returns-clause-cut
returns-clause-cut c =
    new_cut _ c.args.priority.now c.new.ensures c.in_ok-new.ensures c.new-3.ensures.items refl c.new-4.ensures.items
    refl refl refl
