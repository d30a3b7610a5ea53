-- What the scanner told.
use Rattle.std.proofs.Common.{refl}
use Rattle.stream_groups.proofs.Reading.{scans_live, scans_refused}
use Rattle.stream_groups.proofs.groups.GroupCutter.scan_on.Goals as goal

pub returns-in-Ok-clause-scans : goal.returns-in-Ok-clause-scans
returns-in-Ok-clause-scans c none stream pieces read =
    scans_live c.args.self.now.pieces.items _ stream c.args.portion.now pieces none
    (c.feed.ensures.front stream pieces read) (c.in-Ok.ensures.ok stream pieces read)

pub returns-in_default-clause-scans : goal.returns-in_default-clause-scans
returns-in_default-clause-scans c none stream pieces read =
    scans_refused c.args.self.now.pieces.items _ stream c.args.portion.now pieces c.in-Err.scan refl
    (c.feed.ensures.front stream pieces read)
    (c.in-Err.ensures.refusal c.in_default.not-NoMemory stream pieces read)
    (c.in-Err.ensures.stopped c.in_default.not-NoMemory stream pieces read)
