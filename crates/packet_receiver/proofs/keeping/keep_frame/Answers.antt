use Rattle.packet_frame.specs.View.{view}
use Rattle.packet_receiver.proofs.Grown.{is_open, ready_opened, grown_opened, cost_opened}
use Rattle.packet_receiver.proofs.keeping.keep_frame.Goals as goal

pub keep_in-requires-clause-ready : goal.keep_in-requires-clause-ready
keep_in-requires-clause-ready g c =
    let F = g.F.Field in
    ready_opened F.is_element F.coding c.args.groups.now.entries
    (view c.args.frame.now) c.open_missing.new.groups.entries c.in_ok-more.ensures.opened c.requires.ready

pub keep_in-requires-clause-open : goal.keep_in-requires-clause-open
keep_in-requires-clause-open g c =
    let F = g.F.Field in
    is_open F.is_element F.coding c.args.groups.now.entries
    (view c.args.frame.now) c.open_missing.new.groups.entries c.in_ok-more.ensures.opened

pub returns-clause-grown : goal.returns-clause-grown
returns-clause-grown g c =
    let F = g.F.Field in
    grown_opened F.is_element F.coding c.args.groups.now.entries
    (view c.args.frame.now) c.open_missing.new.groups.entries c.in_ok-more.ensures.opened
    c.keep_in.new.groups.entries c.keep_in.ensures.ordered c.keep_in.ensures.kept

pub returns-clause-more : goal.returns-clause-more
returns-clause-more g c = c.in_ok-more.ensures.more

pub returns-clause-cost : goal.returns-clause-cost
returns-clause-cost g c =
    let F = g.F.Field in
    cost_opened F.is_element F.coding c.args.groups.now.entries
    (view c.args.frame.now) c.open_missing.new.groups.entries c.in_ok-more.ensures.opened
    c.args.steps.now c.keep_in.new.steps c.keep_in.ensures.cost
