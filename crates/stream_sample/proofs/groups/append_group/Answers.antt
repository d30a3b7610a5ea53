use Rattle.stream_sample.proofs.Steps.{on_ok, group_is, group_behind_is}
use Rattle.stream_sample.proofs.groups.append_group.Goals as goal

pub returns-clause-ok : goal.returns-clause-ok
returns-clause-ok c =
    on_ok c.append_pictures.result
    (λ is. group_is c.args.filler.now.state c.args.into.now.items c.extend_from_slice.new.self.items
    c.append_pictures.new.into.items c.in_ok-extend_from_slice.ensures.items is) c.append_pictures.ensures.ok

pub returns-clause-state : goal.returns-clause-state
returns-clause-state c =
    on_ok c.append_pictures.result
    (λ is. group_behind_is c.args.filler.now.state c.append_pictures.new.filler.state is)
    c.append_pictures.ensures.state
