use Rattle.std.proofs.Common.{refl}
use Rattle.stream_sample.proofs.Steps.{on_ok, picture_is, behind_is}
use Rattle.stream_sample.proofs.groups.append_picture.Goals as goal

pub returns-clause-ok : goal.returns-clause-ok
returns-clause-ok c =
    on_ok c.fill.result
    (λ is. picture_is c.args.filler.now.state c.args.picture c.args.into.now.items c.extend_from_slice.new.self.items
    c.fill.new.into.items _ c.saturating_sub.result c.in_ok-extend_from_slice.ensures.items refl
    c.saturating_sub.ensures is)
    c.fill.ensures.bytes

pub returns-clause-state : goal.returns-clause-state
returns-clause-state c =
    on_ok c.fill.result
    (λ is. behind_is c.args.filler.now.state c.fill.new.self.state c.saturating_sub.result c.args.picture
    c.saturating_sub.ensures is) c.fill.ensures.state
