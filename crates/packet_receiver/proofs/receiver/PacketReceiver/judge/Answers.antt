use Rattle.std.specs.Prelude.{option_copied}
use Rattle.std.proofs.Common.{sym, ap, ◌∙◌}
use Rattle.packet_frame.specs.View.{view}
use Rattle.packet_receiver.specs.inside.Receiving.{verdict_by}
use Rattle.packet_receiver.proofs.Received.{foreign_seen, clash_seen, verdict_seen}
use Rattle.packet_receiver.proofs.receiver.PacketReceiver.judge.Goals as goal

pub returns-then-ne-clause-verdict : goal.returns-then-ne-clause-verdict
returns-then-ne-clause-verdict g c =
    foreign_seen c.self.view_is g.F.Field.coding.width (view c.args.frame.now) c.ne.result c.ne.ensures c.if-ne.true

pub returns-then-is_other_count-clause-verdict : goal.returns-then-is_other_count-clause-verdict
returns-then-is_other_count-clause-verdict g c =
    clash_seen c.self.view_is g.F.Field.coding.width (view c.args.frame.now) c.ne.result c.ne.ensures c.if-ne.false
    c.self.invariant.set c.self.inside.told c.self.invariant.told_is c.is_other_count.result c.is_other_count.ensures
    c.if-is_other_count.true

pub returns-clause-verdict : goal.returns-clause-verdict
returns-clause-verdict g c =
    let f = view c.args.frame.now in
    let mine = option_copied c.packets_in.result in
    c.judge_group.ensures
    ∙ ap (λ w. verdict_by w f mine c.self.inside.limit c.self.inside.cost) (c.WIDTH.ensures ∙ sym g.met.F.Field.wide)
    ∙ ap (verdict_by g.F.Field.coding.width f mine c.self.inside.limit) c.self.invariant.cost_is
    ∙ verdict_seen c.self.view_is g.F.Field.coding.width f c.ne.result c.ne.ensures c.if-ne.false
    c.self.invariant.set c.self.inside.told c.self.invariant.told_is c.is_other_count.result c.is_other_count.ensures
    c.if-is_other_count.false mine c.packets_in.ensures
