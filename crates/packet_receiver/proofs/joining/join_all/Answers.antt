use Rattle.std.proofs.Common.{ℕ, ◌≤◌, All, sym, subst}
use Rattle.std.proofs.lemmas.List.Elements.{All-head, All-tail}
use Rattle.packet_set.specs.Packets.{Packets}
use Rattle.packet_group.specs.Tags.{AreTagsOf}
use Rattle.packet_receiver.specs.Arrivals.{GroupState}
use Rattle.packet_receiver.specs.inside.Joining.{CanJoin, JoinsOne, JoinsAll, IsReadyAt}
use Rattle.packet_receiver.proofs.Filling.{can_first, can_after, joins_next, joins_end}
use Rattle.packet_receiver.proofs.joining.join_all.Goals as goal

pub loop-group-preserved : goal.loop-group-preserved
loop-group-preserved g c =
    let F = g.F.Field in
    let es = c.loop-group.groups.entries in
    let mid = c.join_at.new.groups.entries in
    let k = c.in-Some.group.now in
    let one = subst (λ (p : Packets). JoinsOne F.is_element F.coding es k p c.loop-group.steps mid c.join_at.new.steps)
    c.packets.ensures c.join_at.ensures.joined in
    let can = can_first F.is_element F.coding es (k, c.in-Some.other.now) c.next.new.self
    (subst (CanJoin F.is_element F.coding es) c.in-Some.ensures.steps c.loop-group.invariant.ready) in
    let few : ℕ × GroupState g.row.F-Elem.Denot → Type 0 = λ e. e.1.packets.header.table.packets ≤ F.COUNT in
    let all = subst (All few) c.in-Some.ensures.steps c.loop-group.invariant.points in
    record {
      points = All-tail few (k, c.in-Some.other.now) c.next.new.self all;
      ready =
          can_after F.is_element F.coding es k c.in-Some.other.now.packets c.loop-group.steps mid c.join_at.new.steps
          one c.next.new.self can.1;
      joined =
          λ after more all.
          c.loop-group.invariant.joined after more
          (subst (λ it. JoinsAll F.is_element F.coding es c.loop-group.steps it after more)
          (sym c.in-Some.ensures.steps)
          (joins_next F.is_element F.coding es c.loop-group.steps
          (k, c.in-Some.other.now) c.next.new.self mid c.join_at.new.steps after more one all));
    }

pub join_at-requires-clause-points : goal.join_at-requires-clause-points
join_at-requires-clause-points g c =
    let few : ℕ × GroupState g.row.F-Elem.Denot → Type 0 = λ e. e.1.packets.header.table.packets ≤ g.F.Field.COUNT in
    let all = subst (All few) c.in-Some.ensures.steps c.loop-group.invariant.points in
    subst (λ (p : Packets). p.header.table.packets ≤ g.F.Field.COUNT) (sym c.packets.ensures)
    (All-head few (c.in-Some.group.now, c.in-Some.other.now) c.next.new.self all)

pub join_at-requires-clause-tags : goal.join_at-requires-clause-tags
join_at-requires-clause-tags g c =
    subst (λ (p : Packets). AreTagsOf p c.tags.result.now) (sym c.packets.ensures) c.tags.ensures

pub join_at-requires-clause-ready : goal.join_at-requires-clause-ready
join_at-requires-clause-ready g c =
    let F = g.F.Field in
    let es = c.loop-group.groups.entries in
    let can = can_first F.is_element F.coding es (c.in-Some.group.now, c.in-Some.other.now) c.next.new.self
    (subst (CanJoin F.is_element F.coding es) c.in-Some.ensures.steps c.loop-group.invariant.ready) in
    subst (λ (p : Packets). IsReadyAt F.is_element F.coding es c.in-Some.group.now p) (sym c.packets.ensures) can.0

pub returns : goal.returns
returns g c =
    let F = g.F.Field in
    let es = c.loop-group.groups.entries in
    record {
      joined = c.loop-group.invariant.joined es c.loop-group.steps
          (subst (λ it. JoinsAll F.is_element F.coding es c.loop-group.steps it es c.loop-group.steps)
          (sym c.in-None.ensures.steps.0) (joins_end F.is_element F.coding es c.loop-group.steps));
    }
