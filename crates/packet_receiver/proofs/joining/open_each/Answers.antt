use Rattle.std.specs.Prelude.{nat_lt, filter}
use Rattle.std.proofs.Common.{◌≡◌, ℕ, Bool, sym, ap, ◌∙◌, subst}
use Rattle.packet_frame.specs.declared.frame.Header.{Header}
use Rattle.packet_set.specs.Packets.{Packets, count_in}
use Rattle.packet_receiver.specs.Arrivals.{GroupState}
use Rattle.packet_receiver.specs.inside.Joining.{OpensOne, OpensAll}
use Rattle.packet_receiver.proofs.Opened.{opens_next, opens_same, opens_end}
use Rattle.packet_receiver.proofs.joining.open_each.Goals as goal

pub loop-group-preserved : goal.loop-group-preserved
loop-group-preserved g c =
    let F = g.F.Field in
    let es = c.loop-group.groups.entries in
    let mid = c.open_missing.new.groups.entries in
    let header : c.header.result.now ≡ c.in-Some.other.now.packets.header =
    c.header.ensures.value ∙ ap (λ (p : Packets). p.header) c.packets.ensures in
    record {
      opened =
          λ after all.
          let one = subst (λ (h : Header). OpensOne F.is_element F.coding es c.in-Some.group.now h mid) header
          c.in_ok-open_missing.ensures.opened in
          c.loop-group.invariant.opened after
          (subst (λ it. OpensAll F.is_element F.coding es it after) (sym c.in-Some.ensures.steps)
          (opens_next F.is_element F.coding es mid after
          (c.in-Some.group.now, c.in-Some.other.now) c.next.new.self one all));
      same =
          opens_same F.is_element F.coding es mid c.in-Some.group.now c.header.result.now
          c.in_ok-open_missing.ensures.opened ∙ c.loop-group.invariant.same;
    }

pub returns-clause-opened : goal.returns-clause-opened
returns-clause-opened g c =
    let F = g.F.Field in
    let es = c.loop-group.groups.entries in
    c.loop-group.invariant.opened es (subst (λ it. OpensAll F.is_element F.coding es it es)
    (sym c.in-None.ensures.steps.0) (opens_end F.is_element F.coding es))

pub returns-in_err-open_missing-clause-same : goal.returns-in_err-open_missing-clause-same
returns-in_err-open_missing-clause-same g c =
    let some : ℕ × GroupState g.row.F-Elem.Denot → Bool = λ e. nat_lt 0 (count_in e.1.packets) in
    ap (filter some) c.in_err-open_missing.ensures.err.0 ∙ c.loop-group.invariant.same
