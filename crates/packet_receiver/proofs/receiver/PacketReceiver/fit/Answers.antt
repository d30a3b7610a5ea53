use Rattle.std.specs.Prelude.{sum_by}
use Rattle.std.proofs.Common.{◌+◌, sym, ap, ap₂, ◌∙◌}
use Rattle.packet_verdicts.specs.KeptSet.{cost_kept, cost_in}
use Rattle.packet_verdicts.specs.Union.{union}
use Rattle.packet_receiver.specs.inside.Joining.{packets_of, new_of}
use Rattle.packet_receiver.specs.Arrivals.{ReceiverState, kept_set}
use Rattle.packet_verdicts.specs.laws.UnionSound.{union_cost}
use Rattle.packet_receiver.proofs.Absorbed.{each_word}
use Rattle.packet_receiver.proofs.Fields.{receiver_of}
use Rattle.packet_receiver.proofs.Fitting.{session_refused, clash_refused, full_refused, all_fit}
use Rattle.packet_receiver.proofs.receiver.PacketReceiver.fit.Goals as goal

pub cost_with-requires-clause-two : goal.cost_with-requires-clause-two
cost_with-requires-clause-two g c = each_word (receiver_of c.other.inside) c.other.invariant.set 2 c.requires.width

pub returns-then-ne-clause-refused : goal.returns-then-ne-clause-refused
returns-then-ne-clause-refused g c =
    session_refused c.requires.width c.self.invariant c.other.invariant c.self.view_is c.other.view_is c.ne.result
    c.ne.ensures c.if-ne.true

pub returns-in-Some-clause-refused : goal.returns-in-Some-clause-refused
returns-in-Some-clause-refused g c =
    clash_refused c.requires.width c.self.invariant c.other.invariant c.self.view_is c.other.view_is c.ne.result
    c.ne.ensures c.if-ne.false c.in-Some.clash (sym c.in-Some.is ∙ c.find_clash.ensures)

pub returns-in-Err-clause-refused : goal.returns-in-Err-clause-refused
returns-in-Err-clause-refused g c =
    full_refused c.requires.width c.self.invariant c.other.invariant c.self.view_is c.other.view_is c.ne.result
    c.ne.ensures c.if-ne.false (sym c.in_default.is ∙ c.find_clash.ensures) c.in-Err.group c.in-Err.ensures.full

pub returns-in-Ok-clause-joined : goal.returns-in-Ok-clause-joined
returns-in-Ok-clause-joined g c =
    all_fit c.requires.width c.self.invariant c.other.invariant c.self.view_is c.other.view_is c.ne.result
    c.ne.ensures c.if-ne.false (sym c.in_default.is ∙ c.find_clash.ensures) c.in-Ok.ensures.fits

pub returns-in-Ok-clause-cost : goal.returns-in-Ok-clause-cost
returns-in-Ok-clause-cost g c =
    let r = receiver_of c.self.inside in
    let o = receiver_of c.other.inside in
    c.in-Ok.ensures.total
    ∙ ap (λ n. n + sum_by (λ e. cost_in e.1) (new_of (packets_of r.groups) (packets_of o.groups)))
    c.self.invariant.cost_is
    ∙ sym (union_cost (kept_set r) (kept_set o) c.self.invariant.set.rising c.other.invariant.set.rising)
    ∙ ap₂ (λ (s t : ReceiverState g.row.F-Elem.Denot). cost_kept (union (kept_set s) (kept_set t))) c.self.view_is
    c.other.view_is
