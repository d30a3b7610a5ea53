use Rattle.std.specs.Option.{option_or}
use Rattle.std.proofs.Common.{ℕ, Option, sym, ap₂, ◌∙◌, subst, map-id}
use Rattle.packet_verdicts.specs.Union.{shown_by_union}
use Rattle.packet_receiver.specs.Arrivals.{ReceiverState, kept_set}
use Rattle.packet_receiver.specs.Receiving.{IsReceiver}
use Rattle.packet_receiver.proofs.Absorbed.{some_kept, each_few, shown_is}
use Rattle.packet_receiver.proofs.Taken.{HasTaken, take_seen, taken_seen}
use Rattle.packet_receiver.proofs.receiver.PacketReceiver.absorb.Given.{Over}
use Rattle.packet_receiver.proofs.Fields.{receiver_of, receiver_with}
use Rattle.packet_receiver.proofs.receiver.PacketReceiver.absorb.Goals as goal
use Rattle.packet_receiver.proofs.receiver.PacketReceiver.absorb.Goals.{In_ok-shown}

pub take_in-requires-clause-some : goal.take_in-requires-clause-some
take_in-requires-clause-some g c = some_kept (receiver_of c.self.inside) c.self.invariant.set

pub take_in-requires-clause-points : goal.take_in-requires-clause-points
take_in-requires-clause-points g c =
    each_few (receiver_of c.other.inside) c.other.invariant.set g.F.Field.COUNT c.other.invariant.few

pub take_in-requires-clause-ready : goal.take_in-requires-clause-ready
take_in-requires-clause-ready g c opened all =
    take_seen c.requires.width c.self.invariant c.other.invariant c.self.view_is c.other.view_is
    c.in_ok-cost.ensures.joined opened all

-- what this receiver is once it has taken in all of the other
taken : (g : Over) (c : In_ok-shown g)
    → HasTaken g.F.Field.is_element g.F.Field.COUNT g.F.Field.coding c.args.self.now c.args.other.now
    (receiver_with c.self.inside c.take_in.new.groups.entries) (option_or c.self.inside.told c.other.inside.told)
    c.args.steps.now c.take_in.new.steps
taken g c =
    let joined = c.in_ok-shown.ensures.joined in
    taken_seen c.requires.width c.self.invariant c.other.invariant c.self.view_is c.other.view_is
    c.in_ok-cost.ensures.joined joined.0 joined.1 c.args.steps.now c.take_in.new.groups.entries c.take_in.new.steps
    joined.2

pub invariant_of-self-2 : goal.invariant_of-self-2
invariant_of-self-2 g c =
    let F = g.F.Field in
    subst (λ (t : Option ℕ). IsReceiver F.is_element F.COUNT F.coding
    (receiver_with c.self.inside c.take_in.new.groups.entries) t c.in_ok-cost.cost)
    (sym c.told_by_either-self-inside.ensures)
    ((taken g (goal.at.invariant_of-self-2 g c).In_ok-shown).again c.in_ok-cost.cost c.in_ok-cost.ensures.cost)

pub returns-clause-kept : goal.returns-clause-kept
returns-clause-kept g c = (taken g (goal.at.returns-clause-kept g c).In_ok-shown).set

pub returns-clause-shown : goal.returns-clause-shown
returns-clause-shown g c =
    map-id c.in_ok-shown.shown.items ∙ c.in_ok-shown.ensures.shown
    ∙ shown_is (kept_set (receiver_of c.self.inside)) (kept_set (receiver_of c.other.inside))
    c.other.invariant.set.rising
    ∙ ap₂ (λ (s t : ReceiverState g.row.F-Elem.Denot). shown_by_union (kept_set s) (kept_set t)) c.self.view_is
    c.other.view_is

pub returns-clause-order : goal.returns-clause-order
returns-clause-order g c order kept = (taken g (goal.at.returns-clause-order g c).In_ok-shown).order order kept

pub returns-clause-cost : goal.returns-clause-cost
returns-clause-cost g c = (taken g (goal.at.returns-clause-cost g c).In_ok-shown).cost

pub returns-clause-sound : goal.returns-clause-sound
returns-clause-sound g c =
    ((taken g (goal.at.returns-clause-sound g c).In_ok-shown).again c.in_ok-cost.cost c.in_ok-cost.ensures.cost).set
