use Rattle.std.proofs.Math.Nat.{mul_comm}
use Rattle.std.specs.Prelude.{IfSome, vec_capacity}
use Rattle.std.proofs.Common.{◌≡◌, ℕ, ◌+◌, ◌*◌, ◌<◌, ◌≤◌, List, ◌∷◌, [], ◌++◌, Option, None, All, length, sym, ap}
use Rattle.std.proofs.Common.{◌∙◌, arith, subst}
use Rattle.std.proofs.lemmas.List.Elements.{All-from_get_or}
use Rattle.pet_interp.specs.Progressive.{Held, step_bound, lengths_of}
use Rattle.stripe_plan.specs.Layers.{AllNeeded, plan_ends, plan_stripes}
use Rattle.stripe_plan.proofs.PlanLemmas.{length-plan_stripes}
use Rattle.packet_set.specs.Packets.{Packets, slot_at, with_packet}
use Rattle.packet_group.specs.OpenGroup.{GroupState, HoldsAfter, layers_of, count_in, stripe_lengths}
use Rattle.packet_group.specs.Stored.{IsStored, state_of}
use Rattle.packet_group.specs.inside.Learning.{CanLearn, Learns}
use Rattle.packet_group.proofs.GivenBack.{holds_learnt, given_back_learnt, message_learnt, shown_learnt}
use Rattle.packet_group.proofs.GivenBack.{can_learn, cost_learnt}
use Rattle.packet_group.proofs.Holding.{puts_new}
use Rattle.packet_group.proofs.Tagging.{tags_stay}
use Rattle.packet_group.proofs.group.OpenGroup.keep.Given.{Over}
use Rattle.packet_group.proofs.group.OpenGroup.keep.Goals as goal
use Rattle.packet_group.proofs.group.OpenGroup.keep.Goals.{After-point-x, Joined-self-learn}

pub point-x-requires : goal.point-x-requires
point-x-requires g c = omega (arith, c.from.ensures, c.requires.number, c.requires.table.few_packets, c.requires.points)

-- ---- the group before the packet

packets_are : (g : Over) (c : After-point-x g) → c.self.inside.packets ≡ c.args.self.now.packets
packets_are g c = ap (λ (v : GroupState g.row.F-Elem.Denot). v.packets) c.self.view_is

holds : (g : Over) (c : After-point-x g) (numbers : List ℕ)
    → HoldsAfter g.F.Field.is_element g.F.Field.coding c.args.self.now numbers
    → HoldsAfter g.F.Field.is_element g.F.Field.coding
    (state_of g.F.Field.coding c.self.inside.packets c.self.inside.message.items c.self.inside.progress) numbers
holds g c numbers h =
    subst (λ (v : GroupState g.row.F-Elem.Denot). HoldsAfter g.F.Field.is_element g.F.Field.coding v numbers)
    (sym c.self.view_is) h

slots_are : (g : Over) (c : After-point-x g)
    → length c.self.inside.packets.slots ≡ c.args.self.now.packets.header.table.packets
slots_are g c = ap (λ (p : Packets). length p.slots) (packets_are g c) ∙ c.requires.slots

few : (g : Over) (c : After-point-x g) → length c.self.inside.packets.slots ≤ g.F.Field.COUNT
few g c = omega (arith, slots_are g c, c.requires.table.few_packets, c.requires.points)

inside : (g : Over) (c : After-point-x g) → c.args.number < length c.self.inside.packets.slots
inside g c = omega (arith, slots_are g c, c.requires.number)

absent : (g : Over) (c : After-point-x g) → slot_at c.self.inside.packets c.args.number ≡ None
absent g c = ap (λ (p : Packets). slot_at p c.args.number) (packets_are g c) ∙ c.requires.absent

long : (g : Over) (c : After-point-x g)
    → length c.args.payload.now ≡ length (plan_stripes (layers_of c.self.inside.packets)) * g.F.Field.coding.width
long g c =
    let G = c.args.self.now in
    let width = g.F.Field.coding.width in
    let ends = plan_ends (layers_of G.packets) in
    c.requires.payload ∙ ap (λ w. w * length ends) c.requires.word ∙ mul_comm width (length ends)
    ∙ ap (λ n. n * width) (sym (length-plan_stripes (layers_of G.packets)))
    ∙ ap (λ (p : Packets). length (plan_stripes (layers_of p)) * width) (sym (packets_are g c))

point_is : (g : Over) (c : After-point-x g) → c.point-x.result ≡ g.F.Field.coding.point_of c.args.number
point_is g c = c.point-x.ensures ∙ ap g.F.Field.coding.point_of c.from.ensures

put_is : (g : Over) (c : After-point-x g)
    → c.put.new.self ≡ with_packet c.self.inside.packets c.args.number c.args.payload.now
put_is g c =
    puts_new c.self.inside.packets c.args.number c.args.payload.now c.put.result c.put.new.self (absent g c)
    c.put.ensures.told c.put.ensures.put

needed : (g : Over) (c : After-point-x g) → AllNeeded (layers_of c.self.inside.packets)
needed g c = subst (λ (p : Packets). AllNeeded (layers_of p)) (sym (packets_are g c)) c.requires.table.needed

payload_bytes : (g : Over) (c : After-point-x g) → All (λ b. b < 256) c.args.payload.now
payload_bytes g c = All-from_get_or (λ b. b < 256) c.args.payload.now 0 (λ k l. omega (arith, c.type_inv.payload k))

-- ---- what `learn` requires, and what it did

pub learn-requires-clause-point : goal.learn-requires-clause-point
learn-requires-clause-point g c =
    let F = g.F.Field in
    let low : c.args.number < F.COUNT =
    omega (arith, c.requires.number, c.requires.table.few_packets, c.requires.points) in
    subst F.is_element (sym (point_is g (goal.at.learn-requires-clause-point g c).After-point-x))
    (g.met.F.Field.lawful.points.point_is c.args.number low)

pub learn-requires-clause-width : goal.learn-requires-clause-width
learn-requires-clause-width g c =
    let h = (goal.at.learn-requires-clause-width g c).After-point-x in
    long g h
    ∙ ap (λ (p : Packets). length (plan_stripes (layers_of p)) * g.F.Field.coding.width) (sym (put_is g h))

pub learn-requires-clause-can : goal.learn-requires-clause-can
learn-requires-clause-can g c =
    let F = g.F.Field in
    let h = (goal.at.learn-requires-clause-can g c).After-point-x in
    let can = can_learn F.is_element F.coding F.COUNT g.met.F.Field.lawful c.self.inside.packets
    c.self.inside.message.items c.args.number c.args.payload.now (needed g h) (inside g h) (absent g h) (few g h)
    (long g h) (payload_bytes g h) c.self.inside.progress c.requires.held.0
    (omega (arith, slots_are g h, c.requires.table.few_packets)) (holds g h c.requires.held.0 c.requires.held.1) in
    subst (λ (o : Option (Held g.row.F-Elem.Denot)).
    IfSome o (CanLearn F.is_element F.coding (layers_of c.put.new.self) c.point-x.result))
    (sym c.take-progress.ensures.value)
    (subst (λ (p : Packets). IfSome c.self.inside.progress
    (CanLearn F.is_element F.coding (layers_of p) c.point-x.result)) (sym (put_is g h))
    (subst (λ x. IfSome c.self.inside.progress (CanLearn F.is_element F.coding (layers_of c.self.inside.packets) x))
    (sym (point_is g h)) can))

-- the packet before, as `GivenBack` has it
learns : (g : Over) (c : Joined-self-learn g) → let F = g.F.Field in
    Learns F.is_element F.coding (layers_of c.self.inside.packets) (F.coding.point_of c.args.number) c.args.payload.now
    c.self.inside.progress c.learn.result c.self.inside.message.items c.learn.new.message.items
learns g c =
    let F = g.F.Field in
    let E = g.row.F-Elem.Denot in
    let h = (goal.at.returns-clause-held g c).After-point-x in
    let x = F.coding.point_of c.args.number in
    let Does : Packets → E → Option (Held E) → Type 0 = λ p y o.
    Learns F.is_element F.coding (layers_of p) y c.args.payload.now o c.learn.result c.self.inside.message.items
    c.learn.new.message.items in
    subst (λ (p : Packets). Does p x c.self.inside.progress) (put_is g h)
    (subst (λ y. Does c.put.new.self y c.self.inside.progress) (point_is g h)
    (subst (λ o. Does c.put.new.self c.point-x.result o) c.take-progress.ensures.value c.learn.ensures.learns))

pub invariant_of-self : goal.invariant_of-self
invariant_of-self g c =
    let F = g.F.Field in
    let h = (goal.at.returns-clause-held g c).After-point-x in
    let p = c.self.inside.packets in
    let numbers = c.requires.held.0 in
    let held = holds g h numbers c.requires.held.1 in
    let lawful = g.met.F.Field.lawful in
    let old = c.self.inside.message.items in
    let new = c.learn.new.message.items in
    let number = c.args.number in
    let payload = c.args.payload.now in
    let back = c.self.invariant.given_back in
    subst (λ q. IsStored F.coding q c.learn.result (vec_capacity c.learn.new.message) new c.self.inside.tags.items)
    (sym (put_is g h))
    (record {
      tagged = tags_stay p number payload c.self.inside.tags.items (absent g h) c.self.invariant.tagged;
      given_back =
          given_back_learnt F.is_element F.coding F.COUNT lawful p old number payload (needed g h) (inside g h)
          (absent g h) (few g h) (long g h) (payload_bytes g h) c.self.inside.progress c.learn.result new numbers back
          held (learns g c);
      room = omega (arith, c.self.invariant.room, c.learn.ensures.room);
      message =
          message_learnt F.is_element F.coding F.COUNT lawful p old number payload (needed g h) (inside g h)
          (absent g h) (few g h) (long g h) (payload_bytes g h) c.self.inside.progress c.learn.result new
          c.self.invariant.message (learns g c);
      shown =
          shown_learnt F.is_element F.coding F.COUNT lawful p old number payload (needed g h) (inside g h)
          (absent g h) (few g h) (long g h) (payload_bytes g h) c.self.inside.progress c.learn.result new numbers back
          held c.self.invariant.shown (learns g c);
    })

pub returns-clause-held : goal.returns-clause-held
returns-clause-held g c numbers held =
    let F = g.F.Field in
    let h = (goal.at.returns-clause-held g c).After-point-x in
    let p = c.self.inside.packets in
    let more = numbers ++ (c.args.number ∷ []) in
    subst (λ q. HoldsAfter F.is_element F.coding (state_of F.coding q c.learn.new.message.items c.learn.result) more)
    (sym (put_is g h))
    (holds_learnt F.is_element F.coding F.COUNT g.met.F.Field.lawful p c.self.inside.message.items c.args.number
    c.args.payload.now (needed g h) (inside g h) (absent g h) (few g h) (long g h) (payload_bytes g h)
    c.self.inside.progress c.learn.result c.learn.new.message.items numbers c.self.invariant.given_back
    (holds g h numbers held) c.self.invariant.shown (learns g c))

pub returns-clause-cost : goal.returns-clause-cost
returns-clause-cost g c =
    let F = g.F.Field in
    let h = (goal.at.returns-clause-held g c).After-point-x in
    let before = c.args.steps.now in
    let after_it = c.learn.new.steps in
    let cost = subst (λ (o : Option (Held g.row.F-Elem.Denot)).
    IfSome o (λ held. after_it ≤ before + step_bound held.met (lengths_of held))) c.take-progress.ensures.value
    c.learn.ensures.cost in
    subst (λ (q : Packets). after_it ≤ before + step_bound (count_in q) (stripe_lengths (layers_of q))) (packets_are g h)
    (cost_learnt F.is_element F.coding F.COUNT g.met.F.Field.lawful c.self.inside.packets c.self.inside.message.items
    c.args.number c.args.payload.now (needed g h) (inside g h) (absent g h) (few g h) (long g h) (payload_bytes g h)
    c.self.inside.progress c.requires.held.0 before after_it (holds g h c.requires.held.0 c.requires.held.1) cost
    (λ none. c.learn.ensures.idle (c.take-progress.ensures.value ∙ none)))
