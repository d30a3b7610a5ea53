use Rattle.std.proofs.Common.{◌<◌, ◌≤◌, ◌*◌, length, sym, ap, subst, ◌∙◌, arith, Some, None}
use Rattle.pet_base.specs.declared.limits.TheConstants.{MAX_GROUPS}
use Rattle.stripe_plan.specs.Layers.{needs_of}
use Rattle.packet_frame.specs.declared.frame.Header.{Header}
use Rattle.pet_receive.specs.Arrivals.{kept_set}
use Rattle.packet_rebuild.specs.laws.MessageLaws.{message_long}
use Rattle.packet_rebuild.specs.laws.RebuiltLaws.{open_of}
use Rattle.packet_rebuild.proofs.Headers.{header_in_range}
use Rattle.packet_rebuild.proofs.LeastLayer.{fault_is, all_shown_of}
use Rattle.packet_rebuild.proofs.encoder.encoder_in.Goals as goal

pub returns-in-Some-clause-refused : goal.returns-in-Some-clause-refused
returns-in-Some-clause-refused g c =
    λ _.
    let o = open_of (kept_set c.args.receiver.now) c.args.group c.args.header.now c.requires.header in
    fault_is (kept_set c.args.receiver.now) c.args.group o.0 o.1 (Some c.in-Some.layer)
    (sym (c.in-Some.ensures o.0 o.1))

pub message_of-requires : goal.message_of-requires
message_of-requires g c = record {
  shown =
      λ layer lt.
      let o = open_of (kept_set c.args.receiver.now) c.args.group c.args.header.now c.requires.header in
      let layers = ap (λ (h : Header). length h.table.layers) o.2 in
      all_shown_of (kept_set c.args.receiver.now) c.args.group o.0 o.1 (sym (c.in-None.ensures o.0 o.1)) layer
      (omega (arith, lt, layers, ap length c.layers.ensures.value));
}

pub made-requires-clause-groups : goal.made-requires-clause-groups
made-requires-clause-groups g c =
    let o = open_of (kept_set c.args.receiver.now) c.args.group c.args.header.now c.requires.header in
    subst (λ (h : Header). h.groups ≤ MAX_GROUPS) o.2
    (header_in_range (kept_set c.args.receiver.now) c.args.group o.0 c.requires.sound o.1).0

pub made-requires-clause-group : goal.made-requires-clause-group
made-requires-clause-group g c =
    let o = open_of (kept_set c.args.receiver.now) c.args.group c.args.header.now c.requires.header in
    subst (λ (h : Header). h.group < h.groups) o.2
    (header_in_range (kept_set c.args.receiver.now) c.args.group o.0 c.requires.sound o.1).1

pub made-requires-clause-message : goal.made-requires-clause-message
made-requires-clause-message g c =
    let o = open_of (kept_set c.args.receiver.now) c.args.group c.args.header.now c.requires.header in
    let layers = ap (λ (h : Header). length h.table.layers) o.2 in
    let long =
    message_long g.F.Field.is_element g.F.Field.coding c.args.receiver.now c.args.group _ _ o.0 c.requires.held.0
    c.requires.width c.in_ok-message-in-None.ensures
    (omega (arith, layers, ap length c.layers.ensures.value)) c.requires.held.1 o.1 in
    ap length c.deref.ensures.value ∙ long ∙ ap (λ (h : Header). length (needs_of h.table.layers) * 2) o.2
    ∙ ap (λ w. length (needs_of c.args.header.now.table.layers) * w) (sym c.requires.width)

pub returns-in_ok-made-in-None-clause-ok : goal.returns-in_ok-made-in-None-clause-ok
returns-in_ok-made-in-None-clause-ok g c =
    let o = open_of (kept_set c.args.receiver.now) c.args.group c.args.header.now c.requires.header in
    fault_is (kept_set c.args.receiver.now) c.args.group o.0 o.1 None (sym (c.in-None.ensures o.0 o.1))
