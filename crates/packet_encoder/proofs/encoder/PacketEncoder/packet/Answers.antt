use Rattle.packet_encoder.specs.CodedGroup.{CodedGroup}
use Rattle.std.proofs.Common.{ap}
use Rattle.packet_encoder.proofs.Made.{blocks_wide, has_point, is_point, seen}
use Rattle.packet_encoder.proofs.encoder.PacketEncoder.packet.Goals as goal

pub point-x-requires : goal.point-x-requires
point-x-requires g c =
    let F = g.F.Field in
    let s = c.self.inside in
    has_point F.is_element F.COUNT F.coding g.met.F.Field.lawful s.header s.blocks.items s.laid.items c.self.invariant.0
    c.args.self.now.encoding
    (ap (λ (v : CodedGroup). v.encoding) c.self.view_is) c.args.number c.requires c.from.result c.from.ensures

pub stripe_values-requires-clause-count : goal.stripe_values-requires-clause-count
stripe_values-requires-clause-count g c =
    let F = g.F.Field in
    let s = c.self.inside in
    blocks_wide F.is_element F.COUNT F.coding g.met.F.Field.lawful s.header s.blocks.items s.laid.items
    c.self.invariant.0
    c.stripes-count.result c.deref.result.now c.stripes-count.ensures.listed c.deref.ensures.value

pub stripe_values-requires-clause-point : goal.stripe_values-requires-clause-point
stripe_values-requires-clause-point g c =
    let F = g.F.Field in
    let s = c.self.inside in
    is_point F.is_element F.COUNT F.coding g.met.F.Field.lawful s.header s.blocks.items s.laid.items c.self.invariant.0
    c.args.self.now.encoding (ap (λ (v : CodedGroup). v.encoding) c.self.view_is) c.args.number c.requires
    c.from.result c.from.ensures c.point-x.result c.point-x.ensures

pub frame-requires-clause-values : goal.frame-requires-clause-values
frame-requires-clause-values g c =
    let F = g.F.Field in
    let s = c.self.inside in
    seen F.is_element F.COUNT F.coding g.met.F.Field.lawful s.header s.blocks.items s.laid.items c.self.invariant.0
    c.args.self.now.encoding (ap (λ (v : CodedGroup). v.encoding) c.self.view_is) c.args.number c.requires
    c.from.result c.from.ensures c.point-x.result c.point-x.ensures
    c.deref.result.now c.deref-2.result.now c.in_ok-values.values.items c.deref-3.result.now c.deref.ensures.value
    c.deref-2.ensures.value c.in_ok-values.ensures.values c.deref-3.ensures.value
