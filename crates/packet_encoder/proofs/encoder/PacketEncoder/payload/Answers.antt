use Rattle.std.proofs.Common.{◌*◌, ◌++◌, ◌∙◌, ap, ap₂, length, arith}
use Rattle.stripe_plan.specs.Layers.{plan_ends}
use Rattle.packet_encoder.specs.CodedGroup.{CodedGroup}
use Rattle.packet_encoder.proofs.Made.{values_are, values_count}
use Rattle.packet_encoder.proofs.Payloads.{payload_of_values, payload_long}
use Rattle.packet_encoder.proofs.encoder.PacketEncoder.payload.Goals as goal

pub append_elements-requires-clause-elements : goal.append_elements-requires-clause-elements
append_elements-requires-clause-elements g c =
    let F = g.F.Field in
    let s = c.self.inside in
    values_are F.is_element F.COUNT F.coding g.met.F.Field.lawful s.header s.blocks.items s.laid.items c.self.invariant.0
    c.args.self.now.encoding (ap (λ (v : CodedGroup). v.encoding) c.self.view_is) c.args.number c.requires.number
    c.args.values.now c.requires.values

pub append_elements-requires-clause-room : goal.append_elements-requires-clause-room
append_elements-requires-clause-room g c =
    let F = g.F.Field in
    let s = c.self.inside in
    let long =
    values_count F.is_element F.COUNT F.coding g.met.F.Field.lawful s.header s.blocks.items s.laid.items c.self.invariant.0
    c.args.self.now.encoding (ap (λ (v : CodedGroup). v.encoding) c.self.view_is) c.args.number c.requires.number
    c.args.values.now c.requires.values in
    let same = ap (λ (v : CodedGroup). F.coding.width * length (plan_ends v.encoding.header.table.layers)) c.self.view_is in
    omega (arith, c.in_ok-reserve.ensures.ok, c.payload_length.ensures.value, long, same)

pub returns-clause-payload : goal.returns-clause-payload
returns-clause-payload g c =
    let F = g.F.Field in
    let s = c.self.inside in
    c.append_elements.ensures.items
    ∙ ap₂ ◌++◌ c.reserve.ensures.items
    (payload_of_values F.is_element F.COUNT F.coding g.met.F.Field.lawful s.header s.blocks.items s.laid.items c.self.invariant.0
    c.args.self.now.encoding (ap (λ (v : CodedGroup). v.encoding) c.self.view_is) c.args.number c.requires.number
    c.args.values.now c.requires.values)

pub returns-clause-long : goal.returns-clause-long
returns-clause-long g c =
    let F = g.F.Field in
    let s = c.self.inside in
    payload_long F.is_element F.COUNT F.coding g.met.F.Field.lawful s.header s.blocks.items s.laid.items c.self.invariant.0
    c.args.self.now.encoding (ap (λ (v : CodedGroup). v.encoding) c.self.view_is) c.args.number c.requires.number
    ∙ ap (λ (v : CodedGroup). F.coding.width * length (plan_ends v.encoding.header.table.layers)) c.self.view_is
