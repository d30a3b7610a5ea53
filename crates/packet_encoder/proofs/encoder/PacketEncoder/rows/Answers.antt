use Rattle.std.proofs.Common.{ap, ◌∙◌, length}
use Rattle.stripe_plan.specs.Layers.{plan_stripes}
use Rattle.packet_encoder.specs.CodedGroup.{CodedGroup}
use Rattle.packet_encoder.proofs.Made.{blocks_wide}
use Rattle.packet_encoder.proofs.Ranges.{on_ok, rows_carried}
use Rattle.packet_encoder.proofs.encoder.PacketEncoder.rows.Goals as goal

pub value_rows-requires-clause-stripes : goal.value_rows-requires-clause-stripes
value_rows-requires-clause-stripes g c =
    let F = g.F.Field in
    let s = c.self.inside in
    blocks_wide F.is_element F.COUNT F.coding g.met.F.Field.lawful s.header s.blocks.items s.laid.items
    c.self.invariant.0
    c.stripes-wide.result c.deref.result.now c.stripes-wide.ensures.listed c.deref.ensures.value

pub returns-clause-rows : goal.returns-clause-rows
returns-clause-rows g c =
    let F = g.F.Field in
    let s = c.self.inside in
    on_ok _ _ c.value_rows.result
    (λ values h.
    rows_carried F.is_element F.COUNT F.coding g.met.F.Field.lawful s.header s.blocks.items s.laid.items
    c.self.invariant.0 c.args.self.now.encoding (ap (λ (v : CodedGroup). v.encoding) c.self.view_is)
    c.stripes-wide.result c.args.first c.from-2.result c.from.result c.args.count c.deref.result.now
    c.deref-2.result.now values.items
    (c.stripes-wide.ensures.listed
    ∙ ap (λ (v : CodedGroup). length (plan_stripes v.encoding.header.table.layers)) c.self.view_is)
    c.from.ensures c.from-2.ensures c.deref.ensures.value c.deref-2.ensures.value h)
    c.value_rows.ensures.rows
