-- The layers that are compared are those of the cut.
use Rattle.std.proofs.Common.{◌∙◌, ap, ap₂, sym}
use Rattle.std.proofs.lemmas.Slice.Eq.{slice_eq-Decides}
use Rattle.stripe_plan.specs.laws.SameLaws.{same_layer-Decides}
use Rattle.layer_split.specs.Layers.{Cut}
use Rattle.stream_session.specs.Tables.{sizes_by}
use Rattle.stream_session.specs.laws.TableLaws.{by_rules}
use Rattle.stream_session.proofs.Tabled.{table_decides}
use Rattle.stream_session.proofs.needs.is_table_of.Goals as goal

pub returns-then-own-packets : goal.returns-then-own-packets
returns-then-own-packets c =
    let priority = c.args.priority.now in
    let cut = c.args.cut.now in
    let own = c.new-own.ensures in
    let xs = c.as_slice-then-own-packets.result.now in
    let ys = c.layers.result.now in
    let is = c.as_slice-then-own-packets.ensures.value ∙ (c.sizes_of-sizes.ensures
    ∙ (ap₂ sizes_by (c.as_slice.ensures.value ∙ ap (λ (k : Cut). k.lengths) c.cut.view_is)
    (c.as_slice-2.ensures.value ∙ own.needs) ∙ by_rules cut.lengths priority.layers)) in
    table_decides priority cut c.args.table.now xs ys c.eq.result
    (slice_eq-Decides same_layer-Decides xs ys c.eq.result c.eq.ensures) is c.layers.ensures.value
    (sym own.packets ∙ c.if-own-packets.true ∙ c.packets.ensures.value)
