use Rattle.std.proofs.Common.{List, All, subst, sym, length, ◌<◌}
use Rattle.outside_files.specs.Outputs.{Puts, PutsPart}
use Rattle.packet_met.specs.declared.records.ShownLayer.{ShownLayer}
use Rattle.outside_files.specs.laws.OutputLaws.{on_ok, on_err}
use Rattle.packet_met.proofs.LentLayers.{all_short, as_shown}
use Rattle.packet_met.proofs.records.put_shown.Goals as goal

pub put_records-requires-clause-short : goal.put_records-requires-clause-short
put_records-requires-clause-short g c =
    subst (λ (l : List ShownLayer). All (λ e. length e.bytes.now < 4294967296) l) (sym c.as_slice.ensures.value)
    (all_short g.F.Field.is_element g.F.Field.coding c.args.receiver.now c.args.group
    c.shown_layers-layers.result.items c.shown_layers-layers.ensures.bytes c.requires.held c.requires.narrow)

pub returns-clause-puts : goal.returns-clause-puts
returns-clause-puts g c =
    let old = g.P.Place.seen c.args.place.now in
    let new = g.P.Place.seen c.put_records.new.place in
    on_ok c.put_records.result
    (as_shown g.F.Field.is_element g.F.Field.coding c.args.receiver.now c.args.arrival c.args.group
    c.shown_layers-layers.result.items c.as_slice.result.now _
    (λ text. Puts text old new) c.as_slice.ensures.value c.shown_layers-layers.ensures.bytes
    c.shown_layers-layers.ensures.layers)
    c.put_records.ensures.files

pub returns-clause-part : goal.returns-clause-part
returns-clause-part g c =
    let old = g.P.Place.seen c.args.place.now in
    let new = g.P.Place.seen c.put_records.new.place in
    on_err c.put_records.result
    (as_shown g.F.Field.is_element g.F.Field.coding c.args.receiver.now c.args.arrival c.args.group
    c.shown_layers-layers.result.items c.as_slice.result.now _
    (λ text. PutsPart text old new) c.as_slice.ensures.value c.shown_layers-layers.ensures.bytes
    c.shown_layers-layers.ensures.layers)
    c.put_records.ensures.part
