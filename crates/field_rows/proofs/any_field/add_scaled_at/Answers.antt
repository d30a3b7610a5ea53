use Rattle.std.proofs.Common.{◌≡◌, ◌+◌, ◌-◌, length, drop, ◌∙◌}
use Rattle.std.proofs.lemmas.List.Elements.{All-take, All-drop}
use Rattle.field_rows.proofs.AddedRows.{part_room, part_long, added_inside, added_before, added_behind}
use Rattle.field_rows.proofs.Parts.{part_elements}
use Rattle.field_rows.proofs.any_field.add_scaled_at.Goals as goal

pub returns : goal.returns
returns g c =
    let F = g.F.Field in
    let o = F.coding.ops in
    let at = c.args.at in
    let row = c.args.row.now in
    let rows = c.args.rows.now in
    let by = c.args.by in
    let room = c.requires.room in
    let new = c.add_scaled.new.into in
    let is = c.add_scaled.ensures.places in
    let k = at + length row - at in
    let long : length new ≡ k = c.add_scaled.auto.into ∙ part_long at row rows room in
    record {
      sums = added_inside o at row rows new by room long is;
      before = added_before o at row rows new by room long is;
      behind = added_behind o at row rows new by room long is;
      elements =
          part_elements o.nought at k rows new (part_room at row rows room) long F.is_element c.requires.elements
          (c.add_scaled.ensures.elements
          (All-take F.is_element k (drop at rows) (All-drop F.is_element at rows c.requires.elements)));
      cost = c.add_scaled.ensures.cost;
    }
