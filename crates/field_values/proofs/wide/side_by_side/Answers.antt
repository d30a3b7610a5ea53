use Rattle.std.proofs.Common.{◌*◌, length, drop, get_or, replicate, ap, sym, subst, ◌∙◌}
use Rattle.std.proofs.lemmas.List.{take_at}
use Rattle.field_rows.specs.Blocks.{columns_of}
use Rattle.field_values.specs.Wide.{AreSideBySide}
use Rattle.field_values.proofs.RowLanes.{none_but}
use Rattle.field_values.proofs.wide.side_by_side.Goals as goal

pub place_blocks-requires-clause-room : goal.place_blocks-requires-clause-room
place_blocks-requires-clause-room g c = c.deref_mut.ensures.len ∙ c.in_ok-rows.ensures.len

pub place_blocks-requires-clause-zeros : goal.place_blocks-requires-clause-zeros
place_blocks-requires-clause-zeros g c =
    λ i.
    ap (λ xs. get_or xs i c.zero-2.result) (c.deref_mut.ensures.value ∙ c.in_ok-rows.ensures.items)
    ∙ ap (λ d. get_or (replicate (c.args.size * c.args.stripes) d) i c.zero-2.result)
    (c.zero.ensures ∙ sym c.zero-2.ensures)
    ∙ none_but (c.args.size * c.args.stripes) i c.zero-2.result

pub returns : goal.returns
returns g c =
    rw (take_at c.place_blocks.new.into (drop (length c.place_blocks.new.into) c.in_ok-rows.rows.items)
    c.in_ok-rows.rows.len (c.place_blocks.auto.into ∙ c.deref_mut.ensures.len))
    (subst (λ d. AreSideBySide d c.args.size (columns_of d c.args.blocks.now c.args.laid.now) c.place_blocks.new.into)
    c.zero-2.ensures c.place_blocks.ensures)
