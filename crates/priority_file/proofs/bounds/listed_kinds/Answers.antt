use Rattle.std.proofs.Common.{sym, ap, ◌∙◌}
use Rattle.priority_file.proofs.KindLaws.{flat_map_more}
use Rattle.priority_file.proofs.bounds.listed_kinds.Goals as goal

pub loop-layer-preserved : goal.loop-layer-preserved
loop-layer-preserved c =
    let kinds = c.as_slice.ensures.value ∙ ap (λ l. l.kinds) c.layer.view_is in
    let more = flat_map_more (λ l. l.kinds) c.args.layers.now c.loop-layer.layer-index c.layer-item.result
    c.loop-layer-test.true c.layer-item.is in
    rw (c.in_ok-extend_from_slice.ensures.items, c.loop-layer.invariant, kinds) (sym more)
