use Rattle.std.proofs.Common.{◌≡◌, ℕ, List, length, get_or, ap, ◌∙◌, arith, subst}
use Rattle.stripe_plan.specs.laws.CountLaws.{length-counts_of, count_at}
use Rattle.stripe_plan.specs.declared.layer.LayerSize.{LayerSize}
use Rattle.stripe_plan.specs.Layers.{count_of}
use Rattle.packet_frame.specs.declared.frame.Header.{Header}
use Rattle.packet_group.specs.OpenGroup.{layers_of}
use Rattle.packet_group.specs.Written.{HasLayer}
use Rattle.packet_group.proofs.write.write_if_shown.Goals as goal

pub bounds-counts-layer : goal.bounds-counts-layer
bounds-counts-layer g c =
    omega (arith, c.requires.layer, ap length c.counts.ensures.value, length-counts_of (layers_of c.args.packets.now))

pub write_layer-requires-clause-enough : goal.write_layer-requires-clause-enough
write_layer-requires-clause-enough g c =
    let layers = layers_of c.args.packets.now in
    let layer = c.args.layer in
    let count : get_or c.counts.result.now layer 0 ≡ count_of layers layer =
    ap (λ (l : List ℕ). get_or l layer 0) c.counts.ensures.value ∙ count_at layers layer 0 c.requires.layer in
    let same = ap (λ (h : Header). count_of h.table.layers layer) c.header.ensures.value in
    omega (arith, c.if-from-met.true, c.met.ensures, c.from.ensures, count, same)

pub returns-then-from-met-clause-shown : goal.returns-then-from-met-clause-shown
returns-then-from-met-clause-shown g c _ =
    subst (λ (l : List LayerSize).
    HasLayer g.F.Field.coding l c.args.progress.now c.write_layer.new.message.items c.args.layer)
    (ap (λ (h : Header). h.table.layers) c.header.ensures.value) c.write_layer.ensures.written

pub returns-else-from-met-clause-shown : goal.returns-else-from-met-clause-shown
returns-else-from-met-clause-shown g c shown =
    let layers = layers_of c.args.packets.now in
    let layer = c.args.layer in
    let count : get_or c.counts.result.now layer 0 ≡ count_of layers layer =
    ap (λ (l : List ℕ). get_or l layer 0) c.counts.ensures.value ∙ count_at layers layer 0 c.requires.layer in
    absurd (omega (arith, c.if-from-met.false, c.met.ensures, c.from.ensures, count, shown))
