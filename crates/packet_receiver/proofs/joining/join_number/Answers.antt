use Rattle.std.proofs.Common.{◌≡◌, ◌*◌, List, length, sym, ap, ap₂, ◌∙◌, arith}
use Rattle.packet_frame.specs.declared.frame.Header.{Header}
use Rattle.stripe_plan.specs.declared.layer.LayerSize.{LayerSize}
use Rattle.stripe_plan.specs.Layers.{plan_ends}
use Rattle.packet_receiver.specs.Arrivals.{layers_of}
use Rattle.packet_receiver.proofs.Filling.{payload_long}
use Rattle.packet_receiver.proofs.Tagged.{joined_tag}
use Rattle.packet_receiver.proofs.joining.join_number.Goals as goal

pub keep-requires-clause-points : goal.keep-requires-clause-points
keep-requires-clause-points g c =
    let same = ap (λ (h : Header). h.table.packets) c.requires.ready.header in omega (arith, same, c.requires.points)

-- a payload has a word of the field for each stripe
pub keep-requires-clause-payload : goal.keep-requires-clause-payload
keep-requires-clause-payload g c =
    let t = c.args.theirs.now in
    let layers : layers_of c.args.mine.now.packets ≡ layers_of t =
    ap (λ (h : Header). h.table.layers) c.requires.ready.header in
    let words = c.requires.ready.same_word ∙ sym c.requires.ready.word in
    payload_long t c.in-Some.ensures.bounds c.args.number c.in-Some.payload.now c.in-Some.ensures.value
    ∙ ap₂ (λ w (l : List LayerSize). w * length (plan_ends l)) words (sym layers)

pub tag_open-requires : goal.tag_open-requires
tag_open-requires g c =
    joined_tag c.args.mine.now.packets c.args.theirs.now c.keep.new.self.packets c.args.number c.in-Some.payload.now
    c.args.tags.now c.tag_in.result c.requires.ready.header (omega (arith, c.requires.number, c.requires.ready.slots))
    (sym c.in-Some.ensures.value) c.keep.ensures.packets c.requires.tags (sym c.tag_in.ensures)
