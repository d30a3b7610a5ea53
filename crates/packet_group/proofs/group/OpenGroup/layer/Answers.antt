use Rattle.std.proofs.Common.{◌≡◌, ◌≤◌, ◌<◌, ℕ, List, length, get_or, refl, sym, ap, ap₂, ◌∙◌, arith}
use Rattle.std.proofs.Common.{subst}
use Rattle.std.specs.Prelude.{IsSome, Contains}
use Rattle.stripe_plan.specs.laws.CountLaws.{length-counts_of, count_at}
use Rattle.stripe_plan.proofs.PlanLemmas.{plan_ends_plan}
use Rattle.stripe_plan.specs.declared.layer.LayerSize.{LayerSize}
use Rattle.stripe_plan.specs.Layers.{AllNeeded, count_of}
use Rattle.stripe_plan.specs.Layers.{counts_of}
use Rattle.packet_frame.specs.declared.frame.Header.{Header}
use Rattle.packet_set.specs.Packets.{Packets, slot_at}
use Rattle.packet_session.specs.Session.{IsMessage, bytes_of_layer}
use Rattle.packet_group.specs.OpenGroup.{GroupState, layers_of, count_in}
use Rattle.packet_group.specs.Written.{HasLayer, ReachesLayer, whole_message}
use Rattle.packet_group.proofs.Agreement.{agreed_bytes}
use Rattle.packet_group.proofs.Holding.{some_inside}
use Rattle.packet_group.proofs.LayerBytes.{layer_reached, shown_bytes}
use Rattle.packet_group.proofs.Shown.{few_words}
use Rattle.packet_group.proofs.group.OpenGroup.layer.Given.{Over}
use Rattle.packet_group.proofs.group.OpenGroup.layer.Goals as goal
use Rattle.packet_group.proofs.group.OpenGroup.layer.Goals.{After-layers-layers, then-from-counts-via-then-from-counts}
use Rattle.packet_group.proofs.group.OpenGroup.layer.Goals.{then-from-counts-via-else-from-counts+then-len-counts}

-- ---- the layers of the group, the layer's place among them, and how many packets show it

packets_are : (g : Over) (c : After-layers-layers g) → c.self.inside.packets ≡ c.args.self.now.packets
packets_are g c = ap (λ (v : GroupState g.row.F-Elem.Denot). v.packets) c.self.view_is

layers_are : (g : Over) (c : After-layers-layers g) → c.layers-layers.result.now ≡ layers_of c.args.self.now.packets
layers_are g c =
    c.layers-layers.ensures.value ∙ ap (λ (h : Header). h.table.layers) c.header.ensures.value
    ∙ ap layers_of (packets_are g c)

needed : (g : Over) (c : After-layers-layers g) → AllNeeded (layers_of c.args.self.now.packets)
needed g c = subst AllNeeded (sym c.layers-layers.ensures.value ∙ layers_are g c) c.layers-layers.ensures.bounds.needed

layer_inside : (g : Over) (c : After-layers-layers g) → c.args.layer < length (layers_of c.args.self.now.packets)
layer_inside g c =
    omega (
      arith,
      c.if-from-counts.false,
      c.from.ensures,
      ap length c.counts-counts.ensures.value,
      length-counts_of (layers_of c.self.inside.packets),
      ap (λ p. length (layers_of p)) (packets_are g c),
    )

shown_by : (g : Over) (c : After-layers-layers g)
    → get_or c.counts-counts.result.now c.from-else-from-counts.result 0
    ≡ count_of (layers_of c.args.self.now.packets) c.args.layer
shown_by g c =
    ap₂ (λ (l : List ℕ) (i : ℕ). get_or l i 0) c.counts-counts.ensures.value c.from-else-from-counts.ensures
    ∙ ap (λ p. get_or (counts_of (layers_of p)) c.args.layer 0) (packets_are g c)
    ∙ count_at (layers_of c.args.self.now.packets) c.args.layer 0 (layer_inside g c)

reached : (g : Over) (c : After-layers-layers g)
    → count_of (layers_of c.args.self.now.packets) c.args.layer ≤ count_in c.args.self.now.packets
reached g c = omega (arith, c.if-len-counts.false, shown_by g c, c.len.ensures.value, ap count_in (packets_are g c))

-- the group as its fields have it, and the stripes of the layer in the bytes that are written
stored : (g : Over) (c : After-layers-layers g)
    → HasLayer g.F.Field.coding (layers_of c.args.self.now.packets) c.args.self.now.held c.self.inside.message.items
    c.args.layer
stored g c =
    let coding = g.F.Field.coding in
    let bytes = c.self.inside.message.items in
    let layer = c.args.layer in
    subst (λ (v : GroupState g.row.F-Elem.Denot).
    layer < length (layers_of v.packets) → count_of (layers_of v.packets) layer ≤ count_in v.packets
    → HasLayer coding (layers_of v.packets) v.held bytes layer) c.self.view_is (c.self.invariant.shown layer)
    (layer_inside g c) (reached g c)

-- ---- the answers

pub layer_bytes-requires-clause-reached : goal.layer_bytes-requires-clause-reached
layer_bytes-requires-clause-reached g c =
    let h = (goal.at.layer_bytes-requires-clause-reached g c).After-layers-layers in
    let layer = c.args.layer in
    let layers = layers_of c.args.self.now.packets in
    let L = c.layers-layers.result.now in
    let bytes = c.self.inside.message.items in
    let width = g.F.Field.coding.width in
    let end = layer_reached width layer layers bytes (plan_ends_plan layers (needed g h))
    (λ j l meets. (stored g h j l meets).reached) in
    let wide : c.WIDTH.result ≡ width = c.WIDTH.ensures ∙ sym g.met.F.Field.wide in
    subst (ReachesLayer c.WIDTH.result L layer) (sym c.deref.ensures.value)
    (subst (λ w. ReachesLayer w L layer bytes) (sym wide)
    (subst (λ (l : List LayerSize). ReachesLayer width l layer bytes) (sym (layers_are g h)) end))

pub layer_bytes-requires-clause-few : goal.layer_bytes-requires-clause-few
layer_bytes-requires-clause-few g c =
    few_words c.header.result.now.table.packets c.header.result.now.table.layers c.layers-layers.result.now
    c.layers-layers.ensures.bounds c.layers-layers.ensures.value

pub layer_bytes-requires-clause-layer : goal.layer_bytes-requires-clause-layer
layer_bytes-requires-clause-layer g c =
    let h = (goal.at.layer_bytes-requires-clause-layer g c).After-layers-layers in
    omega (arith, layer_inside g h, ap length (layers_are g h))

pub returns-then-from-counts-clause-shown : goal.returns-then-from-counts-clause-shown
returns-then-from-counts-clause-shown g c =
    let packets = ap (λ (v : GroupState g.row.F-Elem.Denot). v.packets) c.self.view_is in
    let P = c.args.self.now.packets in
    let all : length c.counts-counts.result.now ≡ length (layers_of P) =
    ap length c.counts-counts.ensures.value ∙ length-counts_of (layers_of c.self.inside.packets)
    ∙ ap (λ p. length (layers_of p)) packets in
    let count : c.args.layer < length (layers_of P)
    → get_or c.counts-counts.result.now c.args.layer 0 ≡ count_of (layers_of P) c.args.layer =
    λ lt. ap (λ (l : List ℕ). get_or l c.args.layer 0) c.counts-counts.ensures.value
    ∙ ap (λ p. get_or (counts_of (layers_of p)) c.args.layer 0) packets ∙ count_at (layers_of P) c.args.layer 0 lt in (
      λ some. absurd cc,
      λ shown. absurd
          (elim c.then-from-counts.branch [
            | then-from-counts-via-then-from-counts w ↦ omega (
              arith,
              shown.0,
              all,
              w.if-from-counts.true,
              c.from.ensures,
            )
            | then-from-counts-via-else-from-counts+then-len-counts w ↦
                omega (
                  arith,
                  shown.1,
                  count shown.0,
                  w.if-len-counts.true,
                  ap (λ (i : ℕ). get_or c.counts-counts.result.now i 0) w.from-else-from-counts.ensures,
                  w.len.ensures.value,
                  ap count_in packets,
                )
          ]),
    )

pub returns-clause-shown : goal.returns-clause-shown
returns-clause-shown g c =
    let h = (goal.at.returns-clause-shown g c).After-layers-layers in
    (λ some. (layer_inside g h, reached g h), λ shown. refl)

pub returns-clause-bytes : goal.returns-clause-bytes
returns-clause-bytes g c numbers h =
    let F = g.F.Field in
    let G = c.args.self.now in
    let at = (goal.at.returns-clause-bytes g c).After-layers-layers in
    let layers = layers_are g at in
    let width = F.coding.width in
    let bytes = c.deref.result.now in
    let L = c.layers-layers.result.now in
    let wide : c.WIDTH.result ≡ width = c.WIDTH.ensures ∙ sym g.met.F.Field.wide in
    let whole = whole_message width (layers_of G.packets) c.self.inside.message.items in
    let message : whole_message width L bytes ≡ whole =
    ap (λ (l : List LayerSize). whole_message width l bytes) layers
    ∙ ap (whole_message width (layers_of G.packets)) c.deref.ensures.value in
    let is : c.layer_bytes.result.now ≡ bytes_of_layer width (layers_of G.packets) whole c.args.layer =
    c.layer_bytes.ensures ∙ ap (λ w. bytes_of_layer w L (whole_message w L bytes) c.args.layer) wide
    ∙ ap (λ m. bytes_of_layer width L m c.args.layer) message
    ∙ ap (λ (l : List LayerSize). bytes_of_layer width l whole c.args.layer) layers in
    let is_message : IsMessage width (layers_of G.packets) whole =
    subst (λ (p : Packets).
    IsMessage width (layers_of p) (whole_message width (layers_of p) c.self.inside.message.items))
    (packets_are g at) c.self.invariant.message in
    shown_bytes F.is_element F.coding G numbers c.args.layer c.layer_bytes.result.now h (needed g at)
    (layer_inside g at) (reached g at) whole is_message (λ j l meets. (stored g at j l meets).words) is

pub returns-clause-agreed : goal.returns-clause-agreed
returns-clause-agreed g c message is agrees =
    let F = g.F.Field in
    let G = c.args.self.now in
    let numbers = c.requires.held.0 in
    let h = c.requires.held.1 in
    let at = (goal.at.returns-clause-agreed g c).After-layers-layers in
    let packets = packets_are g at in
    let plan = plan_ends_plan (layers_of G.packets) (needed g at) in
    let few : length G.packets.slots ≤ F.COUNT =
    omega (
      arith,
      c.header.ensures.bounds.slots,
      ap (λ (p : Packets). length p.slots) packets,
      ap (λ (h : Header). h.table.packets) c.header.ensures.value,
      ap (λ (p : Packets). p.header.table.packets) packets,
      c.requires.points,
    ) in
    let kept : (i : ℕ) → Contains numbers i → IsSome (slot_at G.packets i) × F.is_element (F.coding.point_of i) =
    λ i in'.
    let some = (h.kept i).1 in' in
    let low : i < F.COUNT = omega (arith, some_inside G.packets.slots i some, few) in
    (some, g.met.F.Field.lawful.points.point_is i low) in
    agreed_bytes F.is_element F.COUNT F.coding g.met.F.Field.lawful G.packets message is plan numbers kept agrees
    c.args.layer c.layer_bytes.result.now (layer_inside g at)
    (returns-clause-bytes g c numbers h)
