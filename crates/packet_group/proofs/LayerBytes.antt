-- The bytes of a layer whose count is reached.
use Rattle.std.specs.Prelude.{unwrap_or}
use Rattle.std.proofs.Common.{◌≡◌, ℕ, ◌+◌, ◌-◌, ◌*◌, ◌<◌, ◌≤◌, List, [], length, get_or, take, sym, arith, subst}
use Rattle.std.proofs.Math.Nat.{mul-le-mul_right}
use Rattle.field_elements.specs.Field.{Coding}
use Rattle.pet_interp.specs.Points.{IsOnlyThrough}
use Rattle.pet_interp.specs.Progressive.{stripe_of, column}
use Rattle.stripe_plan.specs.Counts.{Meets}
use Rattle.stripe_plan.specs.Layers.{AllNeeded, count_of, needs_of, plan_ends, plan_stripes, words_before}
use Rattle.stripe_plan.specs.Stripes.{IsPlan}
use Rattle.stripe_plan.specs.declared.layer.LayerSize.{LayerSize}
use Rattle.packet_set.specs.Packets.{slot_at}
use Rattle.pet_poly.specs.Rows.{words}
use Rattle.std.proofs.lemmas.List.{length-map}
use Rattle.packet_session.specs.Payload.{stripes_in}
use Rattle.packet_session.specs.Session.{IsMessage, bytes_of_layer}
use Rattle.packet_group.specs.OpenGroup.{GroupState, HoldsAfter, points_of, layers_of, count_in}
use Rattle.packet_group.specs.ShownBytes.{IsShownBytes}
use Rattle.packet_group.specs.Written.{Reaches, ReachesLayer}
use Rattle.packet_group.specs.laws.Needs.{words_within}
use Rattle.packet_group.proofs.Agreement.{each_within}
use Rattle.packet_group.proofs.Cuts.{sizes_are}
use Rattle.packet_group.proofs.Shown.{stripe_short}

-- a message in which each stripe that has a word of the layer stands as it is held has the layer's bytes
pub shown_bytes : {E : Type 0} (P : E → Type 0) (c : Coding E) (g : GroupState E) (numbers : List ℕ) (layer : ℕ)
    (bytes : List ℕ)
    → HoldsAfter P c g numbers → AllNeeded (layers_of g.packets) → layer < length (layers_of g.packets)
    → count_of (layers_of g.packets) layer ≤ count_in g.packets
    → (message : List ℕ) → IsMessage c.width (layers_of g.packets) message
    → ((j : ℕ) → j < length (plan_stripes (layers_of g.packets))
    → Meets (words_before (layers_of g.packets) layer) (words_before (layers_of g.packets) (layer + 1))
    (get_or (plan_stripes (layers_of g.packets)) j (0, 0))
    → get_or (stripes_in c (layers_of g.packets) message) j [] ≡ stripe_of g.held j)
    → bytes ≡ bytes_of_layer c.width (layers_of g.packets) message layer
    → IsShownBytes P c g.packets numbers layer bytes
shown_bytes P c g numbers layer bytes h needed within reached message is_message stands is =
    let layers = layers_of g.packets in
    let sizes = sizes_are g.held layers h.lengths in
    record {
      message = message;
      is_message = is_message;
      stripes =
          λ j l meets.
          let short = stripe_short layers needed layer within j l meets in
          let inside : j < length g.held.stripes = omega (arith, l, sizes.count) in
          let long : length (points_of c g.packets numbers) ≡ length numbers =
          length-map numbers (λ i.
          (c.point_of i, words c.spelt c.width (length (plan_stripes layers)) (unwrap_or (slot_at g.packets i) []))) in
          let low : length (stripe_of g.held j) ≤ length (points_of c g.packets numbers) =
          omega (arith, sizes.each j, short, reached, h.many, long) in
          let only = h.stands.others j inside low in
          subst (λ cs. IsOnlyThrough P c.ops (column c.ops j
          (take (get_or (plan_stripes layers) j (0, 0)).1 (points_of c g.packets numbers))) cs)
          (sym (stands j l meets))
          (subst (λ n. IsOnlyThrough P c.ops (column c.ops j (take n (points_of c g.packets numbers)))
          (stripe_of g.held j)) (sizes.each j) only);
      bytes_are = is;
    }

-- bytes that reach the end of each stripe that has a word of a layer reach that of the layer
pub layer_reached : (width layer : ℕ) (layers : List LayerSize) (bytes : List ℕ)
    → IsPlan (needs_of layers) 0 (plan_ends layers)
    → ((j : ℕ) → j < length (plan_stripes layers)
    → Meets (words_before layers layer) (words_before layers (layer + 1)) (get_or (plan_stripes layers) j (0, 0))
    → Reaches width layers j bytes)
    → ReachesLayer width layers layer bytes
layer_reached width layer layers bytes plan reached some =
    let last = words_before layers (layer + 1) in
    let word = last - 1 in
    let w = each_within layers plan word (omega (arith, some, words_within layers (layer + 1))) in
    let s = get_or (plan_stripes layers) w.stripe (0, 0) in
    let meets : Meets (words_before layers layer) last s =
    (word, w.from, w.below, omega (arith, some), omega (arith, some)) in
    let end : (s.0 + s.1) * width ≤ length bytes = reached w.stripe w.inside meets in
    let before : last * width ≤ (s.0 + s.1) * width = mul-le-mul_right width (omega (arith, some, w.below)) in
    omega (arith, before, end)
