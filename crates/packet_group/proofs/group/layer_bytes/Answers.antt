use Rattle.std.proofs.Common.{◌≡◌, ℕ, ◌+◌, ◌*◌, ◌<◌, ◌≤◌, List, length, get_or, take, drop, sym, ap, ap₂, ◌∙◌, arith}
use Rattle.std.proofs.Common.{inl, inr, rules}
use Rattle.std.proofs.lemmas.Bool.{cases_lt}
use Rattle.stripe_plan.specs.declared.layer.LayerSize.{LayerSize}
use Rattle.stripe_plan.specs.Layers.{needs_of, words_before, words_of}
use Rattle.packet_session.specs.Session.{bytes_in_layer, length_of_layer}
use Rattle.packet_group.specs.Written.{ReachesLayer}
use Rattle.packet_group.specs.laws.Needs.{bytes_short, length_is, next_words}
use Rattle.packet_group.proofs.Filling.{filled_part}
use Rattle.packet_group.proofs.group.layer_bytes.Goals as goal

abbrev none : LayerSize
none = record { length = 0; need = 0 }

-- where bytes reach the end of a layer that has words, the layer lies within them
module _ (width : ℕ) (layers : List LayerSize) (layer : ℕ) (bytes : List ℕ) (l : layer < length layers)
    (reached : ReachesLayer width layers layer bytes) where
  abbrev size : LayerSize
  size = get_or layers layer none

  end_within : 0 < words_of size → words_before layers layer * width + words_of size * width ≤ length bytes
  end_within some =
      let next = next_words layers layer none l in
      let end : words_before layers (layer + 1) * width ≡ (words_before layers layer + words_of size) * width =
      ap (λ n. n * width) next in
      let split : (words_before layers layer + words_of size) * width
      ≡ words_before layers layer * width + words_of size * width = omega arith in
      omega (arith, reached (omega (arith, some, next)), end, split)

  no_words : words_of size ≤ 0 → words_of size * width ≡ 0 * width
  no_words nothing = ap (λ n. n * width) (omega (arith, nothing))

  words_fit : words_of size * width ≤ length bytes
  words_fit =
      elim (cases_lt 0 (words_of size)) [
        | inl some ↦ omega (arith, end_within some)
        | inr nothing ↦ omega (arith, no_words nothing)
      ]

  bytes_within : 0 < bytes_in_layer width size
      → words_before layers layer * width + bytes_in_layer width size ≤ length bytes
  bytes_within some =
      elim (cases_lt 0 (words_of size)) [
        | inl words ↦ omega (arith, bytes_short width size, end_within words)
        | inr nothing ↦ absurd (omega (arith, some, bytes_short width size, no_words nothing))
      ]

pub layer_size-size-requires : goal.layer_size-size-requires
layer_size-size-requires c =
    let size = ap (λ i. words_of (get_or c.args.layers.now i none) * c.args.width) c.from.ensures in
    omega (
      arith,
      size,
      words_fit c.args.width c.args.layers.now c.args.layer c.args.message.now c.requires.layer
          c.requires.reached,
    )

pub slice_bounds-result-end-2 : goal.slice_bounds-result-end-2
slice_bounds-result-end-2 c =
    let start = ap (λ n. n * c.args.width)
    (c.first_word.ensures ∙ ap (words_before c.args.layers.now) c.from-2.ensures) in
    let size = c.layer_size-size.ensures
    ∙ ap (λ i. bytes_in_layer c.args.width (get_or c.args.layers.now i none)) c.from.ensures in
    let some : 0 < c.layer_size-size.result = search rules in
    omega (
      arith,
      start,
      size,
      bytes_within c.args.width c.args.layers.now c.args.layer c.args.message.now c.requires.layer
          c.requires.reached (omega (arith, some, size)),
    )

pub returns : goal.returns
returns c =
    let layers = c.args.layers.now in
    let width = c.args.width in
    let message = c.args.message.now in
    let start = ap (λ n. n * width) (c.first_word.ensures ∙ ap (words_before layers) c.from-2.ensures) in
    let size = c.layer_size-size.ensures ∙ ap (λ i. bytes_in_layer width (get_or layers i none)) c.from.ensures in
    let some : 0 < c.layer_size-size.result = search rules in
    let long : c.layer_size-size.result ≡ length_of_layer width layers c.args.layer =
    size ∙ sym (length_is width layers c.args.layer none c.requires.layer) in
    ap₂ (λ a b. take a (drop b message)) (omega (arith, long)) start
    ∙ sym (filled_part (length (needs_of layers) * width) (words_before layers c.args.layer * width)
    (length_of_layer width layers c.args.layer) message
    (omega (
      arith,
      long,
      size,
      bytes_within width layers c.args.layer message c.requires.layer c.requires.reached
          (omega (arith, some, size)),
    )))
