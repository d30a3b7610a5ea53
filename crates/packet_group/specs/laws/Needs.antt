-- Laws of layers, for callers: the words before each, and the bytes of one.
use Rattle.std.proofs.Common.{◌≡◌, ℕ, ◌+◌, ◌*◌, ◌<◌, ◌≤◌, List, length, get_or, unwrap_or, option_map, ap, ◌∙◌, arith}
use Rattle.std.specs.Prelude.{min}
use Rattle.std.proofs.Math.Nat.{mul-le-mul_left, mul-le-mul_right}
use Rattle.std.proofs.lemmas.List.Sums.{sum_by_more, sum_by-take-le}
use Rattle.std.proofs.lemmas.Option.{slice_get-get_or}
use Rattle.stripe_plan.specs.declared.layer.LayerSize.{LayerSize}
use Rattle.stripe_plan.proofs.LayerLemmas.{length-needs_of}
use Rattle.stripe_plan.specs.Sizes.{twofold}
use Rattle.stripe_plan.specs.Layers.{needs_of, words_of, words_before}
use Rattle.packet_session.specs.Session.{length_of_layer, bytes_in_layer}

-- the bytes of a layer are no more than those of its words
pub bytes_short : (width : ℕ) (size : LayerSize) → bytes_in_layer width size ≤ words_of size * width
bytes_short width size = least size.length (words_of size * width)
  where
    least : (a b : ℕ) → min a b ≤ b
    least a b = omega arith

-- the words of a layer stand within all words
pub words_inside : (width : ℕ) (layers : List LayerSize) (layer : ℕ) (d : LayerSize) → layer < length layers
    → words_before layers layer * width + words_of (get_or layers layer d) * width ≤ length (needs_of layers) * width
words_inside width layers layer d l =
    let size = get_or layers layer d in
    let words : words_before layers layer + words_of size ≤ length (needs_of layers) =
    omega (
      arith,
      length-needs_of layers,
      sum_by_more words_of layers layer d l,
      sum_by-take-le words_of layers (layer + 1),
    ) in
    let inside : (words_before layers layer + words_of size) * width ≤ length (needs_of layers) * width =
    mul-le-mul_right width words in
    let split : (words_before layers layer + words_of size) * width
    ≡ words_before layers layer * width + words_of size * width = omega arith in
    omega (arith, inside, split)

-- and so do its bytes
pub layer_inside : (width : ℕ) (layers : List LayerSize) (layer : ℕ) (d : LayerSize) → layer < length layers
    → words_before layers layer * width + bytes_in_layer width (get_or layers layer d)
    ≤ length (needs_of layers) * width
layer_inside width layers layer d l =
    omega (arith, words_inside width layers layer d l, bytes_short width (get_or layers layer d))

pub length_is : (width : ℕ) (layers : List LayerSize) (layer : ℕ) (d : LayerSize) → layer < length layers
    → length_of_layer width layers layer ≡ bytes_in_layer width (get_or layers layer d)
length_is width layers layer d l =
    ap (λ o. unwrap_or (option_map (bytes_in_layer width) o) 0) (slice_get-get_or layers layer d l)

-- where a word has at least two bytes, a layer has as many as its length says
pub bytes_all : (width : ℕ) (size : LayerSize) → 2 ≤ width → bytes_in_layer width size ≡ size.length
bytes_all width size wide =
    whole size.length (words_of size * width) (omega (arith, even, mul-le-mul_left (words_of size) wide))
  where
    even : size.length ≤ words_of size * 2
    even = omega arith

    whole : (a b : ℕ) → a ≤ b → min a b ≡ a
    whole a b h = omega arith

pub length_all : (width : ℕ) (layers : List LayerSize) (layer : ℕ) (d : LayerSize) → 2 ≤ width → layer < length layers
    → length_of_layer width layers layer ≡ (get_or layers layer d).length
length_all width layers layer d wide l = length_is width layers layer d l ∙ bytes_all width (get_or layers layer d) wide

-- where a word has one byte, a layer of twice the length has as many as the length says
pub bytes_half : (size : LayerSize) → bytes_in_layer 1 (twofold size) ≡ size.length
bytes_half size = omega arith

-- the words of a layer follow those before it
pub next_words : (layers : List LayerSize) (layer : ℕ) (d : LayerSize) → layer < length layers
    → words_before layers (layer + 1) ≡ words_before layers layer + words_of (get_or layers layer d)
next_words layers layer d l = sum_by_more words_of layers layer d l

pub words_within : (layers : List LayerSize) (layer : ℕ) → words_before layers layer ≤ length (needs_of layers)
words_within layers layer = omega (arith, length-needs_of layers, sum_by-take-le words_of layers layer)
