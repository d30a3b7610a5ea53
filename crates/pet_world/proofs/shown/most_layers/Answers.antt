use Rattle.std.proofs.Common.{◌≡◌, ℕ, ◌+◌, ◌<◌, List, [], ◌∷◌, ◌++◌, length, take, get_or, sym, ap, ◌∙◌, arith}
use Rattle.std.specs.Prelude.{sum_by}
use Rattle.std.proofs.lemmas.List.{take_more, take_all}
use Rattle.std.proofs.lemmas.List.Sums.{sum_by-append, sum_by-cons}
use Rattle.packet_frame.specs.declared.frame.Header.{Header}
use Rattle.packet_session.specs.Encoding.{Encoding}
use Rattle.pet_world.proofs.FewLayers.{layers_in_all}
use Rattle.pet_world.proofs.shown.most_layers.Goals as goal

abbrev layers_of : Encoding → ℕ
layers_of e = length e.header.table.layers

sum_more : (xs : List Encoding) (i : ℕ) (x : Encoding) → i < length xs → x ≡ get_or xs i x
    → sum_by layers_of (take (i + 1) xs) ≡ sum_by layers_of (take i xs) + layers_of x
sum_more xs i x lt is =
    ap (sum_by layers_of) (take_more xs i x lt) ∙ ap (λ (y : Encoding). sum_by layers_of (take i xs ++ y ∷ [])) (sym is)
    ∙ omega (arith, sum_by-append layers_of (take i xs) (x ∷ []), sum_by-cons layers_of x [])

pub overflow_add-most : goal.overflow_add-most
overflow_add-most g c =
    let few = ap (λ (h : Header). length h.table.layers) c.header.ensures.value in
    let value = ap (λ (l : List _). length l) c.layers.ensures.value in
    omega (
      arith,
      few,
      value,
      c.header.ensures.table.few_layers,
      c.loop-encoder.invariant.few,
      c.loop-encoder-test.true,
      c.requires,
    )

pub loop-encoder-preserved : goal.loop-encoder-preserved
loop-encoder-preserved g c =
    let few = ap (λ (h : Header). length h.table.layers) c.header.ensures.value in
    let value = ap (λ (l : List _). length l) c.layers.ensures.value in
    let more = sum_more c.args.encoders.now c.loop-encoder.encoder-index c.encoder-item.result c.loop-encoder-test.true
    c.encoder-item.is in
    record {
      sum = omega (arith, few, value, more, c.loop-encoder.invariant.sum);
      few = omega (arith, few, value, c.header.ensures.table.few_layers, c.loop-encoder.invariant.few);
    }

pub returns : goal.returns
returns g c =
    let all : take c.loop-encoder.encoder-index c.args.encoders.now ≡ c.args.encoders.now =
    take_all c.loop-encoder.encoder-index c.args.encoders.now (omega (arith, c.loop-encoder-test.false)) in
    c.loop-encoder.invariant.sum ∙ ap (sum_by layers_of) all ∙ layers_in_all c.args.encoders.now
