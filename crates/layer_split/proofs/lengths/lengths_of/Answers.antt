-- One layer more.
use Rattle.std.proofs.Common.{◌≡◌, ◌≤◌, ◌++◌, ◌∷◌, [], ◌∙◌, min, sym, ap, arith}
use Rattle.pet_base.specs.declared.limits.TheConstants.{MAX_GROUP_BYTES, MAX_LAYERS}
use Rattle.layer_split.specs.Layers as layers
use Rattle.layer_split.proofs.Totals.{layer_le, lengths_push}
use Rattle.layer_split.proofs.lengths.lengths_of.Goals as goal

pub loop-layer-preserved : goal.loop-layer-preserved
loop-layer-preserved c = record {
  count = let before = c.loop-layer.invariant.count in let now = c.push.ensures.len in omega arith;
  small =
      let end : c.min-layer-end.result ≡ min c.args.count MAX_LAYERS = c.min-layer-end.ensures in
      let lt = c.loop-layer-test.true in omega arith;
  so_far = λ fits.
      let all = layer_le c.args.runs.now c.loop-layer.layer in
      let short : layers.layer_length c.args.runs.now c.loop-layer.layer ≤ MAX_GROUP_BYTES = omega (arith, all, fits) in
      let found : c.layer_length.result ≡ layers.layer_length c.args.runs.now c.loop-layer.layer =
      c.layer_length.ensures short in
      let clamped : c.min.result ≡ min c.layer_length.result 4294967295 = c.min.ensures in
      let whole : c.min.result ≡ layers.layer_length c.args.runs.now c.loop-layer.layer = omega arith in
      c.push.ensures.items
      ∙ (ap (λ l. l ++ c.min.result ∷ []) (c.loop-layer.invariant.so_far fits)
      ∙ (ap (λ n. layers.lengths_of c.args.runs.now c.loop-layer.layer ++ n ∷ []) whole
      ∙ sym (lengths_push c.args.runs.now c.loop-layer.layer)));
}
