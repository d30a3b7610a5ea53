use Rattle.std.proofs.Common.{◌≡◌, map, take}
use Rattle.reassemble.proofs.video.lengths_of.Given as goal

-- the lengths so far
abbrev pub invariant-loop-layer : goal.invariant-loop-layer
invariant-loop-layer l = l.lengths.items ≡ map (λ layer. layer.length) (take l.layer-index l.layers)
