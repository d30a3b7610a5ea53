use Rattle.std.proofs.Common.{◌≡◌, ◌+◌, get_or, length, ap, ◌∙◌, take, drop, ◌-◌, arith}
use Rattle.std.proofs.lemmas.Simd.{get_or-chunk}
use Rattle.std.proofs.lemmas.List.{get_or-drop, take_rest}
use Rattle.field_vectors.proofs.memory.load.Goals as goal

pub returns-then-rows-at-ge32-clause-lanes : goal.returns-then-rows-at-ge32-clause-lanes
returns-then-rows-at-ge32-clause-lanes g c k l =
    let rows = c.args.rows.now in
    let at = c.args.at in
    let zero = c.args.zero in
    let part = take (length rows - at) (drop at rows) in
    let e : 0 + k ≡ k = omega arith in
    ap (λ t. get_or t k zero) c.read.ensures ∙ get_or-chunk 0 32 part k zero l ∙ ap (λ i. get_or part i zero) e
    ∙ ap (λ t. get_or t k zero) (take_rest rows at) ∙ get_or-drop at rows k zero
