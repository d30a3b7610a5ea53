-- Nothing is left.
use Rattle.std.proofs.Common.{◌≡◌, ◌++◌, ◌∙◌, [], length, min, sym, ap, arith, append-nil, drop}
use Rattle.stream_session.specs.Tables.{sizes_by}
use Rattle.stream_session.proofs.SizesBy.{by_end}
use Rattle.stream_session.proofs.needs.sizes_of.Goals as goal

pub returns : goal.returns
returns c =
    let end : c.min-layer-end.result ≡ min (length c.args.lengths.now) (length c.args.needs.now) =
    c.min-layer-end.ensures in
    let done = c.loop-layer-test.false in
    let none : sizes_by (drop c.loop-layer.layer c.args.lengths.now) (drop c.loop-layer.layer c.args.needs.now) ≡ [] =
    by_end c.args.lengths.now c.args.needs.now c.loop-layer.layer (omega arith) in
    sym (append-nil c.loop-layer.sizes.items)
    ∙ (ap (λ l. c.loop-layer.sizes.items ++ l) (sym none) ∙ c.loop-layer.invariant.so_far)
