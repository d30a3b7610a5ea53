use Rattle.std.proofs.Common.{◌++◌, length, replicate, get_or, drop, ap, ◌∙◌}
use Rattle.field_vectors.specs.laws.LaneLaws.{padded}
use Rattle.field_vectors.proofs.memory.part.Goals as goal

pub returns-clause-lanes : goal.returns-clause-lanes
returns-clause-lanes g c k l =
    let zero = c.args.zero in
    ap (λ t. get_or (t ++ drop (length c.args.rest.now) (replicate 32 zero)) k zero) c.copy_from_slice.ensures.after
    ∙ padded zero c.args.rest.now k l
