use Rattle.stripe_plan.specs.Walk.{stripes_left}
use Rattle.field_rows.specs.Blocks.{lengths_of}
use Rattle.stripe_plan.specs.Layers.{stripe_lengths}
use Rattle.packet_encoder.proofs.Walk.{all_words, lengths_end}
use Rattle.packet_encoder.proofs.laid.plan_blocks.Goals as goal

pub returns-clause-lengths : goal.returns-clause-lengths
returns-clause-lengths c =
    lengths_end (stripes_left c.loop-length.length-iterator) (lengths_of c.loop-length.blocks.items)
    (stripe_lengths c.args.table.now.layers) c.in-None.ensures.steps.0 c.loop-length.invariant.lengths

pub returns-clause-size : goal.returns-clause-size
returns-clause-size c =
    all_words c.args.table.now.layers c.loop-length.blocks.items c.plan-length-items.ensures.is_plan
    (returns-clause-lengths c)
