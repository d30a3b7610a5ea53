use Rattle.stripe_plan.proofs.LayerLemmas.{few_words}
use Rattle.stripe_plan.proofs.plan.datagram_length_by.Goals as goal

pub plan_len-requires-clause-few : goal.plan_len-requires-clause-few
plan_len-requires-clause-few c =
    rw c.layers-layers.ensures.value (few_words c.args.table.now.layers c.layers-layers.ensures.bounds.few_bytes)
