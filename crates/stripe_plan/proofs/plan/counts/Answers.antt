use Rattle.stripe_plan.proofs.LayerLemmas.{few_words}
use Rattle.stripe_plan.proofs.plan.counts.Goals as goal

pub plan_counts-requires-clause-few : goal.plan_counts-requires-clause-few
plan_counts-requires-clause-few c =
    rw c.layers.ensures.value (few_words c.args.table.now.layers c.layers.ensures.bounds.few_bytes)
