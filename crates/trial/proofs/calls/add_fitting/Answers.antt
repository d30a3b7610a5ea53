use Rattle.std.proofs.Common.{◌<◌}
use Rattle.std.proofs.lemmas.List.Elements.{All-map}
use Rattle.trial.proofs.calls.add_fitting.Goals as goal

pub add_products-requires-clause-factors : goal.add_products-requires-clause-factors
add_products-requires-clause-factors g c =
    All-map (λ a. a < 65536) (λ p. p.factor) c.args.factors.now c.requires.factors
