use Rattle.field_transform.proofs.butterflies.+fly.Given as goal

abbrev pub decreases-fly : goal.decreases-fly
decreases-fly g l = l.level
