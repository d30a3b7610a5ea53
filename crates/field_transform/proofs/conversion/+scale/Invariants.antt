use Rattle.field_transform.proofs.conversion.+scale.Given as goal

abbrev pub decreases-scale : goal.decreases-scale
decreases-scale g l = l.level
