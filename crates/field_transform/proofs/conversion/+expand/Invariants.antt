use Rattle.field_transform.proofs.conversion.+expand.Given as goal

abbrev pub decreases-expand : goal.decreases-expand
decreases-expand g l = l.level
