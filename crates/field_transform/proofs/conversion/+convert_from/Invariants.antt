use Rattle.field_transform.proofs.conversion.+convert_from.Given as goal

abbrev pub decreases-convert_from : goal.decreases-convert_from
decreases-convert_from g l = l.level
