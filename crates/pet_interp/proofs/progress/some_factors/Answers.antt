use Rattle.std.proofs.Common.{sym, subst}
use Rattle.pet_interp.proofs.progress.some_factors.Goals as goal

pub prepare-requires : goal.prepare-requires
prepare-requires g c = subst g.F.Field.is_element (sym c.zero.ensures) g.met.F.Field.lawful.field.zero_is
