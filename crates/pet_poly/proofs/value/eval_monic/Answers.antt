use Rattle.std.proofs.Common.{ap, ◌∙◌}
use Rattle.pet_poly.specs.inside.Horner.{horner_from}
use Rattle.pet_poly.specs.laws.HornerLaws.{value_monic_by_horner}
use Rattle.pet_poly.proofs.value.eval_monic.Goals as goal

pub returns-clause-value : goal.returns-clause-value
returns-clause-value g c =
    c.fold.ensures.value ∙ ap (λ t. horner_from g.F.Field.coding.ops t c.args.low.now c.args.x) c.one.ensures
    ∙ value_monic_by_horner _ _ g.met.F.Field.lawful.field _ _ c.requires.elements c.requires.point
