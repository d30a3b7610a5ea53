use Rattle.std.proofs.Common.{◌≡◌, Bool, sym, ap, subst, ◌∙◌}
use Rattle.pet_base.specs.Seen.{PlaceStops}
use Rattle.command_plan.specs.Ends.{plan_failed}
use Rattle.command_plan.specs.Plans.{PlanEnds}
use Rattle.command_plan.specs.laws.PlanLaws.{plans_session}
use Rattle.command_plan.proofs.PlanEnds.{plan_refused, failed_alike}
use Rattle.command_plan.proofs.planning.plan.Goals as goal

pub returns-in-Ok-clause-completes : goal.returns-in-Ok-clause-completes
returns-in-Ok-clause-completes g c = plans_session c.args.stream.now c.args.priority.now _ _ _ c.in-Ok.ensures.text

pub returns-in-Err-clause-plans : goal.returns-in-Err-clause-plans
returns-in-Err-clause-plans g c = record {
  files = c.text_of_files.ensures.files;
  ends =
      subst (PlanEnds c.args.stream.now c.args.priority.now _ _) (sym c.from.ensures)
      (plan_refused c.args.stream.now c.args.priority.now _ _ c.in-Err.fault c.in-Err.ensures.cause);
}

pub returns-in-Err-clause-completes : goal.returns-in-Err-clause-completes
returns-in-Err-clause-completes g c =
    plans_session c.args.stream.now c.args.priority.now _ _ _ (returns-in-Err-clause-plans g c).ends

pub returns-in-Err-clause-once : goal.returns-in-Err-clause-once
returns-in-Err-clause-once g c =
    subst (λ (failed : Bool). PlaceStops failed (g.P.Place.seen c.args.place.now)
    (g.P.Place.seen c.text_of_files.new.place))
    (failed_alike c.in-Err.fault ∙ ap plan_failed (sym c.from.ensures)) c.in-Err.ensures.once
