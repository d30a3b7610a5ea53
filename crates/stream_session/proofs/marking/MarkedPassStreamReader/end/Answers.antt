-- The groups that are left, of an accepted stream, or the fault.
use Rattle.std.proofs.Common.{◌≡◌, ℕ, List, ◌++◌, subst, sym}
use Rattle.std.proofs.lemmas.Result.{IfOk-weaker, IfErr-weaker}
use Rattle.priority_file.specs.Priority.{Priorities}
use Rattle.stream_groups.specs.CutGroups.{CutGroup}
use Rattle.stream_groups.specs.Cutting.{AreAll}
use Rattle.stream_session.proofs.marking.MarkedPassStreamReader.end.Goals as goal

-- so are the groups that were lent
lent_all : (priority : Priorities) (stream : List ℕ) (given lent groups : List CutGroup) → lent ≡ groups
    → AreAll priority stream (given ++ groups) → AreAll priority stream (given ++ lent)
lent_all priority stream given lent groups is all = subst (λ l. AreAll priority stream (given ++ l)) (sym is) all

pub returns-in-Ok-clause-answer : goal.returns-in-Ok-clause-answer
returns-in-Ok-clause-answer c =
    IfOk-weaker c.plan_with.result _ _
    (λ marked plan priority file stream held.
    let all = lent_all priority stream held.has_kept.given _ _ c.deref.ensures.value
    (c.in-Ok.ensures.whole priority stream held.has_kept.given held.has_kept.cut) in
    (all.cuttable.0, plan priority file stream held.has_kept.given all held.has_kept.are_kept held.has_hashed))
    c.plan_with.ensures.plan

pub returns-in-Ok-clause-refused : goal.returns-in-Ok-clause-refused
returns-in-Ok-clause-refused c =
    IfErr-weaker c.plan_with.result _ _
    (λ fault refused priority file stream held.
    let all = lent_all priority stream held.has_kept.given _ _ c.deref.ensures.value
    (c.in-Ok.ensures.whole priority stream held.has_kept.given held.has_kept.cut) in
    refused priority stream held.has_kept.given all held.has_kept.are_kept)
    c.plan_with.ensures.refused

pub returns-in-Err-clause-refused : goal.returns-in-Err-clause-refused
returns-in-Err-clause-refused c priority file stream held =
    c.stream_fault.ensures priority stream held.has_kept.are_kept.has_tables.needs
    (c.in-Err.ensures.refused priority stream held.has_kept.given held.has_kept.cut)
