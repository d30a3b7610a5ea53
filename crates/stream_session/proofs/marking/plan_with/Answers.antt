-- All groups are kept.
use Rattle.std.proofs.Common.{◌≡◌, ◌++◌, ◌∙◌, ap, refl, rules, take}
use Rattle.stream_session.specs.declared.fault.SessionFault.TheVariants.{NoMemory}
use Rattle.stream_session.proofs.KeptInOrder.{all_given_fit, marked_plan, marked_fault}
use Rattle.stream_session.proofs.marking.plan_with.Goals as goal

pub returns-in-Ok-clause-plan : goal.returns-in-Ok-clause-plan
returns-in-Ok-clause-plan c priority file stream given all kept hashed =
    let fit = all_given_fit priority stream given c.args.left.now all in
    marked_plan c.args.format.now _ c.keep_all.new.kept priority file stream (given ++ c.args.left.now) all
    (c.in_ok-keep_all.ensures priority given fit.1 fit.0 kept)
    (c.first_eight.ensures ∙ ap (take 8) (c.finalize.ensures _ hashed)) refl c.in-Ok.ensures.tables

pub returns-clause-refused : goal.returns-clause-refused
returns-clause-refused c priority stream given all kept =
    let fit = all_given_fit priority stream given c.args.left.now all in
    let told : c.in-Err.fault ≡ NoMemory → ⊥ = search rules in
    marked_fault c.args.format.now c.keep_all.new.kept c.in-Err.fault priority stream (given ++ c.args.left.now) all
    (c.in_ok-keep_all.ensures priority given fit.1 fit.0 kept) told (c.in-Err.ensures.refused told)
