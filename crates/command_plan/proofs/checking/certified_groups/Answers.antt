use Rattle.std.proofs.Common.{◌≤◌, List, length, map, sym, subst, ◌∙◌}
use Rattle.std.proofs.lemmas.Result.{IfOk-weaker, IfErr-weaker}
use Rattle.pet_base.specs.declared.limits.TheConstants.{MAX_GROUPS}
use Rattle.stripe_plan.specs.Sizes.{Sizes}
use Rattle.command_plan.specs.Checks.{Checks}
use Rattle.session_source.specs.laws.SourceLaws.{session_in, source_few}
use Rattle.pet_base.specs.laws.Through.{each_err_and}
use Rattle.command_plan.proofs.CheckCauses.{cause_of_source, no_lists, not_certified, certified, lists_lent}
use Rattle.command_plan.proofs.checking.certified_groups.Goals as goal

pub certify-requires : goal.certify-requires
certify-requires g c = record {
  few =
      subst (λ (ts : List Sizes). length ts ≤ MAX_GROUPS) (sym c.as_slice-tables.ensures.value)
      (source_few (g.P.Place.seen c.args.place.now).files c.args.stream.now c.args.priority.now c.in_ok-source.source
      c.in_ok-source.ensures.source);
}

pub returns-in_err-source-clause-cause : goal.returns-in_err-source-clause-cause
returns-in_err-source-clause-cause g c =
    let old = g.P.Place.seen c.args.place.now in
    let new = g.P.Place.seen c.read_source.new.place in
    each_err_and c.from_residual.result _ _
    (λ e is.
    subst (Checks old new c.args.stream.now c.args.priority.now c.args.plan.now) (sym is)
    (cause_of_source old new c.args.stream.now c.args.priority.now c.args.plan.now c.in_err-source.field-0.0
    c.in_err-source.ensures.cause))
    c.from_residual.ensures.1

pub returns-in_err-lists-clause-cause : goal.returns-in_err-lists-clause-cause
returns-in_err-lists-clause-cause g c =
    let old = g.P.Place.seen c.args.place.now in
    let between = g.P.Place.seen c.read_source.new.place in
    let new = g.P.Place.seen c.read_lists.new.place in
    let session = session_in old c.args.stream.now c.args.priority.now c.in_ok-source.source
    c.in_ok-source.ensures.source in
    each_err_and c.from_residual-in_err-lists.result _ _
    (λ e is.
    subst (Checks old new c.args.stream.now c.args.priority.now c.args.plan.now) (sym is)
    (no_lists old between new c.args.stream.now c.args.priority.now c.args.plan.now c.in_err-lists.field-0.0 session
    c.read_source.ensures.others.files c.read_source.ensures.later c.in_err-lists.ensures.cause))
    c.from_residual-in_err-lists.ensures.1

pub returns-clause-groups : goal.returns-clause-groups
returns-clause-groups g c =
    let old = g.P.Place.seen c.args.place.now in
    let between = g.P.Place.seen c.read_source.new.place in
    let source = c.in_ok-source.ensures.source in
    let session = session_in old c.args.stream.now c.args.priority.now c.in_ok-source.source source in
    IfOk-weaker c.certify.result _ _
    (λ n least.
    certified old between c.args.stream.now c.args.priority.now c.args.plan.now c.as_slice-tables.result.now
    (map (λ list. list.items) c.as_slice.result.now) n session (c.as_slice-tables.ensures.value ∙ source.tables)
    c.read_source.ensures.others.files (lists_lent
    (λ list. list.items) between c.args.plan.now _ _ c.as_slice.ensures.value c.in_ok-lists.ensures.lists) least)
    c.certify.ensures.least

pub returns-clause-cause : goal.returns-clause-cause
returns-clause-cause g c =
    let old = g.P.Place.seen c.args.place.now in
    let between = g.P.Place.seen c.read_source.new.place in
    let new = g.P.Place.seen c.read_lists.new.place in
    let source = c.in_ok-source.ensures.source in
    let session = session_in old c.args.stream.now c.args.priority.now c.in_ok-source.source source in
    IfErr-weaker c.certify.result _ _
    (λ end not.
    not_certified old between new c.args.stream.now c.args.priority.now c.args.plan.now c.as_slice-tables.result.now
    (map (λ list. list.items) c.as_slice.result.now) end session
    (c.as_slice-tables.ensures.value ∙ source.tables) c.read_source.ensures.others.files
    (lists_lent (λ list. list.items) between c.args.plan.now _ _ c.as_slice.ensures.value c.in_ok-lists.ensures.lists)
    not)
    c.certify.ensures.cause
