use Rattle.std.proofs.Common.{◌≡◌, ◌++◌, ◌∙◌, length, take, sym, subst, arith, ℕ, List}
use Rattle.std.proofs.lemmas.List.{take_all, length-append}
use Rattle.outside_routes.specs.laws.SendingLaws.{grows_then, grows_open}
use Rattle.pet_base.specs.laws.Through.{on_any_err}
use Rattle.stream_groups.specs.CutGroups.{CutGroup}
use Rattle.stream_groups.specs.laws.FilledLaws.{IsFilled}
use Rattle.stream_groups.specs.laws.FittingLaws.{IsWhole}
use Rattle.command_send.specs.inside.Sending.{HasSentSome}
use Rattle.command_send.specs.inside.Second.{SendsGroup, Differs}
use Rattle.command_send.specs.inside.Job.{job_of, lent}
use Rattle.command_send.proofs.LeastChange.{sends_none, sent_within, left_change, ends_lost}
use Rattle.command_send.proofs.Passes.{stop_on, same_then}
use Rattle.command_send.proofs.FoundGroups.{all_found}
use Rattle.command_send.proofs.GroupsSoFar.{cost_next, left_part, left_more}
use Rattle.outside_routes.specs.Way.{way_of}
use Rattle.command_send.proofs.second.send_left.Goals as goal

pub returns-in_err-change-clause-part : goal.returns-in_err-change-clause-part
returns-in_err-change-clause-part g c =
    on_any_err c.from_residual.result
    (λ stream first before at all h.
    left_part (job_of g.F.Field.coding c.args.job.now) stream before
    c.args.groups.now c.loop-group.group-index c.args.from c.loop-group.number c.group-item.result first
    (lent c.loop-group.outside)
    (lent c.send_group.new.outside)
    c.loop-group-test.true (sym c.group-item.is) at c.loop-group.invariant.count all
    (c.loop-group.invariant.sent first before at h) c.in_err-change.ensures.part)

pub returns-in_err-change-clause-cost : goal.returns-in_err-change-clause-cost
returns-in_err-change-clause-cost g c =
    omega (
      arith,
      c.send_group.ensures.cost,
      c.loop-group.invariant.left,
      cost_next c.args.job.now.found.source.tables.items c.loop-group.number,
    )

pub returns-then-is_some-clause-all : goal.returns-then-is_some-clause-all
returns-then-is_some-clause-all g c stream first before at all h =
    left_change (job_of g.F.Field.coding c.args.job.now) stream before
    c.args.groups.now c.loop-group.group-index c.args.from c.loop-group.number c.group-item.result first
    (lent c.loop-group.outside)
    (lent c.send_group.new.outside) c.in_ok-change.change
    (sym c.is_some.ensures ∙ c.if-is_some.true) c.loop-group-test.true
    (sym c.group-item.is) at c.loop-group.invariant.count all
    (c.loop-group.invariant.sent first before at h) c.in_ok-change.ensures.sends

pub loop-group-preserved : goal.loop-group-preserved
loop-group-preserved g c =
    let source = c.args.job.now.found.source in
    let number = c.loop-group.number in
    let group = c.group-item.result in
    let old = lent c.loop-group.outside in
    let new = lent c.send_group.new.outside in
    let sends = sends_none (SendsGroup (job_of g.F.Field.coding c.args.job.now) number group old new)
    (Differs (job_of g.F.Field.coding c.args.job.now) number group old new) c.in_ok-change.change
    (sym c.is_some.ensures ∙ c.if-is_some.false) c.in_ok-change.ensures.sends in
    record {
      count = omega (arith, c.loop-group.invariant.count);
      sent = λ first before at h.
          left_more (job_of g.F.Field.coding c.args.job.now) before c.args.groups.now c.loop-group.group-index c.args.from number group first
          old new
          c.loop-group-test.true (sym c.group-item.is) at c.loop-group.invariant.count
          (c.loop-group.invariant.sent first before at h) sends c.send_group.ensures.others.place.target;
      others =
          grows_then (lent c.args.outside.now) old new c.loop-group.invariant.others
          c.send_group.ensures.others;
      calm_place = c.in_ok-change.ensures.once_place ∙ c.loop-group.invariant.calm_place;
      calm_link = c.in_ok-change.ensures.once_link ∙ c.loop-group.invariant.calm_link;
      same = same_then c.loop-group.invariant.same c.send_group.ensures.same;
      out = c.send_group.ensures.out ∙ c.loop-group.invariant.out;
      left =
          omega (arith, c.send_group.ensures.cost, c.loop-group.invariant.left, cost_next source.tables.items number);
    }

pub returns-clause-all : goal.returns-clause-all
returns-clause-all g c stream first before at all h =
    let source = c.args.job.now.found.source in
    let groups = c.args.groups.now in
    let i : ℕ = c.loop-group.group-index in
    let now = lent c.loop-group.outside in
    let whole : take i groups ≡ groups = take_all i groups (omega (arith, c.loop-group-test.false)) in
    ends_lost (job_of g.F.Field.coding c.args.job.now) stream
    (before ++ groups) c.loop-group.number first now c.first_lost.result
    (omega (
      arith,
      length-append before groups,
      at,
      c.loop-group.invariant.count,
      c.loop-group-test.false,
      c.loop-group.auto.group-index-end,
    ))
    (subst (λ (l : List CutGroup). HasSentSome (job_of g.F.Field.coding c.args.job.now) (before ++ l) first now) whole
    (c.loop-group.invariant.sent first before at h))
    (all_found source.priority stream (before ++ groups) all) c.first_lost.ensures.lost c.first_lost.ensures.none

pub send_group-requires-clause-whole : goal.send_group-requires-clause-whole
send_group-requires-clause-whole g c =
    subst (IsWhole (length c.args.job.now.found.source.priority.layers)) (sym c.group-item.is)
    (c.requires.whole c.loop-group.group-index c.group-item.result c.loop-group-test.true)

pub send_group-requires-clause-filled : goal.send_group-requires-clause-filled
send_group-requires-clause-filled g c =
    subst IsFilled (sym c.group-item.is)
    (c.requires.filled c.loop-group.group-index c.group-item.result c.loop-group-test.true)

pub overflow_add-number : goal.overflow_add-number
overflow_add-number g c =
    omega (
      arith,
      c.args.job.now.few,
      sent_within (job_of g.F.Field.coding c.args.job.now) c.loop-group.number
          c.group-item.result (lent c.loop-group.outside)
          (lent c.send_group.new.outside)
          c.in_ok-change.change (sym c.is_some.ensures ∙ c.if-is_some.false) c.in_ok-change.ensures.sends,
    )

pub send_group-requires-clause-open : goal.send_group-requires-clause-open
send_group-requires-clause-open g c =
    grows_open (way_of c.args.job.now.to) (lent c.args.outside.now)
    (lent c.loop-group.outside) c.loop-group.invariant.others c.requires.open

pub returns-in_err-change-clause-others : goal.returns-in_err-change-clause-others
returns-in_err-change-clause-others g c =
    grows_then (lent c.args.outside.now)
    (lent c.loop-group.outside)
    (lent c.send_group.new.outside) c.loop-group.invariant.others
    c.send_group.ensures.others

pub returns-in_err-change-clause-cause : goal.returns-in_err-change-clause-cause
returns-in_err-change-clause-cause g c =
    stop_on (way_of c.args.job.now.to) (lent c.args.outside.now)
    (lent c.loop-group.outside)
    (lent c.send_group.new.outside)
    c.from_residual.result c.in_err-change.field-0.0 c.from_residual.ensures.1 c.loop-group.invariant.others
    c.in_err-change.ensures.cause

pub returns-then-is_some-clause-others : goal.returns-then-is_some-clause-others
returns-then-is_some-clause-others g c =
    grows_then (lent c.args.outside.now)
    (lent c.loop-group.outside)
    (lent c.send_group.new.outside) c.loop-group.invariant.others
    c.send_group.ensures.others

pub returns-then-is_some-clause-cost : goal.returns-then-is_some-clause-cost
returns-then-is_some-clause-cost g c =
    omega (
      arith,
      c.send_group.ensures.cost,
      c.loop-group.invariant.left,
      cost_next c.args.job.now.found.source.tables.items c.loop-group.number,
    )

pub returns-clause-others : goal.returns-clause-others
returns-clause-others g c = c.loop-group.invariant.others

pub returns-clause-cost : goal.returns-clause-cost
returns-clause-cost g c = omega (arith, c.loop-group.invariant.left)
