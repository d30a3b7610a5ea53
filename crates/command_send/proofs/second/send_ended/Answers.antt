use Rattle.std.proofs.Common.{◌+◌, ◌++◌, ◌∙◌, ap, sym, subst, refl, arith}
use Rattle.std.specs.Prelude.{Option, is_some}
use Rattle.outside_routes.specs.laws.SendingLaws.{grows_same, grows_then, grows_open}
use Rattle.pet_base.specs.laws.Through.{on_any_err}
use Rattle.stream_groups.specs.CutGroups.{CutGroup}
use Rattle.stream_groups.specs.Cutting.{HasCut, groups_in}
use Rattle.command_send.specs.inside.Second.{SendsGroup, Differs}
use Rattle.command_send.specs.inside.Job.{job_of, lent}
use Rattle.command_send.proofs.LeastChange.{stands_change, sends_none, sent_within, when_change}
use Rattle.command_send.proofs.Passes.{stop_on, same_then, same_still}
use Rattle.command_send.proofs.GroupsSoFar.{cost_next, gone_more, gone_part, part_gone, knows_more, knows_whole}
use Rattle.command_send.proofs.GroupsSoFar.{knows_filled}
use Rattle.outside_routes.specs.Way.{way_of}
use Rattle.command_send.proofs.second.send_ended.Goals as goal

pub loop-group-init : goal.loop-group-init
loop-group-init g c = record {
  known = c.requires.known;
  gone = λ stream first h. h;
  others = grows_same (lent c.args.outside.now);
  calm_place = refl;
  calm_link = refl;
  same = same_still c.args.outside.now;
  out = refl;
  left = omega arith;
}

pub returns-in_err-group-clause-part : goal.returns-in_err-group-clause-part
returns-in_err-group-clause-part g c =
    on_any_err c.from_residual.result
    (λ stream first h. part_gone (job_of g.F.Field.coding c.args.job.now)
    stream c.loop-group.groups first (lent c.loop-group.outside)
    (c.loop-group.invariant.gone stream first h))

pub send_group-requires-clause-whole : goal.send_group-requires-clause-whole
send_group-requires-clause-whole g c =
    knows_whole c.loop-group.groups.cutter c.next.new.self c.args.job.now.found.source.priority c.in-Some.group
    c.loop-group.invariant.known
    (λ p stream given h. subst (λ (o : Option CutGroup). HasCut c.next.new.self p stream (given ++ groups_in o))
    c.in-Some.is (c.in_ok-group.ensures.cut p stream given h))

pub send_group-requires-clause-filled : goal.send_group-requires-clause-filled
send_group-requires-clause-filled g c =
    knows_filled c.loop-group.groups.cutter c.next.new.self c.args.job.now.found.source.priority c.in-Some.group
    c.loop-group.invariant.known
    (λ p stream given h. subst (λ (o : Option CutGroup). HasCut c.next.new.self p stream (given ++ groups_in o))
    c.in-Some.is (c.in_ok-group.ensures.cut p stream given h))

pub returns-in_err-change-clause-part : goal.returns-in_err-change-clause-part
returns-in_err-change-clause-part g c =
    let source = c.args.job.now.found.source in
    let priority = source.priority in
    on_any_err c.from_residual-in_err-change.result
    (λ stream first h.
    gone_part (job_of g.F.Field.coding c.args.job.now) stream c.loop-group.groups
    c.next.new.self c.in-Some.group first (lent c.loop-group.outside)
    (lent c.send_group.new.outside)
    (c.loop-group.invariant.gone stream first h)
    (λ given cut. subst (λ (o : Option CutGroup). HasCut c.next.new.self priority stream (given ++ groups_in o))
    c.in-Some.is (c.in_ok-group.ensures.cut priority stream given cut))
    c.in_err-change.ensures.part)

pub returns-in_err-change-clause-cost : goal.returns-in_err-change-clause-cost
returns-in_err-change-clause-cost g c =
    omega (
      arith,
      c.send_group.ensures.cost,
      c.loop-group.invariant.left,
      cost_next c.args.job.now.found.source.tables.items c.loop-group.groups.sent,
    )

pub returns-then-is_some-clause-stands : goal.returns-then-is_some-clause-stands
returns-then-is_some-clause-stands g c stream first h =
    let source = c.args.job.now.found.source in
    let priority = source.priority in
    stands_change (job_of g.F.Field.coding c.args.job.now) stream c.loop-group.groups
    (record { cutter = c.next.new.self; sent = c.loop-group.groups.sent }) c.next.new.self c.in-Some.group first
    (lent c.loop-group.outside)
    (lent c.send_group.new.outside) c.in_ok-change.change
    (sym c.is_some.ensures ∙ c.if-is_some.true) c.in_ok-change.ensures.sends
    (c.loop-group.invariant.gone stream first h)
    (λ given cut. subst (λ (o : Option CutGroup). HasCut c.next.new.self priority stream (given ++ groups_in o))
    c.in-Some.is (c.in_ok-group.ensures.cut priority stream given cut))

pub loop-group-preserved : goal.loop-group-preserved
loop-group-preserved g c =
    let source = c.args.job.now.found.source in
    let before = lent c.loop-group.outside in
    let after = lent c.send_group.new.outside in
    let sends = sends_none (SendsGroup (job_of g.F.Field.coding c.args.job.now)
    c.loop-group.groups.sent c.in-Some.group before after)
    (Differs (job_of g.F.Field.coding c.args.job.now) c.loop-group.groups.sent c.in-Some.group before after)
    c.in_ok-change.change (sym c.is_some.ensures ∙ c.if-is_some.false) c.in_ok-change.ensures.sends in
    record {
      known =
          knows_more c.loop-group.groups.cutter c.next.new.self source.priority c.in-Some.group
          c.loop-group.invariant.known
          (λ p stream given h. subst (λ (o : Option CutGroup). HasCut c.next.new.self p stream (given ++ groups_in o))
          c.in-Some.is (c.in_ok-group.ensures.cut p stream given h));
      gone = λ stream first h.
          gone_more (job_of g.F.Field.coding c.args.job.now) stream c.loop-group.groups
          (record { cutter = c.next.new.self; sent = c.loop-group.groups.sent + 1 }) c.in-Some.group first before after
          (c.loop-group.invariant.gone stream first h)
          (λ given cut. subst (λ (o : Option CutGroup). HasCut c.next.new.self source.priority stream
          (given ++ groups_in o)) c.in-Some.is (c.in_ok-group.ensures.cut source.priority stream given cut))
          refl sends c.send_group.ensures.others.place.target;
      others =
          grows_then (lent c.args.outside.now) before after
          c.loop-group.invariant.others c.send_group.ensures.others;
      calm_place = c.in_ok-change.ensures.once_place ∙ c.loop-group.invariant.calm_place;
      calm_link = c.in_ok-change.ensures.once_link ∙ c.loop-group.invariant.calm_link;
      same = same_then c.loop-group.invariant.same c.send_group.ensures.same;
      out = c.send_group.ensures.out ∙ c.loop-group.invariant.out;
      left =
          omega (
            arith,
            c.send_group.ensures.cost,
            c.loop-group.invariant.left,
            cost_next source.tables.items c.loop-group.groups.sent,
          );
    }

pub send_group-requires-clause-open : goal.send_group-requires-clause-open
send_group-requires-clause-open g c =
    grows_open (way_of c.args.job.now.to) (lent c.args.outside.now)
    (lent c.loop-group.outside) c.loop-group.invariant.others c.requires.open

pub returns-in_err-group-clause-others : goal.returns-in_err-group-clause-others
returns-in_err-group-clause-others g c = c.loop-group.invariant.others

pub returns-in_err-group-clause-cost : goal.returns-in_err-group-clause-cost
returns-in_err-group-clause-cost g c = omega (arith, c.loop-group.invariant.left)

pub returns-in_err-change-clause-others : goal.returns-in_err-change-clause-others
returns-in_err-change-clause-others g c =
    grows_then (lent c.args.outside.now)
    (lent c.loop-group.outside)
    (lent c.send_group.new.outside) c.loop-group.invariant.others
    c.send_group.ensures.others

pub returns-in_err-change-clause-cause : goal.returns-in_err-change-clause-cause
returns-in_err-change-clause-cause g c =
    stop_on (way_of c.args.job.now.to) (lent c.args.outside.now)
    (lent c.loop-group.outside)
    (lent c.send_group.new.outside)
    c.from_residual-in_err-change.result c.in_err-change.field-0.0 c.from_residual-in_err-change.ensures.1
    c.loop-group.invariant.others c.in_err-change.ensures.cause

pub returns-then-is_some-clause-others : goal.returns-then-is_some-clause-others
returns-then-is_some-clause-others g c =
    grows_then (lent c.args.outside.now)
    (lent c.loop-group.outside)
    (lent c.send_group.new.outside) c.loop-group.invariant.others
    c.send_group.ensures.others

pub returns-then-is_some-clause-cost : goal.returns-then-is_some-clause-cost
returns-then-is_some-clause-cost g c =
    omega (
      arith,
      c.send_group.ensures.cost,
      c.loop-group.invariant.left,
      cost_next c.args.job.now.found.source.tables.items c.loop-group.groups.sent,
    )

pub returns-then-is_some-clause-left : goal.returns-then-is_some-clause-left
returns-then-is_some-clause-left g c =
    let idle = when_change c.in_ok-change.change
    (sym c.is_some.ensures ∙ c.if-is_some.true) c.in_ok-change.ensures.idle in
    omega (arith, idle, c.loop-group.invariant.left)

pub returns-clause-others : goal.returns-clause-others
returns-clause-others g c = c.loop-group.invariant.others

pub returns-clause-cost : goal.returns-clause-cost
returns-clause-cost g c = omega (arith, c.loop-group.invariant.left)

pub returns-clause-left : goal.returns-clause-left
returns-clause-left g c = omega (arith, c.loop-group.invariant.left)

pub overflow_add-groups : goal.overflow_add-groups
overflow_add-groups g c =
    omega (
      arith,
      c.args.job.now.few,
      sent_within (job_of g.F.Field.coding c.args.job.now)
          c.loop-group.groups.sent c.in-Some.group (lent c.loop-group.outside)
          (lent c.send_group.new.outside)
          c.in_ok-change.change (sym c.is_some.ensures ∙ c.if-is_some.false) c.in_ok-change.ensures.sends,
    )

pub loop-group-smaller : goal.loop-group-smaller
loop-group-smaller g c = c.in_ok-group.ensures.fewer (ap is_some c.in-Some.is)
