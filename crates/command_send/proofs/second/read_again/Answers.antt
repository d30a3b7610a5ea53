use Rattle.std.proofs.Common.{refl, ◌∙◌, ◌++◌, take, arith}
use Rattle.pet_base.specs.declared.limits.TheConstants.{MAX_STREAM}
use Rattle.outside_files.specs.laws.InputLaws.{is_portion, is_none, read_more}
use Rattle.pet_base.specs.laws.Through.{on_any_err}
use Rattle.command_send.specs.inside.Job.{job_of, lent}
use Rattle.command_send.proofs.GroupsSoFar.{stands_known}
use Rattle.command_send.proofs.Passes.{passes_open, passes_then, passes_reads, passes_grows}
use Rattle.command_send.proofs.ReadPortions.{part_fed, part_taken, rest_more, stands_read, taken_end}
use Rattle.outside_routes.specs.Sending.{routes}
use Rattle.outside_routes.specs.Way.{way_of}
use Rattle.command_send.proofs.second.read_again.Goals as goal

pub returns-in_err-count-clause-part : goal.returns-in_err-count-clause-part
returns-in_err-count-clause-part g c =
    let i = c.loop-count.invariant in
    on_any_err c.from_residual.result
    (part_taken (job_of g.F.Field.coding c.args.job.now) i.stream
    c.loop-count.pass.change c.loop-count.pass.groups (lent c.args.outside.now)
    (lent c.loop-count.outside)
    (routes g.P.Place g.K.Link c.next.new.place c.loop-count.outside.link.now)
    i.rest c.next.ensures.others refl i.stands)

pub returns-clause-stands : goal.returns-clause-stands
returns-clause-stands g c =
    let seen = g.P.Place.seen in
    let i = c.loop-count.invariant in (
      i.stream,
      taken_end i.stream c.loop-count.portions (seen c.args.outside.now.place.now) (seen c.loop-count.outside.place.now)
          (seen c.next.new.place) i.rest i.read
          (is_none c.in_ok-count.field-0 _ _ c.in_default.not-Some c.in_ok-count.ensures.next),
      stands_read (job_of g.F.Field.coding c.args.job.now) i.stream
          c.loop-count.pass.change c.loop-count.pass.groups (lent c.args.outside.now)
          (lent c.loop-count.outside)
          (routes g.P.Place g.K.Link c.next.new.place c.loop-count.outside.link.now) c.next.ensures.others refl
          i.stands,
    )

pub feed-requires-clause-open : goal.feed-requires-clause-open
feed-requires-clause-open g c =
    let first = lent c.args.outside.now in
    let before = lent c.loop-count.outside in
    let after = routes g.P.Place g.K.Link c.next.new.place c.loop-count.outside.link.now in
    passes_open (way_of c.args.job.now.to) first after
    (passes_then first before after c.loop-count.invariant.others
    (passes_reads before after c.next.ensures.others refl c.next.ensures.cause.later)) c.requires.open

pub feed-requires-clause-known : goal.feed-requires-clause-known
feed-requires-clause-known g c =
    stands_known (job_of g.F.Field.coding c.args.job.now)
    c.loop-count.invariant.stream c.loop-count.pass.change c.loop-count.pass.groups
    (lent c.args.outside.now)
    (lent c.loop-count.outside) c.loop-count.invariant.stands

pub returns-in_err-feed-clause-part : goal.returns-in_err-feed-clause-part
returns-in_err-feed-clause-part g c =
    let i = c.loop-count.invariant in
    let first = lent c.args.outside.now in
    let next = is_portion c.in_ok-count.field-0 _ _ c.in-Some.count c.in-Some.is c.in_ok-count.ensures.next in
    on_any_err c.from_residual-in_err-feed.result
    (part_fed (job_of g.F.Field.coding c.args.job.now) i.stream
    (take c.in-Some.count c.next.new.buffer) c.loop-count.pass.change c.loop-count.pass.groups first
    (lent c.loop-count.outside)
    (routes g.P.Place g.K.Link c.next.new.place c.loop-count.outside.link.now)
    (lent c.feed.new.outside)
    i.rest next.taken c.next.ensures.others refl i.stands
    (c.in_err-feed.ensures.part i.stream first))

pub loop-count-preserved : goal.loop-count-preserved
loop-count-preserved g c =
    let i = c.loop-count.invariant in
    let first = lent c.args.outside.now in
    let before = lent c.loop-count.outside in
    let after = routes g.P.Place g.K.Link c.next.new.place c.loop-count.outside.link.now in
    let now = lent c.feed.new.outside in
    let portion = take c.in-Some.count c.next.new.buffer in
    let next = is_portion c.in_ok-count.field-0 _ _ c.in-Some.count c.in-Some.is c.in_ok-count.ensures.next in
    record {
      stream = i.stream ++ portion;
      read =
          read_more MAX_STREAM c.in-Some.count i.stream c.next.new.buffer c.loop-count.portions c.next.new.self before.place
          after.place i.read next;
      rest =
          rest_more i.stream portion first.place.rest before.place.rest now.place.rest i.rest
          (rw c.feed.ensures.others.place.rest next.taken);
      stands =
          c.in_ok-feed.ensures.stands i.stream first
          (stands_read (job_of g.F.Field.coding c.args.job.now) i.stream c.loop-count.pass.change
          c.loop-count.pass.groups first before after c.next.ensures.others refl i.stands);
      others =
          passes_then first after now (passes_then first before after i.others
          (passes_reads before after c.next.ensures.others refl c.next.ensures.cause.later))
          (passes_grows after now c.feed.ensures.others);
      calm_place = c.in_ok-feed.ensures.once_place ∙ c.in_ok-count.ensures.once ∙ i.calm_place;
      calm_link = c.in_ok-feed.ensures.once_link ∙ i.calm_link;
      same = record {
        place = c.feed.ensures.same.place ∙ i.same.place;
        link = c.feed.ensures.same.link ∙ i.same.link;
        out = c.feed.ensures.same.out ∙ i.same.out;
        steps = c.feed.ensures.same.steps ∙ i.same.steps;
      };
      out = c.feed.ensures.out ∙ i.out;
      left = omega (arith, i.left, c.in_ok-feed.ensures.left);
    }
