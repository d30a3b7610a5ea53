use Rattle.std.proofs.Common.{◌++◌, take, ◌∙◌}
use Rattle.pet_base.specs.declared.limits.TheConstants.{MAX_STREAM}
use Rattle.outside_files.specs.laws.InputLaws.{is_portion, read_more, taken_next}
use Rattle.session_source.proofs.both.pass_over.Goals as goal

pub loop-count-preserved : goal.loop-count-preserved
loop-count-preserved g c =
    let seen = g.P.Place.seen in
    let i = c.loop-count.invariant in
    let n = c.in-Some.count in
    let buffer = c.next.new.buffer in
    let next = is_portion c.in_ok-count.field-0 _ _ n c.in-Some.is c.in_ok-count.ensures.next in
    record {
      stream = i.stream ++ take n buffer;
      read =
          read_more MAX_STREAM n i.stream buffer c.loop-count.portions c.next.new.self (seen c.loop-count.place)
          (seen c.next.new.place) i.read next;
      taken =
          taken_next MAX_STREAM n i.stream buffer c.loop-count.portions c.next.new.self (seen c.args.place.now)
          (seen c.loop-count.place) (seen c.next.new.place) i.taken i.read next c.next.ensures.others
          c.next.ensures.cause.later;
      calm = c.in_ok-count.ensures.once ∙ i.calm;
      passed = λ priority file held. c.in_ok-read.ensures priority file i.stream (i.passed priority file held);
    }
