use Rattle.std.proofs.Common.{◌++◌, length, take, [], refl, sym, ◌∙◌, ap, subst, arith, rules}
use Rattle.std.proofs.lemmas.List.{length-append}
use Rattle.pet_base.specs.Seen.{Grows}
use Rattle.pet_base.specs.laws.Through.{on_any_err}
use Rattle.pet_base.specs.declared.limits.TheConstants.{MAX_STREAM}
use Rattle.outside_files.specs.laws.InputLaws.{is_portion, is_none, read_few, read_more, read_whole}
use Rattle.mpeg_system.proofs.Feeding.{fed_none}
use Rattle.mpeg_system.proofs.Standing.{stands_first, stands_read, stands_put, stands_end, begun_reading, begun_putting}
use Rattle.mpeg_system.proofs.Standing.{given_short}
use Rattle.mpeg_system.proofs.unwrap_files.unwrap_opened.Goals as goal

pub loop-video-init : goal.loop-video-init
loop-video-init g c = record {
  stream = [];
  given = [];
  stands = stands_first (g.P.Place.seen c.args.place.now);
  fed = fed_none c.args.id c.new-unwrap.result c.new-unwrap.ensures;
  count = rw c.up_to-portions.ensures (omega arith);
  put = refl;
  calm = refl;
  input = c.requires.input;
  output = c.requires.output;
  room = c.requires.room;
}

pub returns-in_err-count-clause-begun : goal.returns-in_err-count-clause-begun
returns-in_err-count-clause-begun g c =
    let seen = g.P.Place.seen in
    let i = c.loop-video.invariant in
    on_any_err c.from_residual.result
    (begun_reading c.args.id (seen c.args.place.now) (seen c.loop-video.place)
    (seen c.next.new.place) i.stream i.given i.stands i.fed.front c.next.ensures.others
    c.next.ensures.cause.later)

pub returns-in_err-put-clause-begun : goal.returns-in_err-put-clause-begun
returns-in_err-put-clause-begun g c =
    let seen = g.P.Place.seen in
    let i = c.loop-video.invariant in
    let portion = take c.in-Some.count c.next.new.buffer in
    let fed = c.pass_on.ensures c.args.id i.stream i.given i.fed in
    let next = is_portion c.in_ok-count.field-0 _ _ c.in-Some.count c.in-Some.is c.in_ok-count.ensures.next in
    let stands = stands_read (seen c.args.place.now) (seen c.loop-video.place)
    (seen c.next.new.place) i.stream i.given portion i.stands next.taken
    c.next.ensures.others c.next.ensures.cause.later in
    let part = c.in_err-put.ensures.part in
    on_any_err c.from_residual-in_err-put.result
    (begun_putting c.args.id (seen c.args.place.now) (seen c.next.new.place) (seen c.put.new.self)
    (i.stream ++ portion) i.given c.pass_on.new.video.items part.0 stands fed.front
    (subst (λ l. Grows (seen c.next.new.place).target (take part.0 l) (seen c.next.new.place).files
    (seen c.put.new.self).files) c.as_slice.ensures.value part.1)
    c.put.ensures.cause.later)

pub overflow_add-put : goal.overflow_add-put
overflow_add-put g c =
    let i = c.loop-video.invariant in
    let portion = take c.in-Some.count c.next.new.buffer in
    let more = c.pass_on.new.video.items in
    let fed = c.pass_on.ensures c.args.id i.stream i.given i.fed in
    let short = given_short c.args.id (i.stream ++ portion) (i.given ++ more) fed.front in
    let next = is_portion c.in_ok-count.field-0 _ _ c.in-Some.count c.in-Some.is c.in_ok-count.ensures.next in
    let few = read_few MAX_STREAM c.next.new.self (length (i.stream ++ portion))
    (read_more MAX_STREAM c.in-Some.count i.stream c.next.new.buffer c.loop-video.portions c.next.new.self
    (g.P.Place.seen c.loop-video.place) (g.P.Place.seen c.next.new.place) i.count next) in
    omega (arith, short, few, i.put, c.len.ensures, length-append i.given more)

pub loop-video-preserved : goal.loop-video-preserved
loop-video-preserved g c =
    let seen = g.P.Place.seen in
    let i = c.loop-video.invariant in
    let portion = take c.in-Some.count c.next.new.buffer in
    let more = c.pass_on.new.video.items in
    let next = is_portion c.in_ok-count.field-0 _ _ c.in-Some.count c.in-Some.is c.in_ok-count.ensures.next in
    let stands = stands_read (seen c.args.place.now) (seen c.loop-video.place)
    (seen c.next.new.place) i.stream i.given portion i.stands next.taken
    c.next.ensures.others c.next.ensures.cause.later in
    record {
      stream = i.stream ++ portion;
      given = i.given ++ more;
      stands =
          stands_put (seen c.args.place.now) (seen c.next.new.place) (seen c.put.new.self)
          (i.stream ++ portion) i.given more stands
          (subst (λ l. Grows (seen c.next.new.place).target l (seen c.next.new.place).files
          (seen c.put.new.self).files) c.as_slice.ensures.value c.in_ok-put.ensures.files)
          c.put.ensures.others c.put.ensures.target c.put.ensures.output
          (c.next.ensures.others.has_output ∙ i.output) c.put.ensures.cause.later;
      fed = c.pass_on.ensures c.args.id i.stream i.given i.fed;
      count =
          read_more MAX_STREAM c.in-Some.count i.stream c.next.new.buffer c.loop-video.portions c.next.new.self
          (seen c.loop-video.place) (seen c.next.new.place) i.count next;
      put =
          omega (
            arith,
            i.put,
            length-append i.given more,
            c.len.ensures,
            sym c.as_slice.ensures.len,
            ap length c.as_slice.ensures.value,
          );
      calm = c.in_ok-put.ensures.counts.count ∙ (c.in_ok-count.ensures.once ∙ i.calm);
      input = c.put.ensures.others.has_input ∙ (c.next.ensures.others.has_input ∙ i.input);
      output = c.put.ensures.output;
      room = search rules;
    }

pub returns-clause-unwrapped : goal.returns-clause-unwrapped
returns-clause-unwrapped g c =
    let seen = g.P.Place.seen in
    let i = c.loop-video.invariant in
    let none = is_none c.in_ok-count.field-0 _ _ c.in_default.not-Some c.in_ok-count.ensures.next in
    record {
      stream = i.stream;
      given = i.given;
      stands =
          stands_end (seen c.args.place.now) (seen c.loop-video.place) (seen c.next.new.place) i.stream i.given
          c.loop-video.portions i.stands none
          c.next.ensures.others c.next.ensures.cause.later;
      few = read_few MAX_STREAM c.loop-video.portions (length i.stream) i.count;
      whole =
          read_whole MAX_STREAM i.stream c.loop-video.portions (seen c.loop-video.place) (seen c.next.new.place) i.count none;
      front = i.fed.front;
      ends = c.end_of.ensures.ends c.args.id i.stream i.given i.put i.fed;
    }
