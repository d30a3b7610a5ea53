use Rattle.std.proofs.Common.{◌≡◌, ◌+◌, ◌∙◌, List, [], refl, arith}
use Rattle.std.specs.List.{cons_option}
use Rattle.pet_base.specs.laws.Through.{on_any_err}
use Rattle.outside_files.specs.Outputs.{Puts, PutsPart}
use Rattle.outside_files.specs.laws.OutputLaws.{puts_nothing}
use Rattle.outside_files.specs.laws.PartLaws.{part_within}
use Rattle.packet_frame.specs.Frame.{Fields}
use Rattle.packet_session.specs.Datagrams.{entries_text}
use Rattle.packet_verdicts.specs.laws.FramesLaws.{first_frames, frame_at, frames_one_number}
use Rattle.pet_receive.specs.Arrivals.{kept_set}
use Rattle.store_text.specs.laws.PuttingLaws.{Hashes, hashes_nothing, hashes_more, puts_more, part_more}
use Rattle.store_text.specs.laws.PuttingLaws.{calmly_nothing, calmly_then}
use Rattle.store_merge.proofs.Putting.{numbers_front, by_open}
use Rattle.store_merge.proofs.put.put_group.Goals as goal

pub loop-number-init : goal.loop-number-init
loop-number-init g c =
    let s = g.P.Place.seen c.args.place.now in
    record {
      puts = λ p opened. puts_nothing s s refl;
      hashed = λ p opened. hashes_nothing c.args.hasher.now;
      room = c.requires.room;
      calmly = calmly_nothing s;
    }

pub returns-in_err-put_if_kept-clause-part : goal.returns-in_err-put_if_kept-clause-part
returns-in_err-put_if_kept-clause-part g c =
    let set = kept_set c.args.receiver.now in
    let n = c.loop-number.number in
    let first = g.P.Place.seen c.args.place.now in
    let before = g.P.Place.seen c.loop-number.place in
    let after = g.P.Place.seen c.put_if_kept.new.place in
    on_any_err c.from_residual.result
    (by_open set c.args.group c.packets-number-end.result c.args.header.now
    (λ (fs : List Fields). PutsPart (entries_text fs) first after) c.requires.sound c.requires.header
    (c.packets-number-end.ensures.value)
    (λ p opened. part_within (entries_text (first_frames p (n + 1)))
    (entries_text (first_frames p c.packets-number-end.result)) first after
    (numbers_front p (n + 1) c.packets-number-end.result (omega (arith, c.loop-number-test.true, c.loop-number.auto.number-end)))
    (part_more (first_frames p n) (cons_option (frame_at p n) []) (first_frames p (n + 1)) (frames_one_number p n)
    first before after c.loop-number.invariant.calmly.others.target (c.loop-number.invariant.puts p opened)
    (c.in_err-put_if_kept.ensures.part p opened))))

pub loop-number-preserved : goal.loop-number-preserved
loop-number-preserved g c =
    let n = c.loop-number.number in
    let first = g.P.Place.seen c.args.place.now in
    let before = g.P.Place.seen c.loop-number.place in
    let after = g.P.Place.seen c.put_if_kept.new.place in
    record {
      puts =
          λ p opened. puts_more (first_frames p n) (cons_option (frame_at p n) []) (first_frames p (n + 1))
          (frames_one_number p n) first before after c.loop-number.invariant.calmly.others.target (c.loop-number.invariant.puts p opened)
          (c.in_ok-put_if_kept.ensures.puts p opened);
      hashed =
          λ p opened. hashes_more (first_frames p n) (cons_option (frame_at p n) []) (first_frames p (n + 1))
          (frames_one_number p n) c.args.hasher.now c.loop-number.hasher c.put_if_kept.new.hasher
          (c.loop-number.invariant.hashed p opened) (c.in_ok-put_if_kept.ensures.hashed p opened);
      room = c.put_if_kept.ensures.room;
      calmly =
          calmly_then first before after c.loop-number.invariant.calmly c.put_if_kept.ensures.others
          c.in_ok-put_if_kept.ensures.once c.in_ok-put_if_kept.ensures.cause.kept;
    }

pub returns-clause-puts : goal.returns-clause-puts
returns-clause-puts g c =
    let all : c.loop-number.number ≡ c.packets-number-end.result =
    omega (arith, c.loop-number-test.false, c.loop-number.auto.number-end) in
    by_open (kept_set c.args.receiver.now) c.args.group c.loop-number.number c.args.header.now
    (λ (fs : List Fields).
    Puts (entries_text fs) (g.P.Place.seen c.args.place.now) (g.P.Place.seen c.loop-number.place)) c.requires.sound
    c.requires.header (all ∙ c.packets-number-end.ensures.value) c.loop-number.invariant.puts

pub returns-clause-hashed : goal.returns-clause-hashed
returns-clause-hashed g c =
    let all : c.loop-number.number ≡ c.packets-number-end.result =
    omega (arith, c.loop-number-test.false, c.loop-number.auto.number-end) in
    by_open (kept_set c.args.receiver.now) c.args.group c.loop-number.number c.args.header.now
    (λ (fs : List Fields). Hashes (entries_text fs) c.args.hasher.now c.loop-number.hasher) c.requires.sound
    c.requires.header (all ∙ c.packets-number-end.ensures.value) c.loop-number.invariant.hashed
