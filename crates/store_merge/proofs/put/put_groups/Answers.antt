use Rattle.std.proofs.Common.{◌≡◌, ◌+◌, ◌∙◌, refl, arith, subst}
use Rattle.std.specs.List.{flat_map, range_with_len}
use Rattle.pet_base.specs.laws.Through.{on_any_err}
use Rattle.outside_files.specs.Outputs.{Puts}
use Rattle.outside_files.specs.laws.OutputLaws.{puts_nothing}
use Rattle.outside_files.specs.laws.PartLaws.{part_within}
use Rattle.packet_session.specs.Datagrams.{entries_text}
use Rattle.packet_verdicts.specs.Union.{frames_in}
use Rattle.packet_verdicts.specs.laws.FramesLaws.{frames_of, frames_one_group}
use Rattle.pet_receive.specs.Arrivals.{kept_set}
use Rattle.store_merge.proofs.Appended.{all_groups}
use Rattle.store_text.specs.laws.PuttingLaws.{Hashes, hashes_nothing, hashes_more, puts_more, part_more}
use Rattle.store_text.specs.laws.PuttingLaws.{calmly_nothing, calmly_then}
use Rattle.store_merge.proofs.Putting.{told_front}
use Rattle.store_merge.proofs.put.put_groups.Goals as goal

pub loop-group-init : goal.loop-group-init
loop-group-init g c =
    let s = g.P.Place.seen c.args.place.now in
    record {
      puts = puts_nothing s s refl;
      hashed = hashes_nothing c.args.hasher.now;
      room = c.requires.room;
      calmly = calmly_nothing s;
    }

pub returns-in_err-put_if_open-clause-part : goal.returns-in_err-put_if_open-clause-part
returns-in_err-put_if_open-clause-part g c =
    let set = kept_set c.args.receiver.now in
    let n = c.loop-group.group in
    on_any_err c.from_residual.result
    (part_within (entries_text (flat_map (frames_of set) (range_with_len 0 (n + 1)))) (entries_text (frames_in set))
    (g.P.Place.seen c.args.place.now) (g.P.Place.seen c.put_if_open.new.place)
    (told_front set c.groups.ensures.sound c.groups.result (n + 1) c.unwrap_or-groups.result c.groups.ensures.value
    c.unwrap_or-groups.ensures (omega (arith, c.loop-group-test.true, c.loop-group.auto.group-end)))
    (part_more (flat_map (frames_of set) (range_with_len 0 n)) (frames_of set n)
    (flat_map (frames_of set) (range_with_len 0 (n + 1))) (frames_one_group set n) (g.P.Place.seen c.args.place.now)
    (g.P.Place.seen c.loop-group.place) (g.P.Place.seen c.put_if_open.new.place)
    c.loop-group.invariant.calmly.others.target c.loop-group.invariant.puts c.in_err-put_if_open.ensures.part))

pub loop-group-preserved : goal.loop-group-preserved
loop-group-preserved g c =
    let set = kept_set c.args.receiver.now in
    let n = c.loop-group.group in
    let first = g.P.Place.seen c.args.place.now in
    let before = g.P.Place.seen c.loop-group.place in
    let after = g.P.Place.seen c.put_if_open.new.place in
    record {
      puts =
          puts_more (flat_map (frames_of set) (range_with_len 0 n)) (frames_of set n)
          (flat_map (frames_of set) (range_with_len 0 (n + 1))) (frames_one_group set n) first before after
          c.loop-group.invariant.calmly.others.target c.loop-group.invariant.puts c.in_ok-put_if_open.ensures.puts;
      hashed =
          hashes_more (flat_map (frames_of set) (range_with_len 0 n)) (frames_of set n)
          (flat_map (frames_of set) (range_with_len 0 (n + 1))) (frames_one_group set n) c.args.hasher.now
          c.loop-group.hasher c.put_if_open.new.hasher c.loop-group.invariant.hashed
          c.in_ok-put_if_open.ensures.hashed;
      room = c.put_if_open.ensures.room;
      calmly =
          calmly_then first before after c.loop-group.invariant.calmly c.put_if_open.ensures.others
          c.in_ok-put_if_open.ensures.once c.in_ok-put_if_open.ensures.cause.kept;
    }

pub returns-clause-puts : goal.returns-clause-puts
returns-clause-puts g c =
    let set = kept_set c.args.receiver.now in
    let all : c.loop-group.group ≡ c.unwrap_or-groups.result =
    omega (arith, c.loop-group-test.false, c.loop-group.auto.group-end) in
    subst (λ fs. Puts (entries_text fs) (g.P.Place.seen c.args.place.now) (g.P.Place.seen c.loop-group.place))
    (all_groups set c.groups.ensures.sound c.groups.result c.loop-group.group c.groups.ensures.value
    (all ∙ c.unwrap_or-groups.ensures)) c.loop-group.invariant.puts

pub returns-clause-hashed : goal.returns-clause-hashed
returns-clause-hashed g c =
    let set = kept_set c.args.receiver.now in
    let all : c.loop-group.group ≡ c.unwrap_or-groups.result =
    omega (arith, c.loop-group-test.false, c.loop-group.auto.group-end) in
    subst (λ fs. Hashes (entries_text fs) c.args.hasher.now c.loop-group.hasher)
    (all_groups set c.groups.ensures.sound c.groups.result c.loop-group.group c.groups.ensures.value
    (all ∙ c.unwrap_or-groups.ensures)) c.loop-group.invariant.hashed
