use Rattle.std.proofs.Common.{◌≡◌, ◌++◌, ◌∙◌, ap, arith}
use Rattle.std.specs.List.{flat_map, range_with_len}
use Rattle.packet_session.specs.Datagrams.{entries_text}
use Rattle.pet_receive.specs.Arrivals.{kept_set}
use Rattle.packet_verdicts.specs.laws.FramesLaws.{frames_of, frames_one_group}
use Rattle.store_merge.proofs.Appended.{entries_then, front_then, all_groups}
use Rattle.store_merge.proofs.write.append_groups.Goals as goal

pub loop-group-preserved : goal.loop-group-preserved
loop-group-preserved g c =
    let set = kept_set c.args.receiver.now in
    record {
      text =
          entries_then c.args.into.now.items c.loop-group.into.items c.append_if_open.new.into.items
          (flat_map (frames_of set) (range_with_len 0 c.loop-group.group)) (frames_of set c.loop-group.group) _
          (frames_one_group set c.loop-group.group)
          c.loop-group.invariant.text c.in_ok-append_if_open.ensures.text;
      front =
          front_then c.args.into.now.items c.loop-group.into.items c.append_if_open.new.into.items
          c.loop-group.invariant.front c.append_if_open.ensures.front;
    }

pub returns-clause-text : goal.returns-clause-text
returns-clause-text g c =
    let set = kept_set c.args.receiver.now in
    let all : c.loop-group.group ≡ c.unwrap_or-groups.result =
    omega (arith, c.loop-group-test.false, c.loop-group.auto.group-end) in
    c.loop-group.invariant.text
    ∙ ap (λ fs. c.args.into.now.items ++ entries_text fs)
    (all_groups set c.groups.ensures.sound c.groups.result c.loop-group.group c.groups.ensures.value
    (all ∙ c.unwrap_or-groups.ensures))
