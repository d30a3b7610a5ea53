use Rattle.std.proofs.Common.{◌+◌, ◌-◌, length, sym, ap, ◌∙◌, arith}
use Rattle.packet_verdicts.specs.laws.FramesLaws.{frames_of}
use Rattle.store_text.specs.Store.{entries_in}
use Rattle.store_text.specs.declared.format.TheConstants.{STORE_FORM}
use Rattle.store_groups.specs.Groups.{frames_above}
use Rattle.store_groups.specs.laws.GroupLaws.{only_sound, only_frames}
use Rattle.store_groups.proofs.KeptPackets.{cut_of, front_text, short_rest, many_rest}
use Rattle.store_groups.proofs.groups.split_group.Goals as goal

pub skip_group-count-requires : goal.skip_group-count-requires
skip_group-count-requires c =
    let set = c.requires.packets.0 in
    record {
      cut = (
        frames_of set c.args.group,
        frames_above set (c.args.group + 1),
        cut_of c.args.packets.now set c.args.group c.requires.packets.1 c.requires.packets.2,
      );
    }

pub overflow_sub-packets : goal.overflow_sub-packets
overflow_sub-packets c =
    let given = c.requires.packets in
    short_rest c.args.packets.now given.0 c.args.group given.1 given.2 c.skip_group-count.result.1.now
    (c.skip_group-count.ensures.cut _ _ (cut_of c.args.packets.now given.0 c.args.group given.1 given.2)).1

pub overflow_sub-result : goal.overflow_sub-result
overflow_sub-result c =
    let given = c.requires.packets in
    omega (
      arith,
      many_rest c.args.packets.now given.0 c.args.group given.1 given.2 c.skip_group-count.result.0
          (c.skip_group-count.ensures.cut _ _
          (cut_of c.args.packets.now given.0 c.args.group given.1 given.2)).0,
    )

pub returns-clause-group : goal.returns-clause-group
returns-clause-group c set are inside =
    let cut = cut_of c.args.packets.now set c.args.group are inside in
    let skip = c.skip_group-count.ensures.cut _ _ cut in
    let short = short_rest c.args.packets.now set c.args.group are inside c.skip_group-count.result.1.now skip.1 in
    let own = frames_of set c.args.group in
    let other = frames_above set (c.args.group + 1) in
    record {
      sound = only_sound set are.sound c.args.group;
      of_session = are.of_session;
      number = skip.0 ∙ sym (ap length (only_frames set c.args.group));
      text =
          c.split_at.ensures.front
          ∙ front_text own other c.args.packets.now.entries.now
          (length c.args.packets.now.entries.now - length c.skip_group-count.result.1.now) cut.all.text
          (omega (arith, short, ap length skip.1))
          ∙ sym (ap (entries_in STORE_FORM) (only_frames set c.args.group));
    }

pub returns-clause-above : goal.returns-clause-above
returns-clause-above c set are inside =
    let cut = cut_of c.args.packets.now set c.args.group are inside in
    let skip = c.skip_group-count.ensures.cut _ _ cut in
    record {
      sound = are.sound;
      of_session = are.of_session;
      number =
          omega (
            arith,
            many_rest c.args.packets.now set c.args.group are inside c.skip_group-count.result.0 skip.0,
          );
      text = skip.1;
    }
