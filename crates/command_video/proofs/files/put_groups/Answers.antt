use Rattle.std.proofs.Common.{◌≤◌, ◌<◌, ◌*◌, ℕ, List, ◌++◌, [], refl, ◌∙◌, arith}
use Rattle.std.proofs.lemmas.List.{length-append}
use Rattle.pet_base.specs.declared.limits.TheConstants.{MAX_GROUPS, MAX_GROUP_BYTES}
use Rattle.pet_base.specs.Causes.{Blames}
use Rattle.pet_base.specs.declared.place.Side.TheVariants.{Written}
use Rattle.pet_base.specs.Seen.{HadFault}
use Rattle.pet_base.specs.laws.SeenLaws.{OnlyWrites-then}
use Rattle.outside_files.specs.laws.OutputLaws.{puts_nothing, puts_then}
use Rattle.packet_verdicts.specs.KeptSet.{KeptSet}
use Rattle.pet_receive.specs.ShownBytes.{groups_told}
use Rattle.store_groups.specs.laws.GroupLaws.{all_above}
use Rattle.command_video.specs.inside.Ends.{IsPutEnd}
use Rattle.command_video.specs.inside.Groups.{AreStored}
use Rattle.command_video.proofs.Causes.{end_is}
use Rattle.command_video.proofs.GroupVideos.{no_groups, group_more, group_short, few_told}
use Rattle.command_video.proofs.GroupAfterGroup.{stopped_at}
use Rattle.command_video.proofs.OneGroup.{own_of}
use Rattle.command_video.proofs.files.put_groups.Goals as goal

pub loop-group-init : goal.loop-group-init
loop-group-init g c =
    let s = g.P.Place.seen c.args.place.now in
    record {
      left = λ set given. all_above c.args.packets.now set given.all;
      shown = λ set given. ([], no_groups set, puts_nothing s s refl, refl);
      few = omega arith;
      others = record { rest = refl; source = refl; target = refl; has_input = refl; has_output = refl };
      calm = refl;
      later = omega arith;
    }

pub split_group-requires : goal.split_group-requires
split_group-requires g c =
    let given = c.requires.packets in
    record {
      packets = (
        given.0,
        c.loop-group.invariant.left given.0 given.1,
        omega (arith, c.loop-group-test.true, c.groups_of-group-end.ensures.told given.0 given.1.all),
      );
    }

pub put_group_video-requires : goal.put_group_video-requires
put_group_video-requires g c =
    let given = c.requires.packets in
    record {
      output = c.loop-group.invariant.others.has_output ∙ c.requires.output;
      packets = (
        given.0,
        own_of c.args.packets.now given.0 c.loop-group.group given.1
            (omega (arith, c.loop-group-test.true, c.groups_of-group-end.ensures.told given.0 given.1.all))
            c.split_group.result.0
            (c.split_group.ensures.group given.0 (c.loop-group.invariant.left given.0 given.1)
            (omega (arith, c.loop-group-test.true, c.groups_of-group-end.ensures.told given.0 given.1.all))),
      );
    }

pub returns-in_err-put_group_video-clause-end : goal.returns-in_err-put_group_video-clause-end
returns-in_err-put_group_video-clause-end g c =
    let first = g.P.Place.seen c.args.place.now in
    let before = g.P.Place.seen c.loop-group.place in
    let after = g.P.Place.seen c.put_group_video.new.place in
    end_is (λ end. (set : KeptSet) → AreStored c.args.packets.now set
    → IsPutEnd (HadFault first after (Blames Written first.target)) set first after end) c.from_residual.result _
    c.from_residual.ensures.1
    (λ set given.
    let so_far = c.loop-group.invariant.shown set given in
    let inside : c.loop-group.group < groups_told set =
    omega (arith, c.loop-group-test.true, c.groups_of-group-end.ensures.told set given.all) in
    stopped_at set c.loop-group.group first before after so_far.0 so_far.1 so_far.2 inside
    c.loop-group.invariant.others.target c.loop-group.invariant.later c.in_err-put_group_video.field-0.0
    (c.in_err-put_group_video.ensures.end set
    (own_of c.args.packets.now set c.loop-group.group given inside c.split_group.result.0
    (c.split_group.ensures.group set (c.loop-group.invariant.left set given) inside))))

pub overflow_add-bytes : goal.overflow_add-bytes
overflow_add-bytes g c =
    let given = c.requires.packets in
    let set = given.0 in
    let told = c.groups_of-group-end.ensures.told set given.1.all in
    let inside : c.loop-group.group < groups_told set = omega (arith, c.loop-group-test.true, told) in
    let shows = c.in_ok-put_group_video.ensures.shows set
    (own_of c.args.packets.now set c.loop-group.group given.1 inside c.split_group.result.0
    (c.split_group.ensures.group set (c.loop-group.invariant.left set given.1) inside)) in
    let one : c.len.result ≤ MAX_GROUP_BYTES * MAX_GROUP_BYTES =
    omega (
      arith,
      c.len.ensures,
      group_short set c.loop-group.group c.put_group_video.new.video.items given.1.all.sound shows,
    ) in
    let some : groups_told set ≤ MAX_GROUPS = few_told set given.1.all.sound in
    let below : c.loop-group.group < MAX_GROUPS = omega (arith, some, inside) in
    omega (arith, one, below, c.loop-group.invariant.few)

pub loop-group-preserved : goal.loop-group-preserved
loop-group-preserved g c =
    let first = g.P.Place.seen c.args.place.now in
    let before = g.P.Place.seen c.loop-group.place in
    let after = g.P.Place.seen c.put_group_video.new.place in
    let video : List ℕ = c.put_group_video.new.video.items in
    let given = c.requires.packets in
    let inside : (set : KeptSet) → AreStored c.args.packets.now set → c.loop-group.group < groups_told set =
    λ set stored. omega (arith, c.loop-group-test.true, c.groups_of-group-end.ensures.told set stored.all) in
    let shows = λ (set : KeptSet) (stored : AreStored c.args.packets.now set).
    c.in_ok-put_group_video.ensures.shows set
    (own_of c.args.packets.now set c.loop-group.group stored (inside set stored) c.split_group.result.0
    (c.split_group.ensures.group set (c.loop-group.invariant.left set stored) (inside set stored))) in
    let one : c.len.result ≤ MAX_GROUP_BYTES * MAX_GROUP_BYTES =
    omega (
      arith,
      c.len.ensures,
      group_short given.0 c.loop-group.group video given.1.all.sound (shows given.0 given.1),
    ) in
    record {
      left =
          λ set stored.
          c.split_group.ensures.above set (c.loop-group.invariant.left set stored) (inside set stored);
      shown =
          λ set stored.
          let so_far = c.loop-group.invariant.shown set stored in (
            so_far.0 ++ video,
            group_more set c.loop-group.group so_far.0 video so_far.1 (shows set stored),
            puts_then so_far.0 video first before after c.loop-group.invariant.others.target so_far.2
                c.in_ok-put_group_video.ensures.puts,
            omega (arith, length-append so_far.0 video, so_far.3, c.len.ensures),
          );
      few = omega (arith, one, c.loop-group.invariant.few);
      others = OnlyWrites-then first before after c.loop-group.invariant.others c.put_group_video.ensures.others;
      calm = c.in_ok-put_group_video.ensures.once ∙ c.loop-group.invariant.calm;
      later = omega (arith, c.loop-group.invariant.later, c.put_group_video.ensures.later);
    }
