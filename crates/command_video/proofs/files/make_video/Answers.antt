use Rattle.std.proofs.lemmas.Result.{on_ok_weaker, IfErr-weaker}
use Rattle.pet_receive.specs.Arrivals.{kept_set}
use Rattle.store_groups.specs.Groups.{only_group}
use Rattle.command_video.proofs.OneGroup.{own_video, own_end}
use Rattle.command_video.proofs.files.make_video.Goals as goal

pub returns-clause-shows : goal.returns-clause-shows
returns-clause-shows g c =
    on_ok_weaker c.group_video.result
    (λ shows set own.
    own_video c.args.packets.now set (kept_set c.in_ok-receiver.receiver) c.args.group own
    (c.in_ok-receiver.ensures.kept (only_group set c.args.group) own.own own.limit) c.group_video.new.video.items shows)
    c.group_video.ensures.video

pub returns-clause-end : goal.returns-clause-end
returns-clause-end g c =
    IfErr-weaker c.group_video.result _ _
    (λ end ends set own.
    own_end c.args.packets.now set (kept_set c.in_ok-receiver.receiver) c.args.group own
    (c.in_ok-receiver.ensures.kept (only_group set c.args.group) own.own own.limit) end ends)
    c.group_video.ensures.end
