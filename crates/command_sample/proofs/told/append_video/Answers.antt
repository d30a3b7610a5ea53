use Rattle.command_sample.proofs.Telling.{no_fault, video_so}
use Rattle.command_sample.proofs.told.append_video.Goals as goal

pub unreachable-requires : goal.unreachable-requires
unreachable-requires c =
    no_fault c.args.made.now c.requires.made c.args.receiver.now c.requires.received c.args.group c.requires.group
    c.assemble.result c.in-Err.fault c.in-Err.is c.in_default.not-NoMemory c.assemble.ensures.no_table
    c.assemble.ensures.bad_message

pub returns-in-Ok : goal.returns-in-Ok
returns-in-Ok c =
    video_so c.args.made.now c.requires.made c.args.receiver.now c.requires.received c.args.group c.requires.group
    c.in-Ok.field-0 c.args.video.now.items c.assemble.new.into.items c.in-Ok.ensures.leading c.in-Ok.ensures.agreed
