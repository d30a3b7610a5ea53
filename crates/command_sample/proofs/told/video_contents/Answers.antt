use Rattle.std.proofs.Common.{ap, ◌∙◌, arith}
use Rattle.std.specs.List.{flat_map}
use Rattle.std.proofs.lemmas.List.{take_all}
use Rattle.command_sample.specs.Samples.{contents_of}
use Rattle.command_sample.specs.SampleSession.{whole_group_video, whole_session_video}
use Rattle.command_sample.specs.inside.Making.{session_made}
use Rattle.command_sample.proofs.Encoders.{as_many, cuts_few}
use Rattle.command_sample.proofs.Telling.{video_more}
use Rattle.command_sample.proofs.told.video_contents.Goals as goal

pub overflow_cast-group-end : goal.overflow_cast-group-end
overflow_cast-group-end c = omega (arith, cuts_few c.args.made.now c.requires.made, c.len-group-end.ensures)

pub loop-group-preserved : goal.loop-group-preserved
loop-group-preserved c =
    let made = c.args.made.now in
    video_more (session_made made).groups c.loop-group.group c.loop-group.video.items c.append_video.new.video.items
    (omega (arith, c.loop-group-test.true, c.len-group-end.ensures, as_many made c.requires.made))
    c.loop-group.invariant c.in_ok-append_video.ensures

pub returns : goal.returns
unfolding whole_session_video
returns c =
    let made = c.args.made.now in
    let many = as_many made c.requires.made in
    c.contents_of.ensures
    ∙ ap contents_of (c.deref.ensures.value ∙ c.loop-group.invariant
    ∙ ap (flat_map whole_group_video) (take_all c.loop-group.group (session_made made).groups
    (omega (arith, many, c.loop-group-test.false, c.len-group-end.ensures))))
