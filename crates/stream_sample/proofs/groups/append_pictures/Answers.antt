use Rattle.std.proofs.Common.{◌+◌, drop, sym, ◌∙◌}
use Rattle.stream_sample.specs.SampleStream.{pictures_text}
use Rattle.stream_sample.proofs.Appended.{one_more, all_appended}
use Rattle.stream_sample.proofs.Steps.{picture_next, behind_next, pictures_end, behind_end}
use Rattle.stream_sample.proofs.groups.append_pictures.Goals as goal

pub loop-picture-preserved : goal.loop-picture-preserved
loop-picture-preserved c =
    let now = c.loop-picture.filler.state in
    let next = c.append_picture.new.filler.state in
    let pictures = c.args.pictures.now in
    let i = c.loop-picture.picture-index in
    record {
      text =
          one_more c.args.into.now.items (pictures_text c.args.filler.now.state pictures)
          (pictures_text now (drop i pictures)) c.loop-picture.into.items _
          (pictures_text next (drop (i + 1) pictures)) c.append_picture.new.into.items c.loop-picture.invariant.text
          (picture_next now pictures i _ next c.loop-picture-test.true c.in_ok-append_picture.ensures.state)
          c.in_ok-append_picture.ensures.ok;
      state =
          behind_next now pictures i _ next c.loop-picture-test.true c.in_ok-append_picture.ensures.state
          ∙ c.loop-picture.invariant.state;
    }

pub returns-clause-ok : goal.returns-clause-ok
returns-clause-ok c =
    let now = c.loop-picture.filler.state in
    let pictures = c.args.pictures.now in
    let i = c.loop-picture.picture-index in
    all_appended c.args.into.now.items (pictures_text c.args.filler.now.state pictures)
    (pictures_text now (drop i pictures))
    c.loop-picture.into.items c.loop-picture.invariant.text (pictures_end now pictures i c.loop-picture-test.false)

pub returns-clause-state : goal.returns-clause-state
returns-clause-state c =
    sym (behind_end c.loop-picture.filler.state c.args.pictures.now c.loop-picture.picture-index
    c.loop-picture-test.false)
    ∙ c.loop-picture.invariant.state
