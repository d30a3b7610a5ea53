use Rattle.std.proofs.Common.{List, ℕ, take, subst}
use Rattle.pet_base.specs.Causes.{Blames}
use Rattle.pet_base.specs.declared.place.Side.TheVariants.{Written}
use Rattle.pet_base.specs.Seen.{HadFault}
use Rattle.pet_base.specs.laws.SeenLaws.{HadFault-err}
use Rattle.outside_files.specs.Outputs.{Puts}
use Rattle.outside_files.specs.laws.PartLaws.{part_of_take}
use Rattle.packet_verdicts.specs.KeptSet.{KeptSet}
use Rattle.command_video.specs.inside.Ends.{IsGroupEnd}
use Rattle.command_video.specs.inside.Groups.{AreOwn}
use Rattle.command_video.proofs.Causes.{end_is}
use Rattle.command_video.proofs.files.put_group_video.Goals as goal

pub returns-in_err-put-clause-end : goal.returns-in_err-put-clause-end
returns-in_err-put-clause-end g c =
    let old = g.P.Place.seen c.args.place.now in
    let new = g.P.Place.seen c.put.new.self in
    let video : List ℕ = c.make_video.new.video.items in
    let part = c.in_err-put.ensures.part in
    end_is (λ end. (set : KeptSet) → AreOwn c.args.packets.now set c.args.group
    → IsGroupEnd (HadFault old new (Blames Written old.target)) set c.args.group old new end)
    c.from_residual-in_err-put.result _ c.from_residual-in_err-put.ensures.1
    (λ set own. (
      HadFault-err old new c.in_err-put.field-0.0 (Blames Written old.target) c.in_err-put.ensures.cause,
      (
        video,
        c.in_ok-make_video.ensures.shows set own,
        part_of_take part.0 video old new
            (subst (λ (b : List ℕ). Puts (take part.0 b) old new) c.as_slice.ensures.value part.1),
      ),
    ))
