-- The groups whose videos were put, one more, and how the command ends at one of which the video was not.
use Rattle.std.proofs.Common.{◌≡◌, ℕ, ◌+◌, ◌<◌, ◌≤◌, List, ◌++◌, Option, sym, subst, arith}
use Rattle.pet_base.specs.Causes.{Blames}
use Rattle.pet_base.specs.declared.place.Side.TheVariants.{Written}
use Rattle.pet_base.specs.Seen.{Seen, Files, Blame, HadFault, Grows}
use Rattle.pet_base.specs.laws.SeenLaws.{HadFault-since}
use Rattle.outside_files.specs.Outputs.{Puts}
use Rattle.outside_files.specs.laws.PartLaws.{part_after, part_whole}
use Rattle.packet_verdicts.specs.KeptSet.{KeptSet}
use Rattle.pet_receive.specs.ShownBytes.{groups_told}
use Rattle.command_video.specs.inside.Ends.{IsGroupEnd, IsPutEnd, PutsToTable}
use Rattle.command_video.specs.StoreVideo.{AreVideos}
use Rattle.command_video.specs.declared.command.VideoEnd.{VideoEnd}
use Rattle.command_video.specs.declared.command.VideoEnd.TheVariants.{Done, NoMemory, PlaceFault, BadStore, BadTable}
use Rattle.command_video.proofs.GroupVideos.{group_more}

module _ (set : KeptSet) (group : ℕ) (first before after : Seen) (video : List ℕ) (videos : AreVideos set group video)
    (puts : Puts video first before) (inside : group < groups_told set)
    (target : before.target ≡ first.target) (later : first.faults ≤ before.faults) where
  unchanged : after.files ≡ before.files → Puts video first after
  unchanged same = subst (λ (files : Option Files). Grows first.target video first.files files) (sym same) puts

  since : HadFault before after (Blames Written before.target) → HadFault first after (Blames Written first.target)
  since fault =
      HadFault-since first before after (Blames Written before.target) (Blames Written first.target) later
      (λ (b : Blame) blames. subst (λ (name : Option (List ℕ)). Blames Written name b) target blames) fault

  pub stopped_at : (end : VideoEnd)
      → IsGroupEnd (HadFault before after (Blames Written before.target)) set group before after end
      → IsPutEnd (HadFault first after (Blames Written first.target)) set first after end
  stopped_at NoMemory same =
      record {
        many = group;
        few = omega (arith, inside);
        video = video;
        videos = videos;
        part = part_whole video first after (unchanged same);
      }
  stopped_at PlaceFault stopped = (
    since stopped.0,
    record {
      many = group + 1;
      few = omega (arith, inside);
      video = video ++ stopped.1.0;
      videos = group_more set group video stopped.1.0 videos stopped.1.1;
      part = part_after video stopped.1.0 first before after target puts stopped.1.2;
    },
  )
  stopped_at (BadTable at) stopped =
      subst (λ (k : ℕ). PutsToTable set k first after) (sym stopped.0)
      (record { inside = inside; bad = stopped.1; video = video; before = videos; puts = unchanged stopped.2 })
  stopped_at (Done bytes) stopped = absurd stopped
  stopped_at (BadStore at kind) stopped = absurd stopped
