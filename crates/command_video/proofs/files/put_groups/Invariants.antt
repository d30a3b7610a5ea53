use Rattle.std.proofs.Common.{◌≡◌, ℕ, ◌*◌, ◌≤◌, List, length}
use Rattle.pet_base.specs.declared.limits.TheConstants.{MAX_GROUP_BYTES}
use Rattle.pet_base.specs.Seen.{OnlyWrites}
use Rattle.outside_files.specs.Outputs.{Puts}
use Rattle.packet_verdicts.specs.KeptSet.{KeptSet}
use Rattle.store_groups.specs.Groups.{AreAbove}
use Rattle.command_video.specs.StoreVideo.{AreVideos}
use Rattle.command_video.specs.inside.Groups.{AreStored}
use Rattle.command_video.proofs.files.put_groups.Given as goal

-- the videos of the groups so far were put, and the packets of the others are left
abbrev pub invariant-loop-group : goal.invariant-loop-group
invariant-loop-group g l = record {
  left : (set : KeptSet) → AreStored l.packets set → AreAbove l.rest set l.group;
  shown : (set : KeptSet) → AreStored l.packets set → (video : List ℕ) × AreVideos set l.group video
      × Puts video (g.P.Place.seen l.initial.place) (g.P.Place.seen l.place) × (l.bytes ≡ length video);
  few : l.bytes ≤ l.group * (MAX_GROUP_BYTES * MAX_GROUP_BYTES);
  others : OnlyWrites (g.P.Place.seen l.initial.place) (g.P.Place.seen l.place);
  calm : (g.P.Place.seen l.place).faults ≡ (g.P.Place.seen l.initial.place).faults;
  later : (g.P.Place.seen l.initial.place).faults ≤ (g.P.Place.seen l.place).faults;
}
