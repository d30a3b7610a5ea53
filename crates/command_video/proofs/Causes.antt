-- Why the command ends so, by the step that failed.
use Rattle.std.proofs.Common.{◌≡◌, ℕ, ◌≤◌, List, [], ◌∷◌, length, get_or, None, Some, Result, Ok, Err, sym, subst}
use Rattle.std.proofs.Common.{arith, inr}
use Rattle.std.specs.Prelude.{IfOk, IfErr, IsErrAnd, option_map}
use Rattle.pet_base.specs.Causes.{Blames}
use Rattle.pet_base.specs.declared.place.Side.TheVariants.{Written}
use Rattle.pet_base.specs.Seen.{Seen, Names, HadFault, with_file}
use Rattle.pet_base.specs.laws.SeenLaws.{Blames-named, HadFault-since}
use Rattle.outside_files.specs.Outputs.{Puts, PutsPart}
use Rattle.outside_files.specs.Uses.{writing, IsOneOf}
use Rattle.outside_files.specs.Wrote.{Wrote}
use Rattle.outside_files.specs.laws.WroteLaws.{Wrote-file, Wrote-nothing, Wrote-then}
use Rattle.packet_verdicts.specs.KeptSet.{KeptSet, IsKeptSet}
use Rattle.pet_receive.specs.ShownBytes.{groups_told}
use Rattle.store_text.specs.Files.{HasStore}
use Rattle.command_video.specs.inside.Ends.{IsPutEnd, PutsFront}
use Rattle.command_video.specs.StoreVideo.{AreVideos}
use Rattle.command_video.specs.Videos.{Videos, WritesVideo, LeavesVideoFront, FailedInTurn, video_file}
use Rattle.command_video.proofs.VideoOrTable.{not_both}
use Rattle.command_video.specs.declared.command.VideoEnd.{VideoEnd}
use Rattle.command_video.specs.declared.command.VideoEnd.TheVariants.{Done, NoMemory, PlaceFault, BadStore, BadTable}

-- what the command ends with is what a step's error stands for
pub end_is : {T : Type 0} (P : VideoEnd → Type 0) (result : Result T VideoEnd) (end : VideoEnd)
    → IsErrAnd result (λ e. e ≡ end) → P end → IfErr result P
end_is P (Ok x) end is p = tt
end_is P (Err e) end is p = subst P (sym is) p

-- It was read, and then OUT was made.
module _ (store out : List ℕ) (old read : Seen) (set : KeptSet) (is : HasStore old.files store set)
    (sound : IsKeptSet set) (later : old.faults ≤ read.faults) (before : read.files ≡ old.files) where
  -- it was made
  module _ (made new : Seen) (once : read.faults ≤ made.faults)
      (create : made.files ≡ option_map (with_file out []) read.files) (named : Names read.files made.target out) where
    wrote : (bytes : List ℕ) → Puts bytes made new → Wrote (video_file out bytes ∷ []) None old new
    wrote bytes puts =
        Wrote-then [] (video_file out bytes ∷ []) None old read new (Wrote-nothing old read before)
        (Wrote-file (video_file out bytes) made.target read made new create named puts)

    front : (bytes : List ℕ) → PutsPart bytes made new → Wrote [] (Some (video_file out bytes)) old new
    front bytes part = (part.0, part.1, wrote part.0 part.2)

    has_front : PutsFront set made new → LeavesVideoFront store out old new
    has_front part =
        inr (record {
          set = set;
          store_is = is;
          many = part.many;
          few = part.few;
          video = part.video;
          videos = part.videos;
          file = front part.video part.part;
        })

    put_failed : HadFault made new (Blames Written made.target) → FailedInTurn store out old new
    put_failed fault =
        inr (
          (set, is),
          HadFault-since old made new (Blames Written made.target) (IsOneOf (writing out ∷ []))
              (omega (arith, later, once))
              (λ b blames. Blames-named read.files made.target out Written b named blames) fault,
        )

    not_put : (end : VideoEnd) → IsPutEnd (HadFault made new (Blames Written made.target)) set made new end
        → Videos store out old new end
    not_put NoMemory part = has_front part
    not_put PlaceFault stopped = (put_failed stopped.0, has_front stopped.1)
    not_put (BadTable at) to = record {
      set = set;
      store_is = is;
      inside = to.inside;
      bad = to.bad;
      none = not_both set at sound to.bad;
      video = to.video;
      before = to.before;
      file = wrote to.video to.puts;
    }
    not_put (Done bytes) end = absurd end
    not_put (BadStore at kind) end = absurd end

    all_put : (n : ℕ)
        → (video : List ℕ) × AreVideos set (groups_told set) video × Puts video made new × (n ≡ length video)
        → (w : WritesVideo store out old new) × (n ≡ length w.video)
    all_put n done = (
      record {
        set = set;
        store_is = is;
        video = done.0;
        videos = done.1;
        none = λ group below bad. not_both set group sound bad (get_or done.1.videos group [])
            (done.1.each group below);
        file = wrote done.0 done.2;
      },
      done.3,
    )

    -- by what the putting answered
    pub when_put : (result : Result ℕ VideoEnd)
        → IfOk result
        (λ n. (video : List ℕ) × AreVideos set (groups_told set) video × Puts video made new × (n ≡ length video))
        → IfErr result (IsPutEnd (HadFault made new (Blames Written made.target)) set made new)
        → IfOk result (λ n. (w : WritesVideo store out old new) × (n ≡ length w.video))
        × IfErr result (Videos store out old new)
    when_put (Ok n) done end = (all_put n done, tt)
    when_put (Err e) done end = (tt, not_put e end)
