-- What a store shows of a group is what the group's packets show alone.
use Rattle.std.specs.Prelude.{MatchOption}
use Rattle.std.proofs.Common.{◌≡◌, ℕ, ◌<◌, List, [], Option, sym, subst, ◌∙◌, inl, inr}
use Rattle.field_elements.specs.Gf16.{gf16_coding}
use Rattle.packet_set.specs.Packets.{Packets}
use Rattle.packet_verdicts.specs.KeptSet.{KeptSet, IsKeptSet}
use Rattle.pet_receive.specs.ShownBytes.{IsShown, IsShownIn, groups_told}
use Rattle.reassemble.specs.Leading.{IsAssembled, IsUnfit}
use Rattle.store_groups.specs.Groups.{ArePackets, only_group}
use Rattle.store_groups.specs.laws.GroupLaws.{only_open, only_numbers}
use Rattle.store_groups.specs.declared.groups.GroupPackets.{GroupPackets}
use Rattle.command_video.specs.StoreVideo.{IsGroupVideo, HasBadTable}
use Rattle.command_video.specs.inside.Ends.{IsTableEnd}
use Rattle.command_video.specs.inside.Groups.{AreOwn, AreStored}
use Rattle.command_video.specs.declared.command.VideoEnd.{VideoEnd}
use Rattle.command_video.specs.declared.command.VideoEnd.TheVariants.{Done, NoMemory, PlaceFault, BadStore, BadTable}

module _ (set : KeptSet) (group : ℕ) where
  shown_alone : (layer : ℕ) → IsShown set group layer → IsShown (only_group set group) group layer
  shown_alone layer is =
      subst (λ (o : Option Packets). MatchOption o ⊥ (λ p. IsShownIn p layer)) (sym (only_open set group)) is

  shown_there : (layer : ℕ) → IsShown (only_group set group) group layer → IsShown set group layer
  shown_there layer is =
      subst (λ (o : Option Packets). MatchOption o ⊥ (λ p. IsShownIn p layer)) (only_open set group) is

  module _ (sound : IsKeptSet set) (inside : group < groups_told set) where
    video_there : (video : List ℕ) → IsGroupVideo (only_group set group) group video → IsGroupVideo set group video
    video_there video (inl none) = inl (λ is. none.0 (shown_alone 0 is), none.1)
    video_there video (inr is) =
        inr (record {
          packets = is.packets;
          is_open = sym (only_open set group) ∙ is.is_open;
          shown = shown_there 0 is.shown;
          many = is.many;
          leading = record {
            shown = λ layer below. shown_there layer (is.leading.shown layer below);
            next = λ next. is.leading.next (shown_alone is.many next);
          };
          assembled =
              subst (λ (numbers : List ℕ). IsAssembled (λ a. a < 65536) gf16_coding is.packets numbers is.many [] video)
              (only_numbers group set sound inside) is.assembled;
        })

    table_there : HasBadTable (only_group set group) group → HasBadTable set group
    table_there bad = record {
      packets = bad.packets;
      is_open = sym (only_open set group) ∙ bad.is_open;
      shown = shown_there 0 bad.shown;
      unfit =
          subst (λ (numbers : List ℕ). IsUnfit (λ a. a < 65536) gf16_coding bad.packets numbers)
          (only_numbers group set sound inside) bad.unfit;
    }

    end_there : (end : VideoEnd) → IsTableEnd (only_group set group) group end → IsTableEnd set group end
    end_there NoMemory is = tt
    end_there (BadTable at) is = (is.0, table_there is.1)
    end_there (Done bytes) is = absurd is
    end_there PlaceFault is = absurd is
    end_there (BadStore at kind) is = absurd is

-- where a receiver has kept these packets
module _ (packets : GroupPackets) (set kept : KeptSet) (group : ℕ) (own : AreOwn packets set group)
    (is : kept ≡ only_group set group) where
  pub own_video : (video : List ℕ) → IsGroupVideo kept group video → IsGroupVideo set group video
  own_video video shows =
      video_there set group own.sound own.inside video (subst (λ (s : KeptSet). IsGroupVideo s group video) is shows)

  pub own_end : (end : VideoEnd) → IsTableEnd kept group end → IsTableEnd set group end
  own_end end ends =
      end_there set group own.sound own.inside end (subst (λ (s : KeptSet). IsTableEnd s group end) is ends)

-- ---- the packets that are left

-- those of a group of the store
pub own_of : (packets : GroupPackets) (set : KeptSet) (group : ℕ) → AreStored packets set → group < groups_told set
    → (own : GroupPackets) → ArePackets own (only_group set group) → AreOwn own set group
own_of packets set group given inside own are =
    record { own = are; sound = given.all.sound; limit = given.limit; inside = inside }
