-- The leading layers of a group that are all shown, and what is put together of them. This project's own.
use Rattle.std.specs.Prelude.{◌≡◌, ℕ, ◌<◌, false, true, List, [], ◌++◌, length, map, slice_index_or}
use Rattle.field_elements.specs.Field.{Coding}
use Rattle.packet_set.specs.Packets.{Packets}
use Rattle.layer_split.specs.RunTable.{fits}
use Rattle.packet_verdicts.specs.KeptSet.{KeptSet}
use Rattle.pet_receive.specs.Arrivals.{layers_of}
use Rattle.pet_receive.specs.ShownBytes.{IsShown, IsShownBytes}
use Rattle.reassemble.specs.Video.{group_video}

-- the first k layers of the group are shown, and the next is not
pub record AreLeading (set : KeptSet) (group k : ℕ) : Type 0 where
  pub shown : (layer : ℕ) → layer < k → IsShown set group layer
  pub next : IsShown set group k → ⊥

-- the lengths of a group's layers, in bytes
abbrev pub lengths_in : Packets → List ℕ
lengths_in p = map (λ layer. layer.length) (layers_of p)

module _ {E : Type 0} (is_element : E → Type 0) (c : Coding E) where
  -- they are the bytes of the group's first layers, by the packets of these numbers
  abbrev pub AreShownBytes : Packets → List ℕ → List (List ℕ) → Type 0
  AreShownBytes p numbers layers =
      (layer : ℕ) → layer < length layers → IsShownBytes is_element c p numbers layer (slice_index_or layers layer [])

  -- `new` is `old` with the video behind it of the first k layers, the run table of which fits the group's layers
  pub record IsAssembled (p : Packets) (numbers : List ℕ) (k : ℕ) (old new : List ℕ) : Type 0 where
    pub layers : List (List ℕ)
    pub many : length layers ≡ k
    pub bytes : AreShownBytes p numbers layers
    pub fits_them : fits (slice_index_or layers 0 []) (lengths_in p) ≡ true
    pub appended : new ≡ old ++ group_video layers

  -- layer 0 has no run table that fits the group's layers
  pub record IsUnfit (p : Packets) (numbers : List ℕ) : Type 0 where
    pub first : List ℕ
    pub bytes : IsShownBytes is_element c p numbers 0 first
    pub unfit : fits first (lengths_in p) ≡ false
