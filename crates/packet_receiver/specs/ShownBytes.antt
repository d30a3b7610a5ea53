-- The layers that a kept set shows, and when it shows all of a session. This project's own.
use Rattle.std.specs.Prelude.{ℕ, ◌<◌, length, sum_by, unwrap_or, MatchOption}
use Rattle.packet_verdicts.specs.KeptSet.{KeptSet, open_group, told_by}
use Rattle.packet_receiver.specs.Arrivals.{layers_of}
-- the bytes of one layer, and how many layers of a group are shown, are defined with the group
pub use Rattle.packet_group.specs.ShownBytes.{IsShownIn, IsShownBytes, Agrees}
pub use Rattle.packet_verdicts.specs.GroupLayers.{shown_in}

-- the group is open, and the layer is shown
abbrev pub IsShown : KeptSet → ℕ → ℕ → Type 0
IsShown set group layer = MatchOption (open_group set group) ⊥ (λ p. IsShownIn p layer)

-- how many layers are shown
abbrev pub shown_in_all : KeptSet → ℕ
shown_in_all set = sum_by (λ e. shown_in e.1) set.groups

-- the number of groups that the kept frames tell, and 0 where nothing is kept
abbrev pub groups_told : KeptSet → ℕ
groups_told set = unwrap_or (told_by set) 0

-- something is kept, and every layer of every group of the session is shown
pub record IsComplete (set : KeptSet) : Type 0 where
  pub some : 0 < length set.groups
  pub shown : (group : ℕ) → group < groups_told set
      → MatchOption (open_group set group) ⊥ (λ p. (layer : ℕ) → layer < length (layers_of p) → IsShownIn p layer)
