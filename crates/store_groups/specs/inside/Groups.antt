-- Words of the contracts of what goes over the entries of a store group by group.
use Rattle.std.specs.Prelude.{◌≡◌, ◌≢◌, ℕ, List, ◌++◌, length}
use Rattle.std.specs.List.{All}
use Rattle.packet_frame.specs.Frame.{Fields, IsFrame}
use Rattle.packet_frame.specs.Refusals.{fields_of}
use Rattle.store_text.specs.Store.{entries_in}
use Rattle.store_text.specs.declared.format.TheConstants.{STORE_FORM}

-- the number of groups that a frame tells, opaque, since a datagram's fields open to all their places
unfoldable pub groups_in : List ℕ → ℕ
groups_in bytes = (fields_of bytes).groups

-- so many entries, which are all that stands there, are of these frames
pub record AreEntries (count : ℕ) (entries : List ℕ) (frames : List Fields) : Type 0 where
  pub frame : All IsFrame frames
  pub number : count ≡ length frames
  pub text : entries ≡ entries_in STORE_FORM frames

-- they are of frames of the group, and then of frames of others
pub record IsCut (group count : ℕ) (entries : List ℕ) (own other : List Fields) : Type 0 where
  pub all : AreEntries count entries (own ++ other)
  pub here : All (λ f. f.group ≡ group) own
  pub past : All (λ f. f.group ≢ group) other
