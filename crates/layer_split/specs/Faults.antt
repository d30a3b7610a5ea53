-- Why pieces are not split (this project's own): a group that is too long, or too many groups.
use Rattle.std.specs.Prelude.{ℕ, Bool, List, length, take, Option, Some, None, position, sum, nat_lt, if◌then◌else◌}
use Rattle.pet_base.specs.declared.kind.Kind.{Kind}
use Rattle.pet_base.specs.declared.limits.TheConstants.{MAX_GROUPS, MAX_GROUP_BYTES}
use Rattle.mpeg_scan.specs.declared.piece.Piece.{Piece}
use Rattle.layer_split.specs.declared.fault.SplitFault.{SplitFault}
use Rattle.layer_split.specs.declared.fault.SplitFault.TheVariants.{TooManyGroups, GroupTooLong}
use Rattle.layer_split.specs.Layers.{cut_of}

-- the bytes of a group's layers, run table included
abbrev pub group_bytes : (Kind → ℕ → ℕ) → ℕ → List Piece → ℕ
group_bytes layer_of layers group = sum (cut_of layer_of layers group).lengths

abbrev pub is_too_long : (Kind → ℕ → ℕ) → ℕ → List Piece → Bool
is_too_long layer_of layers group = nat_lt MAX_GROUP_BYTES (group_bytes layer_of layers group)

-- the first group that is too long among those that may be, and else too many of them
abbrev pub fault_by : Option ℕ → ℕ → Option SplitFault
fault_by (Some group) groups = Some (GroupTooLong group)
fault_by None groups = if nat_lt MAX_GROUPS groups then Some TooManyGroups else None

abbrev pub fault_of : (Kind → ℕ → ℕ) → ℕ → List (List Piece) → Option SplitFault
fault_of layer_of layers groups =
    fault_by (position (is_too_long layer_of layers) (take MAX_GROUPS groups)) (length groups)
