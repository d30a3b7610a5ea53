-- Words of the contracts of what goes over the packets of two stores at once: two lists of frames, each by group, then
-- number.
use Rattle.std.specs.Prelude.{◌≡◌, ℕ, ◌+◌, Bool, false, not, ◌&&◌, ◌||◌, ◌==◌, if◌then◌else◌, List, [], ◌∷◌}
use Rattle.std.specs.Prelude.{◌++◌, length, Option, None, Some, IfSome, option_map, Result, Ok, Err}
use Rattle.std.specs.List.{flat_map}
use Rattle.std.specs.Option.{option_map_or}
use Rattle.std.specs.Str.{bytes_eq}
use Rattle.stripe_plan.specs.declared.layer.LayerSize.{LayerSize}
use Rattle.packet_frame.specs.Frame.{Fields, layer_text, text}
use Rattle.packet_frame.specs.Refusals.{first_fault}
use Rattle.packet_verdicts.specs.KeptSet.{header_of}
use Rattle.packet_verdicts.specs.declared.union.Absorb.{Absorb}
use Rattle.packet_verdicts.specs.declared.union.Absorb.TheVariants.{Clash}
use Rattle.store_text.specs.declared.format.TheConstants.{STORE_FORM}
use Rattle.store_text.specs.Refusals.{is_above}
use Rattle.store_text.specs.Store.{entries_in, store_of}
use Rattle.store_text.specs.laws.Leading.{pair_of}
use Rattle.store_packets.specs.inside.Reading.{frame_of, differs}
use Rattle.store_packets.specs.inside.Listed.{AreListed, frames_at, is_other, left_by, full_by}
use Rattle.store_packets.specs.declared.packets.StorePackets.{StorePackets}
use Rattle.store_union.specs.declared.union.Budget.{Budget}
use Rattle.store_union.specs.declared.union.StorePlace.{StorePlace}
use Rattle.store_union.specs.declared.union.Met.{Met}

-- ---- two frames

abbrev pub is_before : Fields → Fields → Bool
is_before f g = is_above (Some (pair_of f)) g

-- they are of one group and number
abbrev pub is_pair : Fields → Fields → Bool
is_pair f g = (f.group == g.group) && (f.number == g.number)

-- the number of layers in one byte, and the bytes of the layers
abbrev pub layers_bytes : List LayerSize → List ℕ
layers_bytes layers = length layers ∷ flat_map layer_text layers

-- ---- frames before another, and the rest

-- the frames that come before another, at the front
unfoldable pub passed : Fields → List Fields → List Fields
passed g [] = []
passed g (f ∷ rest) = if is_before f g then f ∷ passed g rest else []

-- what is left behind them
unfoldable pub left_from : Fields → List Fields → List Fields
left_from g [] = []
left_from g (f ∷ rest) = if is_before f g then left_from g rest else f ∷ rest

-- the last of them
unfoldable pub last_before : Fields → Option Fields → List Fields → Option Fields
last_before g last [] = last
last_before g last (f ∷ rest) = if is_before f g then last_before g (Some f) rest else last

abbrev pub first_in : List Fields → Option Fields
first_in [] = None
first_in (f ∷ rest) = Some f

-- without the first, where it is of the same group and number
abbrev pub without : Fields → List Fields → List Fields
without g [] = []
without g (f ∷ rest) = if is_pair f g then rest else f ∷ rest

-- the frames of both lists, by group, then number; of two of one group and number the other's
unfoldable pub merged : List Fields → List Fields → List Fields
merged mine [] = mine
merged mine (g ∷ rest) = passed g mine ++ (g ∷ merged (without g (left_from g mine)) rest)

-- ---- what a frame of the other list meets, between the last before it and the first that is left

abbrev pub contradicts : Fields → Option Fields → Bool
contradicts g o = option_map_or (λ f. differs f g) o false

abbrev pub is_other_packet : Fields → Option Fields → Bool
is_other_packet g o = option_map_or (λ f. is_pair f g && not (bytes_eq (text f) (text g))) o false

abbrev pub clash_at : Option Fields → Option Fields → Fields → Bool
clash_at last next g = contradicts g last || (contradicts g next || is_other_packet g next)

abbrev pub is_there : Option Fields → Fields → Bool
is_there next g = option_map_or (λ f. is_pair f g) next false

abbrev pub is_in : ℕ → Option Fields → Bool
is_in group o = option_map_or (λ f. f.group == group) o false

abbrev pub is_open : Option Fields → Option Fields → Fields → Bool
is_open last next g = is_in g.group last || is_in g.group next

-- what is known of the budget behind it
abbrev pub budget_behind : Budget → Bool → Fields → Budget
budget_behind b opened g =
    if opened then record { last = Some g.group; left = b.left; full = b.full }
    else record {
      last = Some g.group;
      left = left_by b.left (g.group, (header_of g).table);
      full = full_by b.full b.left (g.group, (header_of g).table);
    }

abbrev pub met_behind : Met → Option Fields → Option Fields → Fields → Met
met_behind m last next g = record {
  budget = budget_behind m.budget (not (is_other m.budget.last g) || is_open last next g) g;
  new = if is_there next g then m.new else m.new + 1;
}

-- what is known behind all frames of the other list, or the first that clashes
unfoldable pub meets : Option Fields → List Fields → Met → List Fields → Result Met Absorb
meets last mine m [] = Ok m
meets last mine m (g ∷ rest) =
    if clash_at (last_before g last mine) (first_in (left_from g mine)) g then Err (Clash g.group g.number)
    else meets (last_before g last mine) (left_from g mine)
    (met_behind m (last_before g last mine) (first_in (left_from g mine)) g) rest

abbrev pub nothing_met : ℕ → Met
nothing_met left = record { budget = record { last = None; left = left; full = None }; new = 0 }

-- ---- the packets of a store, and a place among them

abbrev pub frames_of : StorePackets → List Fields
frames_of p = frames_at STORE_FORM p.count p.entries.now

-- they stand there
abbrev pub Stand : StorePackets → Type 0
Stand p = AreListed STORE_FORM p.count p.entries.now

pub record IsPlace (at : StorePlace) : Type 0 where
  pub listed : AreListed STORE_FORM at.count at.rest.now
  pub fine : IfSome at.last (λ d. first_fault d.now ≡ None)

abbrev pub last_at : StorePlace → Option Fields
last_at at = option_map (λ d. frame_of STORE_FORM d.now) at.last

abbrev pub left_at : StorePlace → List Fields
left_at at = frames_at STORE_FORM at.count at.rest.now

-- what is left of a place, as its bytes
abbrev pub IsSpelled : StorePlace → Type 0
IsSpelled at = at.rest.now ≡ entries_in STORE_FORM (left_at at)

abbrev pub AreSpelled : StorePackets → Type 0
AreSpelled p = p.entries.now ≡ entries_in STORE_FORM (frames_of p)

-- the store of what both have
abbrev pub both_text : StorePackets → StorePackets → List ℕ
both_text mine theirs = store_of mine.session (merged (frames_of mine) (frames_of theirs))
