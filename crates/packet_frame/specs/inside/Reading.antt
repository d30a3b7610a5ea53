-- What the steps of a reading tell of the table of refusals.
use Rattle.std.specs.Prelude.{◌≡◌, ℕ, not, ◌||◌, ◌==◌, nat_lt, List, [], ◌∷◌, length, take, None, Some, Result}
use Rattle.std.specs.Prelude.{MatchResult}
use Rattle.std.specs.Str.{bytes_eq}
use Rattle.pet_base.specs.declared.limits.TheConstants.{MAX_GROUPS}
use Rattle.stripe_plan.specs.declared.table.TableFault.{TableFault}
use Rattle.stripe_plan.specs.declared.table.TableFault.TheVariants.{Packets, Layers, Need, Sum, Wide}
use Rattle.packet_frame.specs.declared.format.Format.{Format}
use Rattle.packet_frame.specs.Format.{bare_length}
use Rattle.packet_frame.specs.Frame.{Fields}
use Rattle.packet_frame.specs.Refusals.{Row, count_of, first_of}
use Rattle.packet_frame.specs.declared.fault.Field1.TheVariants as field
use Rattle.packet_frame.specs.declared.fault.FrameFault.{FrameFault}
use Rattle.packet_frame.specs.declared.fault.FrameFault.TheVariants.{Short, Magic, Range, Length}
use Rattle.packet_frame.specs.declared.parts.Head.{Head}

-- a result tells the first of these rows that holds, and has a value where none does
abbrev pub Tells : {T : Type 0} → Result T FrameFault → List Row → Type 0
Tells result rows = MatchResult result (λ _. first_of rows ≡ None) (λ fault. first_of rows ≡ Some fault)

-- the head has these fields
abbrev pub HasHead : Head → Fields → Type 0
HasHead h f =
    (h.session ≡ f.session) × (h.groups ≡ f.groups) × (h.group ≡ f.group) × (h.packets ≡ f.packets)
    × (h.number ≡ f.number)

-- the rows of the front: its length and its mark
abbrev pub front_rows : Format → List ℕ → List Row
front_rows t bytes =
    (nat_lt (length bytes) (bare_length t 1), Short)
    ∷ (not (bytes_eq (take 4 bytes) t.mark), Magic)
    ∷ []

-- those of the ranges of a head, which has at most so many packets
abbrev pub range_rows : ℕ → Head → List Row
range_rows most h =
    ((h.groups == 0) || nat_lt MAX_GROUPS h.groups, Range field.Groups)
    ∷ (not (nat_lt h.group h.groups), Range field.Group)
    ∷ ((h.packets == 0) || nat_lt most h.packets, Range field.Packets)
    ∷ (not (nat_lt h.number h.packets), Range field.Number)
    ∷ []

-- and those of the number of layers and the room for them
abbrev pub room_rows : Format → List ℕ → List Row
room_rows t bytes =
    ((count_of bytes == 0) || nat_lt t.bounds.layers (count_of bytes), Range field.Layers)
    ∷ (nat_lt (length bytes) (bare_length t (count_of bytes)), Length)
    ∷ []

-- the refusal of a frame whose packets and layers make no table
abbrev pub refusal_for : TableFault → FrameFault
refusal_for Packets = Range field.Packets
refusal_for Layers = Range field.Layers
refusal_for Need = Range field.Need
refusal_for Sum = Range field.Lengths
refusal_for Wide = Length
