-- What contracts see of a table, and the bounds that each table keeps (this project's own).
use Rattle.std.specs.Prelude.{◌≡◌, ℕ, ◌+◌, ◌*◌, ◌<◌, ◌≤◌, List, length, map, sum_by, All, if◌then◌else◌}
use Rattle.pet_base.specs.declared.limits.TheConstants.{LAYER_LENGTH, MAX_LAYERS, MAX_PACKETS, MAX_GROUP_BYTES}
use Rattle.pet_base.specs.declared.limits.TheConstants.{MAX_DATAGRAM}
use Rattle.stripe_plan.specs.declared.bounds.Bounds.{Bounds}
use Rattle.stripe_plan.specs.declared.bounds.TheConstants.{BOUNDS, OLD_BOUNDS, BYTE_BOUNDS}
use Rattle.stripe_plan.specs.declared.layer.LayerSize.{LayerSize}
use Rattle.stripe_plan.specs.Layers.{AllNeeded, plan_ends}

-- a number of packets, and the layers in order
pub record Sizes : Type 0 where
  pub packets : ℕ
  pub layers : List LayerSize

-- the bytes of the layers
abbrev pub bytes_of : List LayerSize → ℕ
bytes_of layers = sum_by (λ layer. layer.length) layers

-- the length of a frame of these layers, `bare` bytes of it being head and tag, at `word` bytes for each stripe
abbrev pub length_by : ℕ → ℕ → List LayerSize → ℕ
length_by word bare layers = bare + LAYER_LENGTH * length layers + word * length (plan_ends layers)

-- the same at two bytes for each stripe
abbrev pub length_over : ℕ → List LayerSize → ℕ
length_over bare layers = length_by 2 bare layers

-- the length of a datagram
abbrev pub datagram_length_of : List LayerSize → ℕ
datagram_length_of layers = length_over BOUNDS.bare layers

-- the cost of a group: the bytes of its packets all together
abbrev pub cost_of : ℕ → List LayerSize → ℕ
cost_of packets layers = packets * datagram_length_of layers

-- the same, where a packet has `word` bytes for each stripe
abbrev pub cost_by : ℕ → ℕ → List LayerSize → ℕ
cost_by word packets layers = packets * length_by word BOUNDS.bare layers

-- a layer of twice the length
abbrev pub twofold : LayerSize → LayerSize
twofold layer = record { length = 2 * layer.length; need = layer.need }

-- the layers whose words the plan cuts: these, or those of twice the lengths, which have a word for each byte
abbrev pub planned : Bounds → List LayerSize → List LayerSize
planned b layers = if b.doubled then map twofold layers else layers

-- what bounds the tables of a format is small enough to be reckoned with
pub record AreBounds (b : Bounds) : Type 0 where
  pub layers : b.layers ≤ MAX_LAYERS
  pub bare : b.bare ≤ MAX_DATAGRAM
  pub bytes : (if b.doubled then 2 * b.bytes else b.bytes) ≤ MAX_GROUP_BYTES

-- the tables of the plans of a format are tables
pub record ArePlanBounds (b : Bounds) : Type 0 where
  pub are : AreBounds b
  pub packets : b.packets ≤ MAX_PACKETS
  pub bare : b.bare ≡ BOUNDS.bare

-- the bounds of a table
pub record IsTableIn (b : Bounds) (packets : ℕ) (layers : List LayerSize) : Type 0 where
  pub some_packets : 0 < packets
  pub few_packets : packets ≤ b.packets
  pub some_layers : 0 < length layers
  pub few_layers : length layers ≤ b.layers
  pub needed : AllNeeded layers
  pub within : All (λ layer. layer.need ≤ packets) layers
  pub few_bytes : bytes_of layers ≤ b.bytes
  pub narrow : length_over b.bare (planned b layers) ≤ MAX_DATAGRAM

abbrev pub IsTable : ℕ → List LayerSize → Type 0
IsTable packets layers = IsTableIn BOUNDS packets layers

abbrev pub IsOldTable : ℕ → List LayerSize → Type 0
IsOldTable packets layers = IsTableIn OLD_BOUNDS packets layers

abbrev pub IsByteTable : ℕ → List LayerSize → Type 0
IsByteTable packets layers = IsTableIn BYTE_BOUNDS packets layers
