-- Why a table is refused: the first of its bounds that is broken (this project's own).
use Rattle.std.specs.Prelude.{ℕ, ◌||◌, ◌==◌, if◌then◌else◌, nat_lt, List, length, Option, Some, None}
use Rattle.std.specs.List.{list_any}
use Rattle.pet_base.specs.declared.limits.TheConstants.{MAX_DATAGRAM}
use Rattle.stripe_plan.specs.declared.bounds.Bounds.{Bounds}
use Rattle.stripe_plan.specs.declared.bounds.TheConstants.{BOUNDS, OLD_BOUNDS, BYTE_BOUNDS}
use Rattle.stripe_plan.specs.declared.layer.LayerSize.{LayerSize}
use Rattle.stripe_plan.specs.declared.table.TableFault.{TableFault}
use Rattle.stripe_plan.specs.declared.table.TableFault.TheVariants.{Packets, Layers, Need, Sum, Wide}
use Rattle.stripe_plan.specs.Sizes.{bytes_of, length_over, planned}

abbrev pub fault_in : Bounds → ℕ → List LayerSize → Option TableFault
fault_in b packets layers =
    if packets == 0 || nat_lt b.packets packets then Some Packets
    else if length layers == 0 || nat_lt b.layers (length layers) then Some Layers
    else if list_any (λ layer. layer.need == 0 || nat_lt packets layer.need) layers then Some Need
    else if nat_lt b.bytes (bytes_of layers) then Some Sum
    else if nat_lt MAX_DATAGRAM (length_over b.bare (planned b layers)) then Some Wide
    else None

abbrev pub fault_of : ℕ → List LayerSize → Option TableFault
fault_of packets layers = fault_in BOUNDS packets layers

abbrev pub old_fault_of : ℕ → List LayerSize → Option TableFault
old_fault_of packets layers = fault_in OLD_BOUNDS packets layers

abbrev pub byte_fault_of : ℕ → List LayerSize → Option TableFault
byte_fault_of packets layers = fault_in BYTE_BOUNDS packets layers
