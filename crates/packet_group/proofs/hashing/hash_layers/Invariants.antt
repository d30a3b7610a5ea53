use Rattle.std.proofs.Common.{ℕ, List, ◌++◌, take}
use Rattle.std.specs.List.{flat_map}
use Rattle.sha2.specs.Hashers.{Holds256}
use Rattle.packet_frame.specs.Frame.{layer_text}
use Rattle.packet_group.proofs.hashing.hash_layers.Given as goal

abbrev pub invariant-loop-layer : goal.invariant-loop-layer
invariant-loop-layer l =
    (m : List ℕ) → Holds256 l.initial.hasher m
    → Holds256 l.hasher (m ++ flat_map layer_text (take l.layer-index l.layers))
