-- The message of a group by its layers' bytes. This project's own.
use Rattle.std.specs.Prelude.{◌≡◌, ℕ, ◌+◌, ◌*◌, ◌%◌, ◌<◌, ◌==◌, List, [], ◌∷◌, ◌++◌, length, slice_index}
use Rattle.std.specs.Prelude.{if◌then◌else◌, All}
use Rattle.std.specs.List.{flat_map}
use Rattle.stripe_plan.specs.declared.layer.LayerSize.{LayerSize}
use Rattle.stripe_plan.specs.Layers.{words_before}
use Rattle.packet_session.specs.Session.{Session, length_of_layer}

-- whole words: an odd end is filled with one byte 0
abbrev pub padded : List ℕ → List ℕ
padded bytes = if length bytes % 2 == 1 then bytes ++ 0 ∷ [] else bytes

-- the layers' bytes on end, each in whole words
abbrev pub message_of : List (List ℕ) → List ℕ
message_of layers = flat_map padded layers

-- a message of these layers has the byte 0 past each odd end
abbrev pub HasZeroEnds : List LayerSize → List ℕ → Type 0
HasZeroEnds layers message =
    (layer : ℕ) → layer < length layers → length_of_layer 2 layers layer % 2 ≡ 1
    → slice_index message (words_before layers layer * 2 + length_of_layer 2 layers layer) ≡ 0

-- and so has each message of a session
abbrev pub HaveZeroEnds : Session → Type 0
HaveZeroEnds s = All (λ g. HasZeroEnds g.layers g.message) s.groups
