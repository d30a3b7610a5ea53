-- The lines of `replay`. This project's own.
use Rattle.std.specs.Prelude.{ℕ, ◌+◌, List, [], ◌∷◌, ◌++◌, codes, decimal}
use Rattle.text_plan.specs.PlanLines.{hex_text}

-- the receivers have the letters from A on
abbrev pub letter_of : ℕ → List ℕ
letter_of receiver = (65 + receiver) ∷ []

-- an event, the receiver, and the group and the layer that it shows
abbrev pub event_text : ℕ → ℕ → ℕ → ℕ → List ℕ
event_text event receiver group layer =
    codes "event " ++ decimal event ++ codes " receiver " ++ letter_of receiver ++ codes " group " ++ decimal group
    ++ codes " layer " ++ decimal layer

-- the bytes of a layer, and the begin of their digest
abbrev pub layer_text : ℕ → List ℕ → List ℕ
layer_text bytes digest = codes " bytes " ++ decimal bytes ++ codes " digest " ++ hex_text digest ++ codes "\n"

-- a layer that an event shows
abbrev pub shown_text : ℕ → ℕ → ℕ → ℕ → ℕ → List ℕ → List ℕ
shown_text event receiver group layer bytes digest = event_text event receiver group layer ++ layer_text bytes digest

-- what a receiver keeps at the end: the datagrams of its store, and the begin of the digest of its text
abbrev pub kept_text : ℕ → ℕ → List ℕ → List ℕ
kept_text receiver datagrams digest =
    codes "store " ++ letter_of receiver ++ codes " datagrams " ++ decimal datagrams ++ codes " digest "
    ++ hex_text digest ++ codes "\n"
