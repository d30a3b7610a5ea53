-- The runs of a group: its maximal rows of adjacent pieces of one layer (this project's own).
use Rattle.std.specs.Prelude.{ℕ, ◌+◌, List, [], ◌∷◌, map, ◌==◌, if◌then◌else◌}
use Rattle.pet_base.specs.declared.kind.Kind.{Kind}
use Rattle.mpeg_scan.specs.declared.piece.Piece.{Piece}
use Rattle.layer_split.specs.declared.cut.Run.{Run}
use Rattle.layer_split.specs.Places.{Placed, placed}

-- a piece as a row of its own; `layer_of` gives the layer of a kind at a place
abbrev pub run_of : (Kind → ℕ → ℕ) → Placed → Run
run_of layer_of next = record { layer = layer_of next.piece.kind next.place; at = next.piece.at; len = next.piece.len }

-- two adjacent rows of one layer as one
abbrev pub both : Run → Run → Run
both run next = record { layer = run.layer; at = run.at; len = run.len + next.len }

-- adjacent rows of one layer are put together; the first has come so far
abbrev pub joined_from : Run → List Run → List Run
joined_from run [] = run ∷ []
joined_from run (next ∷ later) =
    if next.layer == run.layer then joined_from (both run next) later else run ∷ joined_from next later

abbrev pub joined : List Run → List Run
joined [] = []
joined (run ∷ later) = joined_from run later

abbrev pub runs_of : (Kind → ℕ → ℕ) → List Piece → List Run
runs_of layer_of group = joined (map (run_of layer_of) (placed group))
