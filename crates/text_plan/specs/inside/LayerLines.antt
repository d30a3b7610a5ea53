-- The text of a plan by the numbers of its layers, as a loop prints it (this project's own).
use Rattle.std.specs.Prelude.{ℕ, zero, suc, ◌+◌, List, [], ◌∷◌, ◌++◌, length, slice_index_or}
use Rattle.priority_file.specs.Priority.{Rule}
use Rattle.stripe_plan.specs.declared.layer.LayerSize.{LayerSize}
use Rattle.stripe_plan.specs.Layers.{needs_of, plan_ends, bound_of, count_of}
use Rattle.stripe_plan.specs.Sizes.{Sizes, datagram_length_of}
use Rattle.text_plan.specs.PlanLines.{plan_group_text, plan_layer_text, lengths_text, plan_lengths}

-- what a read past the last layer gives
abbrev pub no_rule : Rule
no_rule = record { name = []; kinds = 0; need = 0 }

abbrev pub no_size : LayerSize
no_size = record { length = 0; need = 0 }

-- the line of a layer
abbrev pub layer_line : List Rule → List LayerSize → ℕ → List ℕ
layer_line rules layers layer =
    plan_layer_text layer (slice_index_or rules layer no_rule).name (slice_index_or layers layer no_size)
    (count_of layers layer)

-- the lines of so many layers, in order
abbrev pub layer_lines : List Rule → List LayerSize → ℕ → List ℕ
layer_lines rules layers zero = []
layer_lines rules layers (suc count) = layer_lines rules layers count ++ layer_line rules layers count

-- a group, with a line for each layer and that of the stripe lengths
unfoldable pub group_lines : List Rule → ℕ → List LayerSize → List ℕ
group_lines rules group layers =
    plan_group_text group (length (needs_of layers)) (length (plan_ends layers)) (bound_of layers)
    (datagram_length_of layers)
    ++ layer_lines rules layers (length layers) ++ lengths_text (plan_lengths layers)

-- groups in order, the first of which has this number
abbrev pub groups_from : List Rule → ℕ → List Sizes → List ℕ
groups_from rules group [] = []
groups_from rules group (table ∷ tables) = group_lines rules group table.layers ++ groups_from rules (group + 1) tables
