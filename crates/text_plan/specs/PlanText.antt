-- The text of a plan, and what its lines of stripe lengths list. This project's own.
use Rattle.std.specs.Prelude.{ℕ, ◌+◌, List, [], ◌∷◌, ◌++◌, length, map}
use Rattle.priority_file.specs.Priority.{Rule, Priorities}
use Rattle.stripe_plan.specs.declared.layer.LayerSize.{LayerSize}
use Rattle.stripe_plan.specs.Layers.{needs_of, plan_ends, bound_of, count_of}
use Rattle.stripe_plan.specs.Sizes.{Sizes, datagram_length_of}
use Rattle.text_plan.specs.declared.plan_file.Repeat.{Repeat}
use Rattle.text_plan.specs.PlanLines.{plan_session_text, plan_group_text, plan_layer_text, lengths_text, plan_lengths}
use Rattle.text_plan.specs.PlanLines.{rows_of}

-- the layers from this number on, with their rules and their sizes, out of all sizes of the group
abbrev pub layers_text : ℕ → List Rule → List LayerSize → List LayerSize → List ℕ
layers_text layer [] sizes all = []
layers_text layer (rule ∷ rules) [] all = []
layers_text layer (rule ∷ rules) (size ∷ sizes) all =
    plan_layer_text layer rule.name size (count_of all layer) ++ layers_text (layer + 1) rules sizes all

-- a group, its layers, and the lengths of its stripes
abbrev pub group_text : ℕ → List Rule → List LayerSize → List ℕ
group_text group rules layers =
    plan_group_text group (length (needs_of layers)) (length (plan_ends layers)) (bound_of layers)
    (datagram_length_of layers)
    ++ layers_text 0 rules layers layers ++ lengths_text (plan_lengths layers)

-- the groups from this number on
abbrev pub groups_text : ℕ → List Rule → List Sizes → List ℕ
groups_text group rules [] = []
groups_text group rules (table ∷ tables) = group_text group rules table.layers ++ groups_text (group + 1) rules tables

-- a session and its groups
unfoldable pub plan_text : List ℕ → Priorities → List Sizes → List ℕ
plan_text session priority tables =
    plan_session_text session (length tables) priority.packets ++ groups_text 0 priority.layers tables

-- stripes on end of one length, as the plan file lists them
abbrev pub repeat_of_row : ℕ × ℕ → Repeat
repeat_of_row row = record { length = row.0; times = row.1 }

-- the list of each group
abbrev pub plan_lists : List Sizes → List (List Repeat)
plan_lists tables = map (λ table. map repeat_of_row (rows_of (plan_lengths table.layers))) tables
