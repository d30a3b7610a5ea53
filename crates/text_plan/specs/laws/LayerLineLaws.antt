-- The text of a plan by the numbers of its layers is the plan's text.
use Rattle.std.proofs.Common.{◌≡◌, ℕ, zero, suc, ◌+◌, ◌<◌, ◌≤◌, List, [], ◌∷◌, ◌++◌, length, get_or, drop, All, refl}
use Rattle.std.proofs.Common.{sym, ap, ◌∙◌, arith, append_assoc, append-nil, drop-cons}
use Rattle.std.proofs.lemmas.List.{drop_all}
use Rattle.std.proofs.lemmas.List.Elements.{All-head, All-tail}
use Rattle.priority_file.specs.Priority.{Rule, Priorities}
use Rattle.stripe_plan.specs.declared.layer.LayerSize.{LayerSize}
use Rattle.stripe_plan.specs.Layers.{needs_of, plan_ends, bound_of}
use Rattle.stripe_plan.specs.Sizes.{Sizes, datagram_length_of}
use Rattle.text_plan.specs.PlanLines.{plan_session_text, plan_group_text, lengths_text, plan_lengths}
use Rattle.text_plan.specs.PlanText.{layers_text, group_text, groups_text, plan_text}
use Rattle.text_plan.specs.LayerLines.{AreTablesOf}
use Rattle.text_plan.specs.inside.LayerLines.{no_rule, no_size, layer_line, layer_lines, group_lines, groups_from}

no_layers : (layer : ℕ) (rules : List Rule) (all : List LayerSize) → layers_text layer rules [] all ≡ []
no_layers layer [] all = refl
no_layers layer (rule ∷ rules) all = refl

lines_more : (rules : List Rule) (layers : List LayerSize) (layer : ℕ) → layer < length layers → layer < length rules
    → layers_text layer (drop layer rules) (drop layer layers) layers
    ≡ layer_line rules layers layer ++ layers_text (suc layer) (drop (suc layer) rules) (drop (suc layer) layers) layers
lines_more rules layers layer inside known =
    let next : layer + 1 ≡ suc layer = omega arith in
    ap (λ rs. layers_text layer rs (drop layer layers) layers) (drop-cons rules layer no_rule known)
    ∙ ap (λ ls. layers_text layer (get_or rules layer no_rule ∷ drop (suc layer) rules) ls layers)
    (drop-cons layers layer no_size inside)
    ∙ ap (λ n. layer_line rules layers layer
    ++ layers_text n (drop (suc layer) rules) (drop (suc layer) layers) layers) next

lines_front : (rules : List Rule) (layers : List LayerSize) (count : ℕ) → count ≤ length layers
    → length layers ≤ length rules
    → layer_lines rules layers count ++ layers_text count (drop count rules) (drop count layers) layers
    ≡ layers_text 0 rules layers layers
lines_front rules layers zero inside known = refl
lines_front rules layers (suc count) inside known =
    append_assoc (layer_lines rules layers count) (layer_line rules layers count)
    (layers_text (suc count) (drop (suc count) rules) (drop (suc count) layers) layers)
    ∙ ap (λ t. layer_lines rules layers count ++ t) (sym (lines_more rules layers count (omega arith) (omega arith)))
    ∙ lines_front rules layers count (omega arith) known

-- for callers: the lines of all layers are their text
pub lines_are : (rules : List Rule) (layers : List LayerSize) → length layers ≤ length rules
    → layer_lines rules layers (length layers) ≡ layers_text 0 rules layers layers
lines_are rules layers known =
    let count : ℕ = length layers in
    sym (append-nil (layer_lines rules layers count))
    ∙ ap (λ t. layer_lines rules layers count ++ t)
    (sym (no_layers count (drop count rules) layers)
    ∙ ap (λ ls. layers_text count (drop count rules) ls layers) (sym (drop_all count layers (omega arith))))
    ∙ lines_front rules layers count (omega arith) known

group_is : (rules : List Rule) (group : ℕ) (layers : List LayerSize) → length layers ≡ length rules
    → group_lines rules group layers ≡ group_text group rules layers
unfolding group_lines
group_is rules group layers same =
    ap (λ t. plan_group_text group (length (needs_of layers)) (length (plan_ends layers)) (bound_of layers)
    (datagram_length_of layers) ++ t ++ lengths_text (plan_lengths layers))
    (lines_are rules layers (omega arith))

groups_are : (rules : List Rule) (group : ℕ) (tables : List Sizes)
    → All (λ table. length table.layers ≡ length rules) tables
    → groups_from rules group tables ≡ groups_text group rules tables
groups_are rules group [] same = refl
groups_are rules group (table ∷ tables) same =
    ap (λ t. t ++ groups_from rules (group + 1) tables)
    (group_is rules group table.layers (All-head (λ (t : Sizes). length t.layers ≡ length rules) table tables same))
    ∙ ap (λ t. group_text group rules table.layers ++ t)
    (groups_are rules (group + 1) tables (All-tail (λ (t : Sizes). length t.layers ≡ length rules) table tables same))

-- for callers: a session and its groups, by the numbers of their layers, are the text of the plan
pub plan_text_is : (session : List ℕ) (priority : Priorities) (tables : List Sizes) → AreTablesOf priority tables
    → plan_session_text session (length tables) priority.packets ++ groups_from priority.layers 0 tables
    ≡ plan_text session priority tables
unfolding plan_text
plan_text_is session priority tables same =
    ap (λ t. plan_session_text session (length tables) priority.packets ++ t) (groups_are priority.layers 0 tables same)
