-- The text of a plan, piece by piece.
use Rattle.std.proofs.Common.{◌≡◌, ℕ, suc, ◌+◌, ◌<◌, ◌≤◌, List, ◌∷◌, ◌++◌, length, get_or, drop, Result, Ok, Err, sym}
use Rattle.std.proofs.Common.{ap, ap₂, ◌∙◌, append_assoc, arith}
use Rattle.std.proofs.Math.Seq.{drop-cons}
use Rattle.std.proofs.lemmas.List.{append-nil, drop_all}
use Rattle.std.specs.Prelude.{OnOk}
use Rattle.stripe_plan.specs.declared.layer.LayerSize.{LayerSize}
use Rattle.stripe_plan.specs.Layers.{needs_of, plan_ends, bound_of}
use Rattle.stripe_plan.specs.Sizes.{Sizes, datagram_length_of}
use Rattle.priority_file.specs.Priority.{Rule, Priorities}
use Rattle.text_plan.specs.PlanLines.{plan_session_text, plan_group_text, plan_lengths, lengths_text}
use Rattle.text_plan.specs.LayerLines.{AreTablesOf}
use Rattle.text_plan.specs.inside.LayerLines.{layer_line, layer_lines, group_lines, groups_from}
use Rattle.text_plan.specs.laws.LayerLineLaws.{plan_text_is}
use Rattle.text_plan.specs.PlanText.{plan_text}

pub ok_then : {A E P Q : Type 0} (r : Result A E) → (P → Q) → OnOk r P → OnOk r Q
ok_then (Ok x) step p = step p
ok_then (Err e) step p = tt

three_pieces : (old a b c first second : List ℕ) → first ≡ old ++ a → second ≡ first ++ b
    → second ++ c ≡ old ++ (a ++ b ++ c)
three_pieces old a b c first second one two =
    ap (λ t. t ++ c) (two ∙ ap (λ t. t ++ b) one ∙ append_assoc old a b) ∙ append_assoc old (a ++ b) c

-- a group's line, the lines of its layers, and that of its lengths
pub group_whole : (rules : List Rule) (group : ℕ) (layers : List LayerSize) (old first second whole : List ℕ)
    → first ≡ old
    ++ plan_group_text group (length (needs_of layers)) (length (plan_ends layers)) (bound_of layers)
    (datagram_length_of layers)
    → second ≡ first ++ layer_lines rules layers (length layers) → whole ≡ second ++ lengths_text (plan_lengths layers)
    → whole ≡ old ++ group_lines rules group layers
unfolding group_lines
group_whole rules group layers old first second whole one two three =
    three ∙ three_pieces old (plan_group_text group (length (needs_of layers)) (length (plan_ends layers))
    (bound_of layers) (datagram_length_of layers))
    (layer_lines rules layers (length layers)) (lengths_text (plan_lengths layers)) first second one two

-- the line of a layer more
pub layer_next : (rules : List Rule) (layers : List LayerSize) (layer : ℕ) (old into new : List ℕ)
    → new ≡ into ++ layer_line rules layers layer → into ≡ old ++ layer_lines rules layers layer
    → new ≡ old ++ layer_lines rules layers (layer + 1)
layer_next rules layers layer old into new is so =
    let next : suc layer ≡ layer + 1 = omega arith in
    is ∙ ap (λ t. t ++ layer_line rules layers layer) so
    ∙ append_assoc old (layer_lines rules layers layer) (layer_line rules layers layer)
    ∙ ap (λ n. old ++ layer_lines rules layers n) next

-- the line of the session in front of all groups
pub plan_begun : (session : List ℕ) (priority : Priorities) (tables : List Sizes) (old into : List ℕ)
    → AreTablesOf priority tables → into ≡ old ++ plan_session_text session (length tables) priority.packets
    → into ++ groups_from priority.layers 0 tables ≡ old ++ plan_text session priority tables
plan_begun session priority tables old into sized is =
    ap (λ t. t ++ groups_from priority.layers 0 tables) is
    ∙ append_assoc old (plan_session_text session (length tables) priority.packets)
    (groups_from priority.layers 0 tables)
    ∙ ap (λ t. old ++ t) (plan_text_is session priority tables sized)

-- a group more
pub text_next : (rules : List Rule) (group : ℕ) (tables : List Sizes) (table : Sizes) (into new whole : List ℕ)
    → group < length tables
    → table ≡ get_or tables group table → new ≡ into ++ group_lines rules group table.layers
    → into ++ groups_from rules group (drop group tables) ≡ whole
    → new ++ groups_from rules (group + 1) (drop (group + 1) tables) ≡ whole
text_next rules group tables table into new whole within read is so =
    let next : suc group ≡ group + 1 = omega arith in
    let rest = groups_from rules (group + 1) (drop (group + 1) tables) in
    let opened : drop group tables ≡ table ∷ drop (group + 1) tables =
    drop-cons tables group table within ∙ ap₂ ◌∷◌ (sym read) (ap (λ n. drop n tables) next) in
    ap (λ t. t ++ rest) is ∙ append_assoc into (group_lines rules group table.layers) rest
    ∙ sym (ap (λ ts. into ++ groups_from rules group ts) opened) ∙ so

-- the last group
pub text_done : (rules : List Rule) (group : ℕ) (tables : List Sizes) (into whole : List ℕ) → length tables ≤ group
    → into ++ groups_from rules group (drop group tables) ≡ whole → into ≡ whole
text_done rules group tables into whole past so =
    sym (append-nil into) ∙ sym (ap (λ ts. into ++ groups_from rules group ts) (drop_all group tables past)) ∙ so
