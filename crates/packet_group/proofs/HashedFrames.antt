-- The bytes before the tag of a packet's frame, hashed part by part.
use Rattle.std.proofs.Common.{◌≡◌, ℕ, ◌+◌, ◌<◌, List, [], ◌∷◌, ◌++◌, length, take, get_or, append_assoc, sym, ap, ap₂, ◌∙◌}
use Rattle.std.specs.List.{flat_map}
use Rattle.std.specs.Int.{w16, w32, to_be_bytes}
use Rattle.std.proofs.lemmas.List.{append-nil, take_more}
use Rattle.std.proofs.lemmas.Grind.{flat_map-append}
use Rattle.stripe_plan.specs.declared.layer.LayerSize.{LayerSize}
use Rattle.packet_frame.specs.Frame.{layer_text}

-- parts one after the other, of which all but the first are those that were meant
pub parts_meant : (a b c d e f b2 c2 d2 e2 f2 : List ℕ) → b ≡ b2 → c ≡ c2 → d ≡ d2 → e ≡ e2 → f ≡ f2
    → a ++ b ++ c ++ d ++ e ++ f ≡ a ++ b2 ++ c2 ++ d2 ++ e2 ++ f2
parts_meant a b c d e f b2 c2 d2 e2 f2 bs cs ds es fs =
    let join = λ (x y : List ℕ). x ++ y in
    ap₂ join (ap₂ join (ap₂ join (ap₂ join (ap (λ (x : List ℕ). a ++ x) bs) cs) ds) es) fs

-- one layer more
pub layer_more : (m : List ℕ) (layers : List LayerSize) (i : ℕ) (none : LayerSize) (a b : List ℕ) → i < length layers
    → a ≡ to_be_bytes w32 (get_or layers i none).length → b ≡ to_be_bytes w16 (get_or layers i none).need
    → ((m ++ flat_map layer_text (take i layers)) ++ a) ++ b ≡ m ++ flat_map layer_text (take (i + 1) layers)
layer_more m layers i none a b lt size need =
    let x = get_or layers i none in
    let F = flat_map layer_text (take i layers) in
    let more : flat_map layer_text (take (i + 1) layers) ≡ F ++ layer_text x =
    ap (flat_map layer_text) (take_more layers i none lt) ∙ flat_map-append layer_text (take i layers) (x ∷ [])
    ∙ ap (λ (t : List ℕ). F ++ t) (append-nil (layer_text x)) in
    append_assoc (m ++ F) a b ∙ append_assoc m F (a ++ b)
    ∙ ap (λ (t : List ℕ). m ++ t) (ap₂ (λ (p q : List ℕ). F ++ (p ++ q)) size need ∙ sym more)
