-- For callers: layers of twice the lengths, the layers whose words a plan cuts, and the tables of both.
use Rattle.std.proofs.Common.{◌≡◌, ℕ, ◌*◌, ◌<◌, ◌≤◌, Bool, true, false, List, [], ◌∷◌, map, length, refl, subst, arith}
use Rattle.std.proofs.Common.{All}
use Rattle.std.specs.Prelude.{if◌then◌else◌}
use Rattle.std.proofs.lemmas.List.{length-map}
use Rattle.std.proofs.lemmas.List.Elements.{All-head, All-tail, All-cons, All-nil}
use Rattle.std.proofs.lemmas.List.Sums.{sum_by-cons}
use Rattle.pet_base.specs.declared.limits.TheConstants.{MAX_GROUP_BYTES, MAX_DATAGRAM}
use Rattle.stripe_plan.specs.declared.bounds.Bounds.{Bounds}
use Rattle.stripe_plan.specs.declared.bounds.TheConstants.{BOUNDS, BYTE_BOUNDS}
use Rattle.stripe_plan.specs.declared.layer.LayerSize.{LayerSize}
use Rattle.stripe_plan.specs.Sizes.{AreBounds, ArePlanBounds, IsTableIn, IsTable, bytes_of, length_over, planned}
use Rattle.stripe_plan.specs.Sizes.{twofold}

-- layers of twice the lengths have twice as many bytes
pub bytes_twofold : (layers : List LayerSize) → bytes_of (map twofold layers) ≡ 2 * bytes_of layers
bytes_twofold [] = refl
bytes_twofold (layer ∷ layers) =
    let once = sum_by-cons (λ (l : LayerSize). l.length) layer layers in
    let doubled = sum_by-cons (λ (l : LayerSize). l.length) (twofold layer) (map twofold layers) in
    omega (arith, once, doubled, bytes_twofold layers)

-- and keep what holds of all needs
pub needs_twofold : (P : ℕ → Type 0) (layers : List LayerSize) → All (λ layer. P layer.need) layers
    → All (λ layer. P layer.need) (map twofold layers)
needs_twofold P [] h = All-nil (λ (l : LayerSize). P l.need)
needs_twofold P (layer ∷ layers) h =
    let Of : LayerSize → Type 0 = λ l. P l.need in
    let more = needs_twofold P layers (All-tail Of layer layers h) in
    All-cons Of (twofold layer) (map twofold layers) (All-head Of layer layers h) more

-- a plan cuts as many layers
pub length-planned : (b : Bounds) (layers : List LayerSize) → length (planned b layers) ≡ length layers
length-planned b layers = by_flag b.doubled
  where
    by_flag : (flag : Bool) → length (if flag then map twofold layers else layers) ≡ length layers
    by_flag true = length-map layers twofold
    by_flag false = refl

-- with the same needs
pub needs_planned : (P : ℕ → Type 0) (b : Bounds) (layers : List LayerSize) → All (λ layer. P layer.need) layers
    → All (λ layer. P layer.need) (planned b layers)
needs_planned P b layers h = by_flag b.doubled
  where
    by_flag : (flag : Bool) → All (λ layer. P layer.need) (if flag then map twofold layers else layers)
    by_flag true = needs_twofold P layers h
    by_flag false = h

-- and, of a table, no more bytes than a group may have
pub few_planned : (b : Bounds) → AreBounds b → (layers : List LayerSize) → bytes_of layers ≤ b.bytes
    → bytes_of (planned b layers) ≤ MAX_GROUP_BYTES
few_planned b are layers few = by_flag b.doubled are.bytes
  where
    by_flag : (flag : Bool) → (if flag then 2 * b.bytes else b.bytes) ≤ MAX_GROUP_BYTES
        → bytes_of (if flag then map twofold layers else layers) ≤ MAX_GROUP_BYTES
    by_flag true h = omega (arith, h, few, bytes_twofold layers)
    by_flag false h = omega (arith, h, few)

-- no bounds allow more
pub few_bytes_in : (b : Bounds) → AreBounds b → b.bytes ≤ MAX_GROUP_BYTES
few_bytes_in b are = by_flag b.doubled are.bytes
  where
    by_flag : (flag : Bool) → (if flag then 2 * b.bytes else b.bytes) ≤ MAX_GROUP_BYTES → b.bytes ≤ MAX_GROUP_BYTES
    by_flag true h = omega (arith, h)
    by_flag false h = h

-- the layers whose words the plan of a table of a format cuts make a table
pub is_planned : (b : Bounds) (packets : ℕ) (layers : List LayerSize) → ArePlanBounds b → IsTableIn b packets layers
    → IsTable packets (planned b layers)
is_planned b packets layers are t = record {
  some_packets = t.some_packets;
  few_packets = omega (arith, t.few_packets, are.packets);
  some_layers = omega (arith, t.some_layers, length-planned b layers);
  few_layers = omega (arith, t.few_layers, are.are.layers, length-planned b layers);
  needed = needs_planned (λ need. 0 < need) b layers t.needed;
  within = needs_planned (λ need. need ≤ packets) b layers t.within;
  few_bytes = few_planned b are.are layers t.few_bytes;
  narrow = subst (λ (n : ℕ). length_over n (planned b layers) ≤ MAX_DATAGRAM) are.bare t.narrow;
}

-- so it is of the frames that are written today, and of the byte profile
pub are_plan_bounds : ArePlanBounds BOUNDS
are_plan_bounds = record {
  are = record { layers = omega arith; bare = omega arith; bytes = omega arith };
  packets = omega arith;
  bare = refl;
}

pub are_byte_plan_bounds : ArePlanBounds BYTE_BOUNDS
are_byte_plan_bounds = record {
  are = record { layers = omega arith; bare = omega arith; bytes = omega arith };
  packets = omega arith;
  bare = refl;
}
