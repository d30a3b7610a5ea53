-- Each cut of a priority that is neither too long nor too wide has a table, for callers. This project's own.
use Rattle.std.proofs.Common.{◌≡◌, ◌+◌, ◌<◌, ◌≤◌, ℕ, suc, false, true, List, [], ◌∷◌, length, map, nat_lt, refl, ap}
use Rattle.std.proofs.Common.{arith}
use Rattle.std.specs.Prelude.{All, sum}
use Rattle.std.proofs.lemmas.Bool.{le-ltb}
use Rattle.std.proofs.lemmas.Bool.Decides.{nat_tests}
use Rattle.std.proofs.lemmas.List.Sums.{sum_by-cons}
use Rattle.std.proofs.lemmas.List.Elements.{All-cons, All-nil}
use Rattle.std.proofs.lemmas.List.FromFn.{length-map-range_with_len}
use Rattle.pet_base.specs.declared.Kind.TheVariants.{Head}
use Rattle.pet_base.specs.declared.limits.TheConstants.{MAX_LAYERS, MAX_GROUP_BYTES, MAX_DATAGRAM}
use Rattle.mpeg_scan.specs.declared.piece.Piece.{Piece}
use Rattle.stripe_plan.specs.declared.layer.LayerSize.{LayerSize}
use Rattle.stripe_plan.specs.Sizes.{IsTable, IsTableIn, bytes_of}
use Rattle.packet_frame.specs.declared.format.Format.{Format}
use Rattle.packet_frame.specs.declared.format.TheConstants.{FORMAT}
use Rattle.priority_file.specs.Priority.{Rule, Priorities, layer_of, is_priority}
use Rattle.priority_file.specs.laws.PriorityLaws.{packets-in_range, needs-in_range, layer_of-within}
use Rattle.layer_split.specs.Layers.{Cut, cut_of}
use Rattle.layer_split.specs.Faults.{is_too_long}
use Rattle.stream_session.specs.Tables.{sizes_with, sizes_of, IsFit, sizes_by}
use Rattle.stream_session.specs.Refusals.{is_wide, is_wide_in, is_long_in}

-- those of a priority's layers
pub by_rules : (lengths : List ℕ) (rules : List Rule)
    → sizes_by lengths (map (λ (rule : Rule). rule.need) rules) ≡ sizes_with lengths rules
by_rules [] rules = refl
by_rules (bytes ∷ lengths) [] = refl
by_rules (bytes ∷ lengths) (rule ∷ rules) =
    ap (λ sizes. record { length = bytes; need = rule.need } ∷ sizes) (by_rules lengths rules)

short : (limit n : ℕ) → nat_lt limit n ≡ false → n ≤ limit
short limit n e = grind (arith, nat_tests)

-- so is the cut of a group that is not too long
pub cut_fits : (priority : Priorities) (group : List Piece)
    → is_too_long (layer_of priority) (length priority.layers) group ≡ false
    → IsFit priority (cut_of (layer_of priority) (length priority.layers) group)
cut_fits priority group e =
    record { count = length-map-range_with_len _ 0 (length priority.layers); bytes = short MAX_GROUP_BYTES _ e }

-- layers as many as the rules
pub sizes_length : (lengths : List ℕ) (rules : List Rule) → length lengths ≡ length rules
    → length (sizes_with lengths rules) ≡ length rules
sizes_length [] [] e = refl
sizes_length [] (rule ∷ rules) e = absurd (omega arith)
sizes_length (bytes ∷ lengths) [] e = refl
sizes_length (bytes ∷ lengths) (rule ∷ rules) e = ap suc (sizes_length lengths rules (omega arith))

-- of these bytes
sizes_bytes : (lengths : List ℕ) (rules : List Rule) → length lengths ≡ length rules
    → bytes_of (sizes_with lengths rules) ≡ sum lengths
sizes_bytes [] [] e = refl
sizes_bytes [] (rule ∷ rules) e = absurd (omega arith)
sizes_bytes (bytes ∷ lengths) [] e = absurd (omega arith)
sizes_bytes (bytes ∷ lengths) (rule ∷ rules) e =
    let whole : bytes_of (sizes_with (bytes ∷ lengths) (rule ∷ rules)) ≡ bytes + bytes_of (sizes_with lengths rules) =
    sum_by-cons (λ (layer : LayerSize). layer.length) (record { length = bytes; need = rule.need })
    (sizes_with lengths rules) in
    let rest = sizes_bytes lengths rules (omega arith) in
    let total : sum (bytes ∷ lengths) ≡ bytes + sum lengths = sum_by-cons (λ (n : ℕ). n) bytes lengths in
    omega arith

-- and of these needs
pub sizes_all : (Fact : ℕ → Type 0) (lengths : List ℕ) (rules : List Rule) → All (λ (rule : Rule). Fact rule.need) rules
    → All (λ (layer : LayerSize). Fact layer.need) (sizes_with lengths rules)
sizes_all Fact [] rules h = All-nil (λ (layer : LayerSize). Fact layer.need)
sizes_all Fact (bytes ∷ lengths) [] h = All-nil (λ (layer : LayerSize). Fact layer.need)
sizes_all Fact (bytes ∷ lengths) (rule ∷ rules) h =
    All-cons (λ (layer : LayerSize). Fact layer.need) (record { length = bytes; need = rule.need })
    (sizes_with lengths rules)
    (h 0 rule (omega arith)) (sizes_all Fact lengths rules (λ k d lt. h (suc k) d (omega arith)))

-- the table of a cut that is neither too long nor too wide
pub is_table : (priority : Priorities) (cut : Cut) → is_priority priority ≡ true → length priority.layers ≤ MAX_LAYERS
    → IsFit priority cut → is_wide priority cut ≡ false → IsTable priority.packets (sizes_of priority cut)
is_table priority cut lawful few fit narrow =
    let packets = packets-in_range priority lawful in
    let needs = needs-in_range priority lawful in
    let count : length (sizes_of priority cut) ≡ length priority.layers =
    sizes_length cut.lengths priority.layers fit.count in
    let some = layer_of-within priority lawful Head 1 in
    let bytes : bytes_of (sizes_of priority cut) ≡ sum cut.lengths =
    sizes_bytes cut.lengths priority.layers fit.count in
    let limit = fit.bytes in
    record {
      some_packets = packets.0;
      few_packets = packets.1;
      some_layers = omega arith;
      few_layers = omega arith;
      needed = sizes_all (λ need. 0 < need) cut.lengths priority.layers (λ k d lt. (needs k d lt).0);
      within = sizes_all (λ need. need ≤ priority.packets) cut.lengths priority.layers (λ k d lt. (needs k d lt).1);
      few_bytes = omega arith;
      narrow = short MAX_DATAGRAM _ narrow;
    }

-- in a format that allows as many packets: the table of a cut that is neither longer nor wider than it allows
pub is_table_in : (t : Format) (priority : Priorities) (cut : Cut) → t.bounds.layers ≡ MAX_LAYERS
    → is_priority priority ≡ true → length priority.layers ≤ MAX_LAYERS → IsFit priority cut
    → nat_lt t.bounds.packets priority.packets ≡ false → is_long_in t priority cut ≡ false
    → is_wide_in t priority cut ≡ false → IsTableIn t.bounds priority.packets (sizes_of priority cut)
is_table_in t priority cut most lawful few fit packets long narrow =
    let needs = needs-in_range priority lawful in
    let count : length (sizes_of priority cut) ≡ length priority.layers =
    sizes_length cut.lengths priority.layers fit.count in
    let some = layer_of-within priority lawful Head 1 in
    record {
      some_packets = (packets-in_range priority lawful).0;
      few_packets = short t.bounds.packets priority.packets packets;
      some_layers = omega arith;
      few_layers = omega arith;
      needed = sizes_all (λ need. 0 < need) cut.lengths priority.layers (λ k d lt. (needs k d lt).0);
      within = sizes_all (λ need. need ≤ priority.packets) cut.lengths priority.layers (λ k d lt. (needs k d lt).1);
      few_bytes = short t.bounds.bytes _ long;
      narrow = short MAX_DATAGRAM _ narrow;
    }

-- in the format that is written today neither the packets of a priority nor the bytes of a cut are too many
pub packets_allowed : (priority : Priorities) → is_priority priority ≡ true
    → nat_lt FORMAT.bounds.packets priority.packets ≡ false
packets_allowed priority lawful =
    le-ltb FORMAT.bounds.packets priority.packets (packets-in_range priority lawful).1

pub never_long : (priority : Priorities) (cut : Cut) → IsFit priority cut → is_long_in FORMAT priority cut ≡ false
never_long priority cut fit =
    let bytes : bytes_of (sizes_of priority cut) ≡ sum cut.lengths =
    sizes_bytes cut.lengths priority.layers fit.count in
    le-ltb FORMAT.bounds.bytes (bytes_of (sizes_of priority cut)) (omega (arith, bytes, fit.bytes))
