-- The table of a cut, and none where it is too wide; and whether a table is that of a cut.
use Rattle.std.proofs.Common.{◌≡◌, ◌<◌, ◌≤◌, ℕ, Bool, List, length, get_or, Option, Some, None, true, false, nat_lt}
use Rattle.std.proofs.Common.{sym, ◌∙◌, ap, ap₂, arith, inl, inr, ◌==◌, ◌||◌}
use Rattle.std.specs.Prelude.{IsTrue, if◌then◌else◌, Result, Ok, Err}
use Rattle.std.specs.Bool.{Decides}
use Rattle.std.specs.List.{list_any}
use Rattle.std.proofs.lemmas.Bool.{cond-true, cond-false, cases_Bool, le-ltb, ltb-false}
use Rattle.std.proofs.lemmas.List.Folds.{list_any_none}
use Rattle.pet_base.specs.declared.Kind.TheVariants.{Head}
use Rattle.pet_base.specs.declared.limits.TheConstants.{MAX_LAYERS, MAX_DATAGRAM}
use Rattle.stripe_plan.specs.declared.layer.LayerSize.{LayerSize}
use Rattle.stripe_plan.specs.declared.table.TableFault.{TableFault}
use Rattle.stripe_plan.specs.declared.table.TableFault.TheVariants.{Sum, Wide}
use Rattle.stripe_plan.specs.Faults.{fault_in}
use Rattle.stripe_plan.specs.Sizes.{Sizes, IsTableIn, bytes_of, length_over, planned}
use Rattle.packet_frame.specs.declared.format.Format.{Format}
use Rattle.priority_file.specs.Priority.{Priorities, is_priority}
use Rattle.priority_file.specs.laws.PriorityLaws.{packets-in_range, needs-in_range, layer_of-within}
use Rattle.layer_split.specs.Layers.{Cut}
use Rattle.stream_session.specs.Tables.{sizes_of, table_of, table_of_in, IsFit}
use Rattle.stream_session.specs.Refusals.{is_long_in, is_wide_in}
use Rattle.stream_session.specs.laws.TableLaws.{sizes_length, sizes_all}

-- the bounds of a format on the layers of a cut under a priority whose needs are in their ranges: only the sum of the
-- lengths and the length of a datagram can be above them
module _ (t : Format) (priority : Priorities) (cut : Cut) (most : t.bounds.layers ≡ MAX_LAYERS)
    (lawful : is_priority priority ≡ true) (few : length priority.layers ≤ MAX_LAYERS) (fit : IsFit priority cut)
    (packets : nat_lt t.bounds.packets priority.packets ≡ false) where
  abbrev layers : List LayerSize
  layers = sizes_of priority cut

  abbrev answer : Result Sizes TableFault
  answer =
      if is_long_in t priority cut then Err Sum else if is_wide_in t priority cut then Err Wide
      else Ok (table_of_in t priority cut)

  -- within the bounds it has that table
  pub made : (table : Sizes) → IsTableIn t.bounds priority.packets layers → table.packets ≡ priority.packets
      → table.layers ≡ planned t.bounds layers → Ok table ≡ answer
  made table is tp tl =
      let short : is_long_in t priority cut ≡ false = le-ltb t.bounds.bytes (bytes_of layers) is.few_bytes in
      let narrow : is_wide_in t priority cut ≡ false =
      le-ltb MAX_DATAGRAM (length_over t.bounds.bare (planned t.bounds layers)) is.narrow in
      let same : table ≡ table_of_in t priority cut =
      ap₂ (λ (n : ℕ) (ls : List LayerSize). record { packets = n; layers = ls }) tp tl in
      ap (λ (x : Sizes). Ok x) same
      ∙ sym (cond-false (is_wide_in t priority cut) (Err Wide) (Ok (table_of_in t priority cut)) narrow)
      ∙ sym (cond-false (is_long_in t priority cut) (Err Sum)
      (if is_wide_in t priority cut then Err Wide else Ok (table_of_in t priority cut)) short)

  -- what holds of the layers whatever their lengths are
  some_packets : 0 < priority.packets
  some_packets = (packets-in_range priority lawful).0

  few_packets : priority.packets ≤ t.bounds.packets
  few_packets = ltb-false t.bounds.packets priority.packets packets

  count : length layers ≡ length priority.layers
  count = sizes_length cut.lengths priority.layers fit.count

  some_layers : 0 < length layers
  some_layers = omega (arith, count, layer_of-within priority lawful Head 1)

  few_layers : length layers ≤ t.bounds.layers
  few_layers = omega (arith, count, few, most)

  needs : list_any (λ (layer : LayerSize). layer.need == 0 || nat_lt priority.packets layer.need) layers ≡ false
  needs =
      let each = needs-in_range priority lawful in
      let Right : ℕ → Type 0 = λ need. (0 < need) × (need ≤ priority.packets) in
      let all = sizes_all Right cut.lengths priority.layers (λ k d lt. ((each k d lt).0, (each k d lt).1)) in
      list_any_none (λ (layer : LayerSize). layer.need == 0 || nat_lt priority.packets layer.need) layers
      (λ k d inside. right priority.packets (get_or layers k d).need (all k d inside).0 (all k d inside).1)
    where
      right : (n need : ℕ) → 0 < need → need ≤ n → (need == 0 || nat_lt n need) ≡ false
      right n need some few = grind (arith, some, few)

  sum_fault : is_long_in t priority cut ≡ true → fault_in t.bounds priority.packets layers ≡ Some Sum
  sum_fault long = grind (arith, some_packets, few_packets, some_layers, few_layers, needs, long)

  wide_fault : is_long_in t priority cut ≡ false → is_wide_in t priority cut ≡ true
      → fault_in t.bounds priority.packets layers ≡ Some Wide
  wide_fault short wide = grind (arith, some_packets, few_packets, some_layers, few_layers, needs, short, wide)

  no_fault : is_long_in t priority cut ≡ false → is_wide_in t priority cut ≡ false
      → fault_in t.bounds priority.packets layers ≡ None
  no_fault short narrow = grind (arith, some_packets, few_packets, some_layers, few_layers, needs, short, narrow)

  one_fault : (o : Option TableFault) (x y : TableFault) → o ≡ Some x → o ≡ Some y → y ≡ x
  one_fault o x y p q = cc

  some_fault : (o : Option TableFault) (x : TableFault) → o ≡ Some x → o ≡ None → ⊥
  some_fault o x p q = cc

  -- and outside them the fault is one of the two
  pub not_made : (fault : TableFault) → fault_in t.bounds priority.packets layers ≡ Some fault → Err fault ≡ answer
  not_made fault e = elim (cases_Bool (is_long_in t priority cut)) [
    | inl long ↦
        sym (cond-true (is_long_in t priority cut) (Err Sum)
        (if is_wide_in t priority cut then Err Wide else Ok (table_of_in t priority cut)) long
        ∙ ap (λ (f : TableFault). Err f) (one_fault _ fault Sum e (sum_fault long)))
    | inr short ↦ elim (cases_Bool (is_wide_in t priority cut)) [
      | inl wide ↦
          sym (cond-false (is_long_in t priority cut) (Err Sum)
          (if is_wide_in t priority cut then Err Wide else Ok (table_of_in t priority cut)) short
          ∙ cond-true (is_wide_in t priority cut) (Err Wide) (Ok (table_of_in t priority cut)) wide
          ∙ ap (λ (f : TableFault). Err f) (one_fault _ fault Wide e (wide_fault short wide)))
      | inr narrow ↦ absurd (some_fault _ fault e (no_fault short narrow))
    ]
  ]

abbrev sized : ℕ → List LayerSize → Sizes
sized n l = record { packets = n; layers = l }

-- the layers of a table are those of the cut, and so the table is
pub table_decides : (priority : Priorities) (cut : Cut) (table : Sizes) (xs ys : List LayerSize) (r : Bool)
    → Decides r (xs ≡ ys) → xs ≡ sizes_of priority cut → ys ≡ table.layers → priority.packets ≡ table.packets
    → (IsTrue r → table ≡ table_of priority cut) × (table ≡ table_of priority cut → IsTrue r)
table_decides priority cut table xs ys r decides is of packets = (
  λ same. ap₂ (λ (n : ℕ) (l : List LayerSize). sized n l) (sym packets) (sym of ∙ sym (decides.0 same) ∙ is),
  λ same. decides.1 (is ∙ sym (ap (λ (t : Sizes). t.layers) same) ∙ sym of),
)
