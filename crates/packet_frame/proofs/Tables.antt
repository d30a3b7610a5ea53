-- The refusal of a table, as rows of the table of refusals.
use Rattle.std.proofs.Common.{◌≡◌, ◌≢◌, ℕ, ◌<◌, ◌≤◌, Bool, true, false, ◌||◌, not, eqb, ltb, cond, List, ◌++◌, length}
use Rattle.std.proofs.Common.{Option, None, Some, option_map, refl, ap, arith}
use Rattle.std.proofs.lemmas.Bool.Decides.{nat_tests}
use Rattle.std.specs.List.{list_any}
use Rattle.stripe_plan.specs.declared.layer.LayerSize.{LayerSize}
use Rattle.stripe_plan.specs.declared.table.TableFault.{TableFault}
use Rattle.stripe_plan.specs.declared.table.TableFault.TheVariants.{Packets, Layers, Need, Sum, Wide}
use Rattle.pet_base.specs.declared.limits.TheConstants.{MAX_DATAGRAM}
use Rattle.stripe_plan.specs.Sizes.{bytes_of, length_over, planned}
use Rattle.stripe_plan.specs.Faults.{fault_in}
use Rattle.packet_frame.specs.declared.format.Format.{Format}
use Rattle.packet_frame.specs.Format.{frame_length_in}
use Rattle.packet_frame.specs.declared.fault.Field1.TheVariants as field
use Rattle.packet_frame.specs.declared.fault.FrameFault.{FrameFault}
use Rattle.packet_frame.specs.declared.fault.FrameFault.TheVariants.{Range, Length, Tag}
use Rattle.packet_frame.specs.Refusals.{first_of, layer_rows, end_rows, ends_in_tag}
use Rattle.packet_frame.specs.inside.Reading.{refusal_for}

-- the bounds of a table in their order, by their tests
chain : (packets layers need sum wide : Bool) → Option TableFault
chain packets layers need sum wide =
    cond packets (Some Packets)
    (cond layers (Some Layers) (cond need (Some Need) (cond sum (Some Sum) (cond wide (Some Wide) None))))

refused : (packets layers need sum wide long : Bool) (rest : Option FrameFault) (fault : TableFault) → packets ≡ false
    → layers ≡ false → (wide ≡ true → long ≡ true)
    → chain packets layers need sum wide ≡ Some fault
    → cond need (Some (Range field.Need)) (cond sum (Some (Range field.Lengths)) (cond long (Some Length) rest))
    ≡ Some (refusal_for fault)
unfolding chain
refused true layers need sum wide long rest fault p l w h = absurd cc
refused false true need sum wide long rest fault p l w h = absurd cc
refused false false true sum wide long rest fault p l w h = ap (option_map refusal_for) h
refused false false false true wide long rest fault p l w h = ap (option_map refusal_for) h
refused false false false false true long rest fault p l w h = rw (w refl) (ap (option_map refusal_for) h)
refused false false false false false long rest fault p l w h = absurd cc

accepted : (packets layers need sum wide : Bool) → chain packets layers need sum wide ≡ None
    → cond need (Some (Range field.Need)) (cond sum (Some (Range field.Lengths)) None) ≡ None
unfolding chain
accepted true layers need sum wide h = absurd cc
accepted false true need sum wide h = absurd cc
accepted false false true sum wide h = absurd cc
accepted false false false true wide h = absurd cc
accepted false false false false wide h = refl

in_range : (n high : ℕ) → 0 < n → n ≤ high → (eqb n 0 || ltb high n) ≡ false
in_range n high p q = grind (arith, nat_tests)

too_long : (other wide : Bool) → wide ≡ true → (other || wide) ≡ true
too_long true wide h = refl
too_long false wide h = h

pub table_refused : (t : Format) (bytes : List ℕ) (packets : ℕ) (layers : List LayerSize) (fault : TableFault)
    → 0 < packets → packets ≤ t.bounds.packets → 0 < length layers → length layers ≤ t.bounds.layers
    → fault_in t.bounds packets layers ≡ Some fault
    → first_of (layer_rows t packets layers ++ end_rows t bytes layers) ≡ Some (refusal_for fault)
unfolding chain
table_refused t bytes packets layers fault p p' l l' h =
    refused _ _ (list_any (λ layer. eqb layer.need 0 || ltb packets layer.need) layers)
    (ltb t.bounds.bytes (bytes_of layers))
    (ltb MAX_DATAGRAM (length_over t.bounds.bare (planned t.bounds layers))) _ _ fault
    (in_range packets t.bounds.packets p p') (in_range (length layers) t.bounds.layers l l')
    (too_long (not (eqb (length bytes) (frame_length_in t layers)))
    (ltb MAX_DATAGRAM (length_over t.bounds.bare (planned t.bounds layers)))) h

pub table_accepted : (t : Format) (packets : ℕ) (layers : List LayerSize) → fault_in t.bounds packets layers ≡ None
    → first_of (layer_rows t packets layers) ≡ None
unfolding chain
table_accepted t packets layers h =
    accepted (eqb packets 0 || ltb t.bounds.packets packets)
    (eqb (length layers) 0 || ltb t.bounds.layers (length layers))
    (list_any (λ layer. eqb layer.need 0 || ltb packets layer.need) layers) (ltb t.bounds.bytes (bytes_of layers))
    (ltb MAX_DATAGRAM (length_over t.bounds.bare (planned t.bounds layers))) h

-- the end, by the number of bytes and the tag
pub end_unlike : (t : Format) (bytes : List ℕ) (layers : List LayerSize) → length bytes ≢ frame_length_in t layers
    → first_of (end_rows t bytes layers) ≡ Some Length
end_unlike t bytes layers h = rw (not_eq (length bytes) (frame_length_in t layers) h) refl
  where
    not_eq : (a b : ℕ) → a ≢ b → eqb a b ≡ false
    not_eq a b h = grind (arith, nat_tests, h)

pub end_like : (t : Format) (bytes : List ℕ) (layers : List LayerSize) → length bytes ≡ frame_length_in t layers
    → length_over t.bounds.bare (planned t.bounds layers) ≤ MAX_DATAGRAM
    → first_of (end_rows t bytes layers) ≡ cond (not (ends_in_tag t bytes)) (Some Tag) None
end_like t bytes layers same narrow =
    rw (fits (length bytes) (frame_length_in t layers) MAX_DATAGRAM
    (length_over t.bounds.bare (planned t.bounds layers)) same narrow) refl
  where
    fits : (size wanted most bound : ℕ) → size ≡ wanted → bound ≤ most
        → (not (eqb size wanted) || ltb most bound) ≡ false
    fits size wanted most bound p q = grind (arith, nat_tests)
