-- The first refusal, over the parts of the table of refusals.
use Rattle.std.proofs.Common.{◌≡◌, ℕ, Bool, true, false, cond, List, [], ◌∷◌, ◌++◌, Option, None, Some, refl, sym, ap}
use Rattle.std.proofs.Common.{◌∙◌}
use Rattle.packet_frame.specs.declared.fault.FrameFault.{FrameFault}
use Rattle.packet_frame.specs.declared.parts.Head.{Head}
use Rattle.stripe_plan.specs.declared.layer.LayerSize.{LayerSize}
use Rattle.stripe_plan.specs.declared.bounds.Bounds.{Bounds}
use Rattle.stripe_plan.specs.Sizes.{IsTableIn}
use Rattle.packet_frame.specs.Frame.{Fields}
use Rattle.packet_frame.specs.Refusals.{Row, fields_in, first_of, head_rows, layer_rows, end_rows, first_fault_in}
use Rattle.packet_frame.specs.Reading.{fields_by}
use Rattle.packet_frame.specs.inside.Reading.{HasHead, front_rows, range_rows, room_rows}
use Rattle.packet_frame.specs.declared.format.Format.{Format}

-- the first answer of two
choice : Option FrameFault → Option FrameFault → Option FrameFault
choice None o = o
choice (Some fault) o = Some fault

first_row : (t : Bool) (fault : FrameFault) (a b c : Option FrameFault) → c ≡ choice a b
    → cond t (Some fault) c ≡ choice (cond t (Some fault) a) b
unfolding choice
first_row true fault a b c h = refl
first_row false fault a b c h = h

first_of-append : (a b : List Row) → first_of (a ++ b) ≡ choice (first_of a) (first_of b)
unfolding choice
first_of-append [] b = refl
first_of-append (row ∷ a) b = first_row row.0 row.1 (first_of a) (first_of b) (first_of (a ++ b)) (first_of-append a b)

-- a refusal in the front is the refusal
pub first_of-front : (a b : List Row) (fault : FrameFault) → first_of a ≡ Some fault → first_of (a ++ b) ≡ Some fault
unfolding choice
first_of-front a b fault h = first_of-append a b ∙ ap (λ (o : Option FrameFault). choice o (first_of b)) h

-- a front without a refusal leaves it to the rest
pub first_of-rest : (a b : List Row) → first_of a ≡ None → first_of (a ++ b) ≡ first_of b
unfolding choice
first_of-rest a b h = first_of-append a b ∙ ap (λ (o : Option FrameFault). choice o (first_of b)) h

-- the rows of a head that has these fields, in three parts
abbrev head_of : Fields → Head
head_of f = record { session = f.session; groups = f.groups; group = f.group; packets = f.packets; number = f.number }

head_parts : (t : Format) (bytes : List ℕ) (h : Head) → HasHead h (fields_in t bytes)
    → front_rows t bytes ++ range_rows t.bounds.packets h ++ room_rows t bytes ≡ head_rows t bytes (fields_in t bytes)
head_parts t bytes h has =
    λ i. front_rows t bytes
    ++ range_rows t.bounds.packets (record {
      session = has.0 i;
      groups = has.1 i;
      group = has.2 i;
      packets = has.3 i;
      number = has.4 i;
    }) ++ room_rows t bytes

-- what each part tells
pub at_front : (t : Format) (bytes : List ℕ) (fault : FrameFault) → first_of (front_rows t bytes) ≡ Some fault
    → first_of (head_rows t bytes (fields_in t bytes)) ≡ Some fault
at_front t bytes fault front =
    first_of-front (front_rows t bytes)
    (range_rows t.bounds.packets (head_of (fields_in t bytes)) ++ room_rows t bytes) fault front

behind_front : (t : Format) (bytes : List ℕ) (h : Head) → HasHead h (fields_in t bytes)
    → first_of (front_rows t bytes) ≡ None
    → first_of (head_rows t bytes (fields_in t bytes)) ≡ first_of (range_rows t.bounds.packets h ++ room_rows t bytes)
behind_front t bytes h has front =
    sym (ap first_of (head_parts t bytes h has))
    ∙ first_of-rest (front_rows t bytes) (range_rows t.bounds.packets h ++ room_rows t bytes) front

pub at_ranges : (t : Format) (bytes : List ℕ) (h : Head) (fault : FrameFault) → HasHead h (fields_in t bytes)
    → first_of (front_rows t bytes) ≡ None → first_of (range_rows t.bounds.packets h) ≡ Some fault
    → first_of (head_rows t bytes (fields_in t bytes)) ≡ Some fault
at_ranges t bytes h fault has front ranges =
    behind_front t bytes h has front ∙ first_of-front (range_rows t.bounds.packets h) (room_rows t bytes) fault ranges

pub at_room : (t : Format) (bytes : List ℕ) (h : Head) → HasHead h (fields_in t bytes)
    → first_of (front_rows t bytes) ≡ None → first_of (range_rows t.bounds.packets h) ≡ None
    → first_of (head_rows t bytes (fields_in t bytes)) ≡ first_of (room_rows t bytes)
at_room t bytes h has front ranges =
    behind_front t bytes h has front ∙ first_of-rest (range_rows t.bounds.packets h) (room_rows t bytes) ranges

-- what the head tells
pub at_head : (t : Format) (bytes : List ℕ) (fault : FrameFault)
    → first_of (head_rows t bytes (fields_in t bytes)) ≡ Some fault → first_fault_in t bytes ≡ Some fault
unfolding first_fault_in
at_head t bytes fault head =
    let f = fields_in t bytes in
    first_of-front (head_rows t bytes f) (layer_rows t f.packets f.layers ++ end_rows t bytes f.layers) fault head

-- the refusal, where the head tells none
pub behind_head : (t : Format) (bytes : List ℕ) (packets : ℕ) → packets ≡ (fields_in t bytes).packets
    → first_of (head_rows t bytes (fields_in t bytes)) ≡ None
    → first_fault_in t bytes
    ≡ first_of (layer_rows t packets (fields_in t bytes).layers ++ end_rows t bytes (fields_in t bytes).layers)
unfolding first_fault_in
behind_head t bytes packets p head =
    let f = fields_in t bytes in
    first_of-rest (head_rows t bytes f) (layer_rows t f.packets f.layers ++ end_rows t bytes f.layers) head
    ∙ ap (λ (n : ℕ). first_of (layer_rows t n f.layers ++ end_rows t bytes f.layers)) (sym p)

-- the refusal, where the head and the layers tell none
pub at_end : (t : Format) (bytes : List ℕ) (packets : ℕ) → packets ≡ (fields_in t bytes).packets
    → first_of (head_rows t bytes (fields_in t bytes)) ≡ None
    → first_of (layer_rows t packets (fields_in t bytes).layers) ≡ None
    → first_fault_in t bytes ≡ first_of (end_rows t bytes (fields_in t bytes).layers)
at_end t bytes packets p head none =
    let f = fields_in t bytes in
    behind_head t bytes packets p head
    ∙ first_of-rest (layer_rows t packets f.layers) (end_rows t bytes f.layers) none

-- the fields, one by one
pub same_fields : (h : Head) (f : Fields) (layers : List LayerSize) (payload : List ℕ) → HasHead h f
    → layers ≡ f.layers → payload ≡ f.payload → fields_by h layers payload ≡ f
same_fields h f layers payload head l p =
    λ i. record {
      session = head.0 i;
      groups = head.1 i;
      group = head.2 i;
      packets = head.3 i;
      number = head.4 i;
      layers = l i;
      payload = p i;
    }

-- the table of a head and layers is that of the fields
pub same_table : (bounds : Bounds) (h : Head) (f : Fields) (layers : List LayerSize) → h.packets ≡ f.packets
    → layers ≡ f.layers → IsTableIn bounds h.packets layers → IsTableIn bounds f.packets f.layers
same_table bounds h f layers packets same table = rw (← packets, ← same) table

-- the fields by a table of these packets and layers
pub with_table : (h : Head) (packets : ℕ) (layers known : List LayerSize) (payload : List ℕ) (f : Fields)
    → packets ≡ h.packets → known ≡ layers → fields_by h layers payload ≡ f
    → fields_by (record h { packets = packets }) known payload ≡ f
with_table h packets layers known payload f same_packets same_layers is = rw (same_packets, same_layers) is
