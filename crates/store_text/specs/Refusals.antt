-- What is read of the bytes of a store, and why bytes are none: from the front to the end, the first refusal. This
-- project's own format. A store is of a form; names that tell none are of the stores that are written today.
use Rattle.std.specs.Prelude.{ℕ, ◌+◌, ◌-◌, ◌*◌, Bool, true, not, ◌&&◌, ◌||◌, ◌==◌, nat_lt, if◌then◌else◌, zero, suc}
use Rattle.std.specs.Prelude.{List, [], ◌∷◌, length, take, drop, sum_by, Option, None, Some, is_some, Result, Ok, Err}
use Rattle.std.specs.Int.{w16, w32}
use Rattle.std.specs.Str.{bytes_eq}
use Rattle.stripe_plan.specs.Sizes.{length_by}
use Rattle.packet_frame.specs.Frame.{Fields}
use Rattle.packet_frame.specs.Refusals.{number, fields_in, first_fault_in}
use Rattle.packet_set.specs.Packets.{Packets}
use Rattle.packet_verdicts.specs.KeptSet.{KeptSet, empty_set, keep}
use Rattle.packet_verdicts.specs.Verdicts.{tells_other_count, tells_other_table, opens}
use Rattle.store_text.specs.declared.format.StoreForm.{StoreForm}
use Rattle.store_text.specs.declared.format.TheConstants.{STORE_FORM, HEAD_LENGTH}
use Rattle.store_text.specs.Form.{store_tag}
use Rattle.store_text.specs.declared.fault.StoreKind.{StoreKind}
use Rattle.store_text.specs.declared.fault.StoreKind.TheVariants.{Cut, Magic, Frame, Session, Order, Clash, Full, Rest}
use Rattle.store_text.specs.declared.fault.StoreKind.TheVariants.{Tag}
use Rattle.store_text.specs.declared.fault.BadStore.{BadStore}
use Rattle.store_text.specs.declared.fault.BadStore.TheVariants.{At}

-- the group and the number of the entry before, where there is one
abbrev pub Last : Type 0
Last = Option (ℕ × ℕ)

-- the frame is above the entry before
abbrev pub is_above : Last → Fields → Bool
is_above None f = true
is_above (Some last) f = nat_lt last.0 f.group || ((last.0 == f.group) && nat_lt last.1 f.number)

-- what a group costs: its packets times the length of a frame of the form
abbrev pub cost_in_form : StoreForm → Packets → ℕ
cost_in_form t p = p.header.table.packets * length_by p.word t.frames.bounds.bare p.header.table.layers

-- the same, summed over the groups so far
abbrev pub costs_in : StoreForm → KeptSet → ℕ
costs_in t set = sum_by (λ e. cost_in_form t e.1) set.groups

-- what the frame's group costs
abbrev pub cost_of_frame : StoreForm → Fields → ℕ
cost_of_frame t f = f.packets * length_by t.frames.word t.frames.bounds.bare f.layers

-- the frame is the first of its group, and with it the groups would cost more than the limit
abbrev pub is_past : StoreForm → KeptSet → Fields → Bool
is_past t set f = opens set f && nat_lt set.limit (costs_in t set + cost_of_frame t f)

-- why the frame cannot be the next of these, or nothing
abbrev pub frame_fault_in : StoreForm → KeptSet → Last → Fields → Option StoreKind
frame_fault_in t set last f =
    if not (bytes_eq f.session set.session) then Some Session
    else if not (is_above last f) then Some Order
    else if tells_other_count set f || tells_other_table set f then Some Clash
    else if is_past t set f then Some Full
    else None

-- why the datagram of an entry cannot
abbrev pub entry_fault_in : StoreForm → KeptSet → Last → List ℕ → Option StoreKind
entry_fault_in t set last bytes =
    if is_some (first_fault_in t.frames bytes) then Some Frame else frame_fault_in t set last (fields_in t.frames bytes)

-- the length of the entry at the front, its own two bytes among it, and its datagram
abbrev pub entry_length : List ℕ → ℕ
entry_length bytes = 2 + number w16 0 bytes

abbrev pub datagram_in : List ℕ → List ℕ
datagram_in bytes = take (number w16 0 bytes) (drop 2 bytes)

-- the entry at the front is all there
abbrev pub is_whole : List ℕ → Bool
is_whole bytes = not (nat_lt (length bytes) 2) && not (nat_lt (length bytes) (entry_length bytes))

-- the set that so many entries make, from the place `at` on, behind those that made this set
abbrev pub then_next : ℕ → Option StoreKind → Result KeptSet BadStore → Result KeptSet BadStore
then_next at None next = next
then_next at (Some kind) next = Err (At at kind)

unfoldable pub read_entries_in : StoreForm → ℕ → ℕ → KeptSet → Last → List ℕ → Result KeptSet BadStore
read_entries_in t zero at set last [] = Ok set
read_entries_in t zero at set last (byte ∷ rest) = Err (At at Rest)
read_entries_in t (suc many) at set last bytes =
    if not (is_whole bytes) then Err (At at Cut)
    else then_next at (entry_fault_in t set last (datagram_in bytes))
    (read_entries_in t many (at + entry_length bytes) (keep set (fields_in t.frames (datagram_in bytes)))
    (Some ((fields_in t.frames (datagram_in bytes)).group, (fields_in t.frames (datagram_in bytes)).number))
    (drop (entry_length bytes) bytes))

-- the place of the tag
abbrev pub tag_place : StoreForm → List ℕ → ℕ
tag_place t bytes = length bytes - t.tag

-- the last bytes are the tag of those before them
abbrev pub ends_in_store_tag : StoreForm → List ℕ → Bool
ends_in_store_tag t bytes = bytes_eq (drop (tag_place t bytes) bytes) (store_tag t (take (tag_place t bytes) bytes))

abbrev pub then_tag_in : StoreForm → List ℕ → Result KeptSet BadStore → Result KeptSet BadStore
then_tag_in t bytes (Err fault) = Err fault
then_tag_in t bytes (Ok set) = if ends_in_store_tag t bytes then Ok set else Err (At (tag_place t bytes) Tag)

-- the session number that the head tells, how many entries, and what stands between head and tag
abbrev pub session_of : List ℕ → List ℕ
session_of bytes = take 8 (drop 4 bytes)

abbrev pub many_of : List ℕ → ℕ
many_of bytes = number w32 12 bytes

abbrev pub entries_of : StoreForm → List ℕ → List ℕ
entries_of t bytes = drop HEAD_LENGTH (take (tag_place t bytes) bytes)

-- the set of the frames of a store, whose groups may cost so much, or its first refusal
unfoldable pub read_text_in : StoreForm → ℕ → List ℕ → Result KeptSet BadStore
read_text_in t limit bytes =
    if nat_lt (length bytes) (HEAD_LENGTH + t.tag) then Err (At (length bytes) Cut)
    else if not (bytes_eq (take 4 bytes) t.mark) then Err (At 0 Magic)
    else then_tag_in t bytes
    (read_entries_in t (many_of bytes) HEAD_LENGTH (empty_set (session_of bytes) limit) None (entries_of t bytes))

-- of the stores that are written today
abbrev pub frame_fault : KeptSet → Last → Fields → Option StoreKind
frame_fault set last f = frame_fault_in STORE_FORM set last f

abbrev pub entry_fault : KeptSet → Last → List ℕ → Option StoreKind
entry_fault set last bytes = entry_fault_in STORE_FORM set last bytes

abbrev pub read_entries : ℕ → ℕ → KeptSet → Last → List ℕ → Result KeptSet BadStore
read_entries many at set last bytes = read_entries_in STORE_FORM many at set last bytes

abbrev pub tag_at : List ℕ → ℕ
tag_at bytes = tag_place STORE_FORM bytes

abbrev pub then_tag : List ℕ → Result KeptSet BadStore → Result KeptSet BadStore
then_tag bytes result = then_tag_in STORE_FORM bytes result

abbrev pub read_text : ℕ → List ℕ → Result KeptSet BadStore
read_text limit bytes = read_text_in STORE_FORM limit bytes
