-- What is seen of a queue of datagrams: the entries that wait, as in a datagram file; how many bytes are kept, those that are
-- handed on among them; and for how many there is room. This project's own.
use Rattle.std.specs.Prelude.{ℕ, List, length, take, ◌+◌, ◌≤◌, ◌<◌}
use Rattle.std.specs.Int.{w16, from_be_bytes}
use Rattle.pet_base.specs.declared.limits.TheConstants.{MAX_ENTRY}
use Rattle.pet_ends.specs.declared.waiting.Room.{Room}
use Rattle.pet_ends.specs.declared.waiting.Room.TheVariants.{There, Full, NoMemory}

pub record Waits : Type 0 where
  pub entries : List ℕ
  pub kept : ℕ
  pub room : ℕ

-- The two bytes of a length and the datagram that it tells are not whole.
abbrev pub LacksEntry : List ℕ → Type 0
LacksEntry bytes = length bytes < 2 + from_be_bytes w16 (take 2 bytes)

-- the bytes that are kept with one more datagram, however long
abbrev pub with_longest : Waits → ℕ
with_longest queue = queue.kept + 2 + MAX_ENTRY

-- Whether one more can be kept: in the room that there is, within 64 MB; where it cannot, these would be passed, or memory is
-- not found.
abbrev pub HasMadeRoom : Room → Waits → Type 0
HasMadeRoom There queue = (with_longest queue ≤ 67_108_864) × (with_longest queue ≤ queue.room)
HasMadeRoom Full queue = 67_108_864 < with_longest queue
HasMadeRoom NoMemory queue = Unit {0}
