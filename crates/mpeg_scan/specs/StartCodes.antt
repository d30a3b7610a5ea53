-- Start codes and picture types, by the clauses of ISO/IEC 11172-2 on start codes and on the picture layer: a start
-- code is the bytes
-- 00 00 01 and one code byte, and a picture's type is three bits of the second byte behind its start code.
use Rattle.std.specs.Prelude.{ℕ, ◌+◌, ◌/◌, ◌%◌, Bool, ◌&&◌, ◌||◌, List, length, slice_index, ◌==◌, nat_lt, nat_le}

-- a start code stands at byte p, and its code is the fourth byte
abbrev pub is_start_code : List ℕ → ℕ → Bool
is_start_code stream p =
    nat_lt (p + 3) (length stream)
    && (slice_index stream p == 0 && (slice_index stream (p + 1) == 0 && slice_index stream (p + 2) == 1))

abbrev pub code_at : List ℕ → ℕ → ℕ
code_at stream p = slice_index stream (p + 3)

-- a sequence header or a group of pictures, one of which a stream begins with
abbrev pub is_head_code : ℕ → Bool
is_head_code code = code == 0xB3 || code == 0xB8

-- what belongs to a system stream
abbrev pub is_system_code : ℕ → Bool
is_system_code code = nat_le 0xB9 code

-- a picture, or one of the three codes around pictures, begins a piece
abbrev pub is_opener_code : ℕ → Bool
is_opener_code code = code == 0x00 || (code == 0xB3 || (code == 0xB7 || code == 0xB8))

abbrev pub is_opener : List ℕ → ℕ → Bool
is_opener stream p = is_start_code stream p && is_opener_code (code_at stream p)

abbrev pub is_picture : List ℕ → ℕ → Bool
is_picture stream p = is_start_code stream p && code_at stream p == 0x00

-- the three bits of a picture's type, behind ten bits of its temporal reference
abbrev pub type_at : List ℕ → ℕ → ℕ
type_at stream p = (slice_index stream (p + 5) / 8) % 8

-- the types of I, P, B and D pictures; 0 is forbidden, and 5 to 7 are reserved
abbrev pub is_type : ℕ → Bool
is_type t = nat_le 1 t && nat_le t 4
