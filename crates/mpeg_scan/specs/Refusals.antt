-- What is refused as a stream, and at which byte that is decided (this project's own, over the start codes of ISO/IEC
-- 11172-2). The end
-- counts as the byte behind the last.
use Rattle.std.specs.Prelude.{◌≡◌, ℕ, ◌+◌, ◌-◌, ◌<◌, ◌≤◌, Bool, false, not, ◌&&◌, ◌||◌, ◌⊎◌, List, ◌++◌, length}
use Rattle.std.specs.Prelude.{slice_index, IsTrue, ◌==◌, nat_lt, nat_le, if◌then◌else◌}
use Rattle.std.specs.List.{prefix_len}
use Rattle.pet_base.specs.declared.limits.TheConstants.{MAX_STREAM}
use Rattle.mpeg_scan.specs.declared.refusal.Scan.{Scan}
use Rattle.mpeg_scan.specs.declared.refusal.Scan.TheVariants.{Empty, NoHead, System, PictureType, ShortPicture, TooLong}
use Rattle.mpeg_scan.specs.declared.refusal.Scan.TheVariants.{NoMemory}
use Rattle.mpeg_scan.specs.StartCodes.{is_start_code, code_at, is_head_code, is_system_code, is_picture, type_at}
use Rattle.mpeg_scan.specs.StartCodes.{is_type}

-- the longest stream, in bytes
abbrev pub max_stream : ℕ
max_stream = MAX_STREAM

-- how many zero bytes stand at the front
abbrev pub zeros : List ℕ → ℕ
zeros stream = prefix_len (λ x. x == 0) stream

-- the first byte that isn't zero ends a start code that a stream may begin with, or one of a system stream
abbrev pub has_head : List ℕ → Bool
has_head stream =
    let p = zeros stream - 2 in
    nat_le 2 (zeros stream)
    && (is_start_code stream p && (is_head_code (code_at stream p) || is_system_code (code_at stream p)))

-- the refusal holds of the stream
abbrev pub holds : List ℕ → Scan → Bool
holds stream Empty = length stream == 0
holds stream (NoHead q) = q == zeros stream && (nat_lt 0 (length stream) && not (has_head stream))
holds stream (System p) = is_start_code stream p && is_system_code (code_at stream p)
holds stream (PictureType p t) =
    is_picture stream p && (nat_lt (p + 5) (length stream) && (t == type_at stream p && not (is_type t)))
holds stream (ShortPicture p) = is_picture stream p && nat_le (length stream) (p + 5)
holds stream TooLong = nat_lt max_stream (length stream)
holds stream NoMemory = false

-- the byte at which it is decided
abbrev pub decided_at : List ℕ → Scan → ℕ
decided_at stream Empty = length stream
decided_at stream (NoHead q) =
    if nat_lt q (length stream) && (nat_lt q 2 || not (slice_index stream q == 1)) then q
    else (if nat_lt (q + 1) (length stream) then q + 1 else length stream)
decided_at stream (System p) = p + 3
decided_at stream (PictureType p t) = p + 5
decided_at stream (ShortPicture p) = length stream
decided_at stream TooLong = max_stream
decided_at stream NoMemory = length stream

-- the one is decided at an earlier byte, or is TooLong at the same byte
abbrev pub ComesBefore : List ℕ → Scan → Scan → Type 0
ComesBefore stream TooLong other = decided_at stream TooLong ≤ decided_at stream other
ComesBefore stream scan other = decided_at stream scan < decided_at stream other

-- the stream's refusal: it holds, and each other that holds comes after it
pub record Refuses (stream : List ℕ) (scan : Scan) : Type 0 where
  pub holding : IsTrue (holds stream scan)
  pub first : (other : Scan) → IsTrue (holds stream other) → (other ≡ scan) ⊎ ComesBefore stream scan other

-- the stream is refused so, and where it is too long already, so it is however it goes on
abbrev pub IsRefusal : List ℕ → Scan → Type 0
IsRefusal stream scan =
    Refuses stream scan × (max_stream < length stream → (rest : List ℕ) → Refuses (stream ++ rest) scan)

-- a stream without a refusal
abbrev pub IsAccepted : List ℕ → Type 0
IsAccepted stream = (scan : Scan) → holds stream scan ≡ false

-- nothing of the stream is refused so far: each refusal, however it goes on, is decided behind what was read
abbrev pub IsUndecided : List ℕ → Type 0
IsUndecided stream =
    (rest : List ℕ) (scan : Scan) → IsTrue (holds (stream ++ rest) scan)
    → length stream ≤ decided_at (stream ++ rest) scan
