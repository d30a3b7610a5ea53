-- What callers know of the stream of `sample`: how long it is, that it has bytes alone, and that none of those that
-- fill a picture is 0.
use Rattle.std.proofs.Common.{◌≡◌, ℕ, zero, suc, ◌+◌, ◌*◌, ◌/◌, ◌%◌, ◌^◌, ◌<◌, ◌≤◌, List, [], ◌∷◌, length, refl}
use Rattle.std.proofs.Common.{ap, ◌∙◌, arith, rules, length-append}
use Rattle.std.specs.Prelude.{bit_or, All}
use Rattle.std.proofs.lemmas.Nat.{or_lt, or_mod}
use Rattle.std.proofs.lemmas.List.Elements.{All-nil, All-cons, All-append, All-head, All-tail}
use Rattle.stream_sample.specs.declared.groups.Picture.{Picture}
use Rattle.stream_sample.specs.declared.groups.TheConstants.{HEADERS, PICTURES}
use Rattle.stream_sample.specs.Filler.{next_state, byte_of, bytes_from}
use Rattle.stream_sample.specs.SampleStream.{picture_head, filled_in, picture_text, state_behind_picture, pictures_text}
use Rattle.stream_sample.specs.SampleStream.{group_text, state_behind_group, sample_text}

-- a byte that is not 0
abbrev pub IsFiller : ℕ → Type 0
IsFiller b = (0 < b) × (b < 256)

low_bit : (r : ℕ) → r < 2 → bit_or r 1 ≡ 1
low_bit zero small = refl
low_bit (suc zero) small = refl
low_bit (suc (suc r)) small = absurd (omega arith)

filler_byte : (x : ℕ) → x < 2 ^ 64 → IsFiller (byte_of x)
filler_byte x small =
    let high : x / 2 ^ 56 < 2 ^ 8 = omega (arith, small) in
    let odd : byte_of x % 2 ^ 1 ≡ 1 = or_mod (x / 2 ^ 56) 1 1 ∙ low_bit (x / 2 ^ 56 % 2 ^ 1) (omega arith) in
    (omega (arith, odd), or_lt 8 (x / 2 ^ 56) 1 high (omega arith))

next_small : (x : ℕ) → next_state x < 2 ^ 64
next_small x = omega arith

-- for callers
pub fillers : (x n : ℕ) → All IsFiller (bytes_from x n)
unfolding bytes_from
fillers x zero = All-nil IsFiller
fillers x (suc n) =
    All-cons IsFiller (byte_of (next_state x)) (bytes_from (next_state x) n)
    (filler_byte (next_state x) (next_small x)) (fillers (next_state x) n)

pub filler_length : (x n : ℕ) → length (bytes_from x n) ≡ n
unfolding bytes_from
filler_length x zero = refl
filler_length x (suc n) = ap suc (filler_length (next_state x) n)

-- a picture has its head, and then as many bytes as it says
pub picture_length : (x : ℕ) (p : Picture) → 12 ≤ p.size → length (picture_text x p) ≡ p.size
unfolding picture_text
picture_length x p long =
    length-append (picture_head p.kind) (bytes_from x (filled_in p))
    ∙ ap (λ n. 12 + n) (filler_length x (filled_in p)) ∙ omega (arith, long)

-- each has room for its head, and its kind is a byte
abbrev pub AreFit : List Picture → Type 0
AreFit [] = Unit {0}
AreFit (p ∷ ps) = ((12 ≤ p.size) × (p.kind < 256)) × AreFit ps

-- the bytes of all
abbrev pub sizes_sum : List Picture → ℕ
sizes_sum [] = 0
sizes_sum (p ∷ ps) = p.size + sizes_sum ps

pub pictures_length : (x : ℕ) (ps : List Picture) → AreFit ps → length (pictures_text x ps) ≡ sizes_sum ps
unfolding pictures_text
pictures_length x [] fit = refl
pictures_length x (p ∷ ps) fit =
    length-append (picture_text x p) (pictures_text (state_behind_picture x p) ps)
    ∙ ap (λ n. n + length (pictures_text (state_behind_picture x p) ps)) (picture_length x p fit.0.0)
    ∙ ap (λ n. p.size + n) (pictures_length (state_behind_picture x p) ps fit.1)

fit : AreFit PICTURES
fit = ((omega arith, omega arith), ((omega arith, omega arith), ((omega arith, omega arith), ((omega arith, omega arith), ((omega arith, omega arith), ((omega arith, omega arith), ((omega arith, omega arith), ((omega arith, omega arith), ((omega arith, omega arith), ((omega arith, omega arith), tt))))))))))

pub group_length : (x : ℕ) → length (group_text x) ≡ 71961
unfolding group_text
group_length x =
    length-append HEADERS (pictures_text x PICTURES)
    ∙ ap (λ n. 20 + n) (pictures_length x PICTURES fit)

pub sample_length : (x groups : ℕ) → length (sample_text x groups) ≡ groups * 71961
unfolding sample_text
sample_length x zero = refl
sample_length x (suc groups) =
    length-append (group_text x) (sample_text (state_behind_group x) groups)
    ∙ ap (λ n. n + length (sample_text (state_behind_group x) groups)) (group_length x)
    ∙ ap (λ n. 71961 + n) (sample_length (state_behind_group x) groups) ∙ omega arith

-- a byte
abbrev pub IsByte : ℕ → Type 0
IsByte b = b < 256

each_below : (bytes : List ℕ) → All IsFiller bytes → All IsByte bytes
each_below [] all = All-nil IsByte
each_below (b ∷ bytes) all =
    All-cons IsByte b bytes (All-head IsFiller b bytes all).1 (each_below bytes (All-tail IsFiller b bytes all))

head_bytes : (kind : ℕ) → kind < 256 → All IsByte (picture_head kind)
head_bytes kind small = search rules

pub picture_bytes : (x : ℕ) (p : Picture) → p.kind < 256 → All IsByte (picture_text x p)
unfolding picture_text
picture_bytes x p small =
    All-append IsByte (picture_head p.kind) (bytes_from x (filled_in p)) (head_bytes p.kind small)
    (each_below (bytes_from x (filled_in p)) (fillers x (filled_in p)))

pub pictures_bytes : (x : ℕ) (ps : List Picture) → AreFit ps → All IsByte (pictures_text x ps)
unfolding pictures_text
pictures_bytes x [] fit = All-nil IsByte
pictures_bytes x (p ∷ ps) fit =
    All-append IsByte (picture_text x p) (pictures_text (state_behind_picture x p) ps) (picture_bytes x p fit.0.1)
    (pictures_bytes (state_behind_picture x p) ps fit.1)

header_bytes : All IsByte HEADERS
header_bytes = search rules

pub sample_bytes : (x groups : ℕ) → All IsByte (sample_text x groups)
unfolding sample_text group_text
sample_bytes x zero = All-nil IsByte
sample_bytes x (suc groups) =
    All-append IsByte (group_text x) (sample_text (state_behind_group x) groups)
    (All-append IsByte HEADERS (pictures_text x PICTURES) header_bytes (pictures_bytes x PICTURES fit))
    (sample_bytes (state_behind_group x) groups)
