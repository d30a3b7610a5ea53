-- The eight bytes of a session number, read one after the other.
use Rattle.std.proofs.Common.{◌≡◌, ℕ, suc, ◌+◌, ◌*◌, ◌<◌, List, [], ◌∷◌, ◌++◌, length, get_or, take, drop, Option, None}
use Rattle.std.proofs.Common.{Some, refl, sym, ap, ◌∙◌, append_assoc, drop-cons, arith}
use Rattle.std.proofs.Math.ListN.{set}
use Rattle.std.proofs.lemmas.Grind.{take-set_at}
use Rattle.std.proofs.lemmas.List.{append-nil, take_all, drop_all}
use Rattle.std.specs.Prelude.{option_map}
use Rattle.pet_text.specs.Words.{bytes_of, byte_of, byte_before, digit_of, session_of}

-- bytes, and behind them those that further digits spell
abbrev pub followed : List ℕ → Option (List ℕ) → Option (List ℕ)
followed front rest = option_map (λ bytes. front ++ bytes) rest

-- none at first
pub followed_first : (rest : Option (List ℕ)) → rest ≡ followed [] rest
followed_first None = refl
followed_first (Some bytes) = refl

followed_more : (bytes : List ℕ) (at b : ℕ) (rest : Option (List ℕ)) → at < length bytes
    → followed (take at bytes) (byte_before (Some b) rest) ≡ followed (take (at + 1) (set bytes at b)) rest
followed_more bytes at b None inside = refl
followed_more bytes at b (Some rest) inside =
    ap Some (sym (append_assoc (take at bytes) (b ∷ []) rest)
    ∙ ap (λ (front : List ℕ). front ++ rest) (sym (take-set_at bytes at (at + 1) b refl inside)))

-- the digits from a place on: the byte of two, before those of the others
two_first : (digits : List ℕ) (i j n : ℕ) → j ≡ suc i → n ≡ suc j → j < length digits
    → bytes_of (drop i digits)
    ≡ byte_before (byte_of (digit_of (get_or digits i 0)) (digit_of (get_or digits j 0))) (bytes_of (drop n digits))
two_first digits i j n next after inside =
    let first : drop i digits ≡ get_or digits i 0 ∷ drop (suc i) digits = drop-cons digits i 0 (omega arith) in
    let second : drop j digits ≡ get_or digits j 0 ∷ drop (suc j) digits = drop-cons digits j 0 inside in
    rw after (rw (← next) at (ap bytes_of first) ∙ ap (λ (rest : List ℕ). bytes_of (get_or digits i 0 ∷ rest)) second)

-- So much of the digits has been read: these bytes, and the rest from here on.
module _ (digits bytes : List ℕ) (at : ℕ) (few : at < 8) (eight : length bytes ≡ 8) (sixteen : length digits ≡ 16)
    (so_far : bytes_of digits ≡ followed (take at bytes) (bytes_of (drop (2 * at) digits))) where
  two_here : bytes_of (drop (2 * at) digits)
      ≡ byte_before (byte_of (digit_of (get_or digits (2 * at) 0)) (digit_of (get_or digits (2 * at + 1) 0)))
      (bytes_of (drop (2 * (at + 1)) digits))
  two_here = two_first digits (2 * at) (2 * at + 1) (2 * (at + 1)) (omega arith) (omega arith) (omega arith)

  -- one byte more
  pub byte_more : (b : ℕ)
      → byte_of (digit_of (get_or digits (2 * at) 0)) (digit_of (get_or digits (2 * at + 1) 0)) ≡ Some b
      → bytes_of digits ≡ followed (take (at + 1) (set bytes at b)) (bytes_of (drop (2 * (at + 1)) digits))
  byte_more b is =
      so_far ∙ ap (followed (take at bytes))
      (two_here ∙ ap (λ (o : Option ℕ). byte_before o (bytes_of (drop (2 * (at + 1)) digits))) is)
      ∙ followed_more bytes at b (bytes_of (drop (2 * (at + 1)) digits)) (omega arith)

  -- two digits that are no byte
  pub no_byte : byte_of (digit_of (get_or digits (2 * at) 0)) (digit_of (get_or digits (2 * at + 1) 0)) ≡ None
      → bytes_of digits ≡ None
  no_byte none =
      so_far ∙ ap (followed (take at bytes))
      (two_here ∙ ap (λ (o : Option ℕ). byte_before o (bytes_of (drop (2 * (at + 1)) digits))) none)

-- all have been read
pub all_read : (digits bytes : List ℕ) (at : ℕ) → at ≡ 8 → length bytes ≡ 8 → length digits ≡ 16
    → bytes_of digits ≡ followed (take at bytes) (bytes_of (drop (2 * at) digits)) → bytes_of digits ≡ Some bytes
all_read digits bytes at all eight sixteen so_far =
    so_far ∙ ap (λ (rest : List ℕ). followed (take at bytes) (bytes_of rest)) (drop_all (2 * at) digits (omega arith))
    ∙ ap Some (append-nil (take at bytes) ∙ take_all at bytes (omega arith))

-- sixteen digits
pub of_sixteen : (digits word : List ℕ) (session : Option (List ℕ)) → length digits ≡ 16 → digits ≡ word
    → bytes_of digits ≡ session → session ≡ session_of word
of_sixteen digits word session sixteen same is =
    let long : length word ≡ 16 = ap length (sym same) ∙ sixteen in
    rw long (sym is ∙ ap bytes_of same)
