-- What a stream that begins with zero bytes decides about its head.
use Rattle.std.proofs.Common.{◌≡◌, ◌≢◌, ℕ, zero, suc, ◌+◌, ◌-◌, ◌<◌, ◌≤◌, Bool, true, false, List, [], ◌∷◌, ◌++◌}
use Rattle.std.proofs.Common.{length, replicate, get_or, refl, sym, ◌∙◌, ap, arith, ◌&&◌, ◌||◌, not, cond, ◌⊎◌, inl}
use Rattle.std.proofs.Common.{inr, append_assoc}
use Rattle.std.specs.Prelude.{slice_index, nat_lt, nat_le, ◌==◌}
use Rattle.std.proofs.lemmas.List.{get_or_append_left, get_or_at, append-nil, get_or-replicate, length-replicate}
use Rattle.std.proofs.lemmas.Bool.{cond-true, cond-false, cond_both, cases_Bool, ne_eqb, le-leb, lt-leb, leb-false}
use Rattle.std.proofs.lemmas.Bool.{cases_lt, and_parts, and_from, and_left, and_right, or_cases, or_from, or_left}
use Rattle.std.proofs.lemmas.Bool.{or_right, or_parts, not-true, not_from_false, not_from_true, ltb-true, lt-ltb}
use Rattle.std.proofs.lemmas.Bool.{eqb-false, eq-eqb}
use Rattle.mpeg_scan.specs.declared.refusal.Scan.TheVariants.{NoHead}
use Rattle.mpeg_scan.specs.StartCodes.{is_start_code, code_at, is_head_code, is_system_code}
use Rattle.mpeg_scan.specs.Refusals.{holds, decided_at, zeros, has_head}
use Rattle.mpeg_scan.specs.Scanning.{back, IsFront}
use Rattle.mpeg_scan.specs.laws.OpenerLaws.{stands, is_standing}
use Rattle.mpeg_scan.proofs.LastBytes.{at_back, at_end}
use Rattle.mpeg_scan.proofs.NextByte.{AtCode, AtType, code_stands, code_is, at_code_length, at_type_length, longer}

-- the zero bytes at the front, and those of what follows
zeros_replicate : (n : ℕ) (t : List ℕ) → zeros (replicate n 0 ++ t) ≡ n + zeros t
zeros_replicate zero t = omega arith
zeros_replicate (suc n) t = let ih = zeros_replicate n t in omega arith

zeros_at : (y : ℕ) (t : List ℕ) → y ≢ 0 → zeros (y ∷ t) ≡ 0
zeros_at y t ne = cond-false (y == 0) (1 + zeros t) 0 (ne_eqb y 0 ne)

zeros_at_zero : (t : List ℕ) → zeros (0 ∷ t) ≡ 1 + zeros t
zeros_at_zero t = refl

-- all zero
abbrev pub AllZero : List ℕ → Type 0
AllZero s = s ≡ replicate (length s) 0

-- zeros and a one
abbrev pub ZerosOne : List ℕ → Type 0
ZerosOne s = (3 ≤ length s) × (s ≡ replicate (length s - 1) 0 ++ 1 ∷ [])

pub zeros_all : (s t : List ℕ) → AllZero s → zeros (s ++ t) ≡ length s + zeros t
zeros_all s t e = ap (λ l. zeros (l ++ t)) e ∙ zeros_replicate (length s) t

pub zeros_one : (s t : List ℕ) → ZerosOne s → zeros (s ++ t) ≡ length s - 1
zeros_one s t h =
    ap (λ l. zeros (l ++ t)) h.1
    ∙ (ap zeros (append_assoc (replicate (length s - 1) 0) (1 ∷ []) t)
    ∙ (zeros_replicate (length s - 1) (1 ∷ t) ∙ omega arith))

-- which bytes come last there
pub all_zero_back : (s : List ℕ) (j : ℕ) → AllZero s → 1 ≤ j → j ≤ length s → back s j ≡ 0
all_zero_back s j e h le =
    sym (at_back s [] (length s - j) j (omega arith) h)
    ∙ (ap (λ l. get_or l (length s - j) 0) (append-nil s ∙ e)
    ∙ get_or-replicate (length s) (length s - j) 0 0 (omega arith))

pub zeros_one_back : (s : List ℕ) (j : ℕ) → ZerosOne s → 2 ≤ j → j ≤ length s → back s j ≡ 0
zeros_one_back s j h two le =
    let l = h.0 in
    sym (at_back s [] (length s - j) j (omega arith) (omega arith))
    ∙ (ap (λ l. get_or l (length s - j) 0) (append-nil s ∙ h.1)
    ∙ (get_or_append_left (replicate (length s - 1) 0) (1 ∷ []) 0 (length s - j)
    (omega (arith, length-replicate {A = ℕ} (length s - 1) 0))
    ∙ get_or-replicate (length s - 1) (length s - j) 0 0 (omega arith)))

pub zeros_one_last : (s : List ℕ) → ZerosOne s → back s 1 ≡ 1
zeros_one_last s h =
    let l = h.0 in
    sym (at_back s [] (length s - 1) 1 (omega arith) (omega arith))
    ∙ (ap (λ l. get_or l (length s - 1) 0) (append-nil s ∙ h.1)
    ∙ get_or_at (replicate (length s - 1) 0) 1 [] 0 (length s - 1) (length-replicate (length s - 1) 0))

pub all_zero_no_code : (s : List ℕ) → AllZero s → AtCode s → ⊥
all_zero_no_code s e h =
    let l = at_code_length s h in let z = all_zero_back s 1 e (omega arith) (omega arith) in let o = h.first in
    omega arith

pub all_zero_no_type : (s : List ℕ) → AllZero s → AtType s → ⊥
all_zero_no_type s e h =
    let l = at_type_length s h in let z = all_zero_back s 3 e (omega arith) (omega arith) in let o = h.third in
    omega arith

pub zeros_one_code : (s : List ℕ) → ZerosOne s → AtCode s
zeros_one_code s h =
    let l = h.0 in
    record {
      third = zeros_one_back s 3 h (omega arith) (omega arith);
      second = zeros_one_back s 2 h (omega arith) (omega arith);
      first = zeros_one_last s h;
    }

pub zeros_one_no_type : (s : List ℕ) → ZerosOne s → AtType s → ⊥
zeros_one_no_type s h k = let a = (zeros_one_code s h).third in let b = k.third in omega arith

pub front_no_type : (s : List ℕ) → IsFront s → AtType s → ⊥
front_no_type s (inl e) k = all_zero_no_type s e k
front_no_type s (inr h) k = zeros_one_no_type s h k

-- where the missing head is decided
no_head_at : (q len m : ℕ) (b : Bool) → cond (nat_lt q len && b) q (cond (nat_lt (q + 1) len) (q + 1) len) ≡ m
    → ((q ≡ m) × (b ≡ true)) ⊎ ((q + 1 ≡ m) ⊎ (len ≡ m))
no_head_at q len m b =
    cond_both (nat_lt q len && b) q (cond (nat_lt (q + 1) len) (q + 1) len)
    (λ v. v ≡ m → ((q ≡ m) × (b ≡ true)) ⊎ ((q + 1 ≡ m) ⊎ (len ≡ m)))
    (λ t e. inl (e, (and_parts _ b t).1))
    (λ _. cond_both (nat_lt (q + 1) len) (q + 1) len (λ v. v ≡ m → ((q ≡ m) × (b ≡ true)) ⊎ ((q + 1 ≡ m) ⊎ (len ≡ m)))
    (λ _ e. inr (inl e)) (λ _ e. inr (inr e)))

-- after zero bytes alone the next byte decides it where it isn't zero, and isn't a 1 behind two of them
pub no_head_all_zero : (s : List ℕ) (x : ℕ) (rest : List ℕ) (q : ℕ) → AllZero s → q ≡ zeros (s ++ x ∷ rest)
    → decided_at (s ++ x ∷ rest) (NoHead q) ≡ length s → (q ≡ length s) × (x ≢ 0) × ((length s < 2) ⊎ (x ≢ 1))
no_head_all_zero s x rest q z e d =
    let len = longer s x rest in
    let zs = zeros_all s (x ∷ rest) z in
    elim (no_head_at q (length (s ++ x ∷ rest)) (length s) (nat_lt q 2 || not (slice_index (s ++ x ∷ rest) q == 1)) d) [
      | inl h ↦ (
        h.0,
        λ is. let one : zeros (x ∷ rest) ≡ 1 + zeros rest = ap (λ y. zeros (y ∷ rest)) is in let a = h.0 in omega arith,
        elim (or_cases (nat_lt q 2) _ h.1) [
          | inl few ↦ inl (let lt = ltb-true q 2 few in let a = h.0 in omega arith)
          | inr other ↦ inr
              (λ is. eqb-false _ _ (not-true _ other)
              (ap (λ i. get_or (s ++ x ∷ rest) i 0) h.0 ∙ (at_end s x rest ∙ is)))
        ],
      )
      | inr (inl h) ↦ absurd (omega arith)
      | inr (inr h) ↦ absurd (omega arith)
    ]

pub has_head_one : (s : List ℕ) (x : ℕ) (rest : List ℕ) → ZerosOne s
    → has_head (s ++ x ∷ rest) ≡ (is_head_code x || is_system_code x)
has_head_one s x rest h =
    let l = h.0 in
    let z = zeros_one s (x ∷ rest) h in
    let p : zeros (s ++ x ∷ rest) - 2 ≡ length s - 3 = omega arith in
    let two : 2 ≤ zeros (s ++ x ∷ rest) = omega arith in
    let st = is_standing (s ++ x ∷ rest) (length s - 3) (code_stands s x rest (zeros_one_code s h)) in
    let c = code_is s x rest (length s - 3) (omega arith) in
    let S : List ℕ = s ++ x ∷ rest in
    ap (λ b. b && (is_start_code S (zeros S - 2)
    && (is_head_code (code_at S (zeros S - 2)) || is_system_code (code_at S (zeros S - 2))))) (le-leb 2 (zeros S) two)
    ∙ (ap (λ k. is_start_code S k && (is_head_code (code_at S k) || is_system_code (code_at S k))) p
    ∙ (ap (λ b. b && (is_head_code (code_at S (length s - 3)) || is_system_code (code_at S (length s - 3)))) st
    ∙ ap (λ y. is_head_code y || is_system_code y) c))

pub no_head_one : (s : List ℕ) (x : ℕ) (rest : List ℕ) (q : ℕ) → ZerosOne s → q ≡ zeros (s ++ x ∷ rest)
    → has_head (s ++ x ∷ rest) ≡ false → (q ≡ length s - 1) × (is_head_code x ≡ false) × (x < 0xB9)
no_head_one s x rest q h e none =
    let p = or_parts (is_head_code x) _ (sym (has_head_one s x rest h) ∙ none) in
    (e ∙ zeros_one s (x ∷ rest) h, p.0, leb-false _ _ p.1)

-- the refusals that are then decided
pub no_head_holds_zero : (s : List ℕ) (x : ℕ) (rest : List ℕ) → AllZero s → x ≢ 0 → (length s < 2) ⊎ (x ≢ 1)
    → (holds (s ++ x ∷ rest) (NoHead (length s)) ≡ true) × (decided_at (s ++ x ∷ rest) (NoHead (length s)) ≡ length s)
no_head_holds_zero s x rest z ne few =
    let S : List ℕ = s ++ x ∷ rest in
    let len = longer s x rest in
    let none : zeros (x ∷ rest) ≡ 0 = zeros_at x rest ne in
    let zs : zeros S ≡ length s = zeros_all s (x ∷ rest) z ∙ omega arith in
    let test : nat_lt (length s) 2 || not (slice_index S (length s) == 1) ≡ true =
    elim few [
      | inl lt ↦ or_left (nat_lt (length s) 2) _ (lt-ltb (length s) 2 lt)
      | inr other ↦ or_right (nat_lt (length s) 2) _
          (not_from_false _ (ne_eqb _ _ (λ is. other (sym (at_end s x rest) ∙ is))))
    ] in
    let none_head : has_head S ≡ false =
    elim few [
      | inl lt ↦ and_left (nat_le 2 (zeros S)) _ (lt-leb 2 (zeros S) (omega arith))
      | inr other ↦ elim (cases_lt (zeros S) 2) [
        | inl lt ↦ and_left (nat_le 2 (zeros S)) _ (lt-leb 2 (zeros S) lt)
        | inr two ↦ and_right (nat_le 2 (zeros S)) _
            (and_left (is_start_code S (zeros S - 2))
            (is_head_code (code_at S (zeros S - 2)) || is_system_code (code_at S (zeros S - 2)))
            (elim (cases_Bool (is_start_code S (zeros S - 2))) [
              | inl st ↦ absurd (other (sym (at_end s x rest)
                  ∙ (ap (λ i. get_or S i 0) (let e : length s ≡ (zeros S - 2) + 2 = omega arith in e)
                  ∙ (stands S (zeros S - 2) st).one)))
              | inr is ↦ is
            ]))
      ]
    ] in (
      and_from _ _ (eq-eqb _ _ (sym zs))
          (and_from _ _ (lt-ltb 0 (length S) (omega arith)) (not_from_false _ none_head)),
      cond-true (nat_lt (length s) (length S) && (nat_lt (length s) 2 || not (slice_index S (length s) == 1))) _ _
          (and_from _ _ (lt-ltb _ _ len) test),
    )

pub no_head_holds_one : (s : List ℕ) (x : ℕ) (rest : List ℕ) → ZerosOne s → is_head_code x ≡ false → x < 0xB9
    → (holds (s ++ x ∷ rest) (NoHead (length s - 1)) ≡ true)
    × (decided_at (s ++ x ∷ rest) (NoHead (length s - 1)) ≡ length s)
no_head_holds_one s x rest h other below =
    let S : List ℕ = s ++ x ∷ rest in
    let l = h.0 in
    let len = longer s x rest in
    let zs = zeros_one s (x ∷ rest) h in
    let q : ℕ = length s - 1 in
    let one : slice_index S q ≡ 1 = at_back s (x ∷ rest) q 1 (omega arith) (omega arith) ∙ zeros_one_last s h in
    let test : (nat_lt q 2 || not (slice_index S q == 1)) ≡ false =
    or_from (nat_lt q 2) _ (lt-leb (suc q) 2 (omega arith)) (not_from_true _ (eq-eqb _ _ one)) in (
      and_from _ _ (eq-eqb _ _ (sym zs)) (and_from _ _ (lt-ltb 0 (length S) (omega arith))
          (not_from_false _ (has_head_one s x rest h ∙ or_from _ _ other (lt-leb 0xB9 x below)))),
      cond-false (nat_lt q (length S) && (nat_lt q 2 || not (slice_index S q == 1))) _ _
          (and_right (nat_lt q (length S)) _ test)
          ∙ (cond-true (nat_lt (q + 1) (length S)) _ _ (lt-ltb _ _ (omega arith)) ∙ omega arith),
    )
