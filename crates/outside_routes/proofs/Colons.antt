-- A text that is looked through from its end: no colon stands behind.
use Rattle.std.proofs.Common.{◌≡◌, ℕ, suc, zero, ◌+◌, ◌-◌, ◌<◌, List, [], ◌∷◌, take, drop, length, get_or, drop-cons}
use Rattle.std.proofs.Common.{false, sym, ap, subst, ◌∙◌, arith}
use Rattle.std.proofs.lemmas.List.{length-drop}
use Rattle.std.proofs.Math.Seq.{take-length}
use Rattle.std.specs.Prelude.{Some, None, ◌==◌}
use Rattle.outside_routes.specs.Address.{behind_byte, cut_at_last_colon}

-- the last colon is this one
pub cut_here : (bytes : List ℕ) (at : ℕ) → at < length bytes → get_or bytes at 0 ≡ 58
    → cut_at_last_colon (drop (suc at) bytes) ≡ None
    → cut_at_last_colon bytes ≡ Some (take at bytes, drop (suc at) bytes)
cut_here [] at lt is none = absurd (omega (arith, lt))
cut_here (b ∷ bytes) zero lt is none = ap (behind_byte b bytes) none ∙ ap (λ (c : ℕ). behind_byte c bytes None) is
cut_here (b ∷ bytes) (suc at) lt is none = ap (behind_byte b bytes) (cut_here bytes at (omega (arith, lt)) is none)

-- one byte less that is no colon
pub none_before : (bytes : List ℕ) (at : ℕ) → at < length bytes → (get_or bytes at 0 == 58) ≡ false
    → cut_at_last_colon (drop (suc at) bytes) ≡ None → cut_at_last_colon (drop at bytes) ≡ None
none_before bytes at lt other none =
    ap cut_at_last_colon (drop-cons bytes at 0 lt) ∙ ap (behind_byte (get_or bytes at 0) (drop (suc at) bytes)) none
    ∙ grind (arith, other)

-- the same, as it is cut out of the bytes
pub cut_found : (bytes : List ℕ) (back at : ℕ) → at ≡ length bytes - 1 - back → back < length bytes
    → get_or bytes at 0 ≡ 58 → cut_at_last_colon (drop (length bytes - back) bytes) ≡ None
    → Some (take at bytes, take (length bytes - (at + 1)) (drop (at + 1) bytes)) ≡ cut_at_last_colon bytes
cut_found bytes back at is lt colon none =
    let after : length bytes - back ≡ suc at = omega (arith, is, lt) in
    let here : at < length bytes = omega (arith, is, lt) in
    let whole : take (length bytes - (at + 1)) (drop (at + 1) bytes) ≡ drop (at + 1) bytes =
    ap (λ (n : ℕ). take n (drop (at + 1) bytes)) (sym (length-drop (at + 1) bytes))
    ∙ take-length (drop (at + 1) bytes) in
    let same : at + 1 ≡ suc at = omega arith in
    let next : drop (at + 1) bytes ≡ drop (suc at) bytes = ap (λ (n : ℕ). drop n bytes) same in
    ap (λ (rest : List ℕ). Some (take at bytes, rest)) (whole ∙ next)
    ∙ sym (cut_here bytes at here colon (subst (λ (n : ℕ). cut_at_last_colon (drop n bytes) ≡ None) after none))
