-- The first packet that clashes, and the first group past the limit, group by group.
use Rattle.std.specs.Prelude.{is_none, if◌then◌else◌, nat_lt, sum_by}
use Rattle.std.proofs.Common.{◌≡◌, ℕ, ◌+◌, ◌≤◌, cond, Bool, true, false, List, [], ◌∷◌, Option, None, Some, refl, ap}
use Rattle.std.proofs.Common.{◌∙◌, arith}
use Rattle.std.proofs.lemmas.List.Sums.{sum_by-cons}
use Rattle.packet_set.specs.Packets.{Packets}
use Rattle.packet_verdicts.specs.KeptSet.{cost_in}
use Rattle.packet_verdicts.specs.Union.{first_past}
use Rattle.packet_verdicts.specs.GroupClash.{first_clash_in}
use Rattle.packet_receiver.specs.inside.Joining.{packets_at, clash_or, clash_from, new_of, cost_beside}

module _ (mine : List (ℕ × Packets)) where
  pub clash_next : (told : Option ℕ) (e : ℕ × Packets) (rest : List (ℕ × Packets))
      → clash_from told mine (e ∷ rest)
      ≡ clash_or e.0 (first_clash_in told (packets_at mine e.0) e.1) (clash_from told mine rest)
  unfolding clash_from
  clash_next told e rest = refl

  pub clash_end : (told : Option ℕ) → clash_from told mine [] ≡ None
  unfolding clash_from
  clash_end told = refl

  fits_by : (limit t n : ℕ) (b : Bool) → nat_lt limit (t + n) ≡ b → (m : ℕ)
      → (if b then None else Some (t + n)) ≡ Some m → (t + n ≡ m) × (m ≤ limit) × (nat_lt limit (t + n) ≡ false)
  fits_by limit t n true is m e = absurd (cc)
  fits_by limit t n false is m e = (same, omega (arith, same, low), is)
    where
      same : t + n ≡ m
      same = cc

      low : t + n ≤ limit
      low = grind (arith, is)

  next_by : (limit t m : ℕ) (e : ℕ × Packets) (rest : List (ℕ × Packets)) → t ≤ limit → (b : Bool)
      → cost_beside limit t b (cost_in e.1) ≡ Some m
      → (m ≤ limit) × (first_past limit t (cond b (e ∷ rest) rest) ≡ first_past limit m rest)
      × (t + sum_by (λ (x : ℕ × Packets). cost_in x.1) (cond b (e ∷ rest) rest)
      ≡ m + sum_by (λ (x : ℕ × Packets). cost_in x.1) rest)
  unfolding cost_beside first_past
  next_by limit t m e rest room false is =
      let same : t ≡ m = cc in (
        omega (arith, room, same),
        ap (λ n. first_past limit n rest) same,
        ap (λ n. n + sum_by (λ (x : ℕ × Packets). cost_in x.1) rest) same,
      )
  next_by limit t m e rest room true is =
      let f = fits_by limit t (cost_in e.1) (nat_lt limit (t + cost_in e.1)) refl m is in (
        f.1,
        ap (λ b. if b then Some e.0 else first_past limit (t + cost_in e.1) rest) f.2
            ∙ ap (λ n. first_past limit n rest) f.0,
        omega (arith, f.0, sum_by-cons (λ (x : ℕ × Packets). cost_in x.1) e rest),
      )

  pub beside_next : (limit t m : ℕ) (e : ℕ × Packets) (rest : List (ℕ × Packets)) → t ≤ limit
      → cost_beside limit t (is_none (packets_at mine e.0)) (cost_in e.1) ≡ Some m
      → (m ≤ limit) × (first_past limit t (new_of mine (e ∷ rest)) ≡ first_past limit m (new_of mine rest))
      × (t + sum_by (λ x. cost_in x.1) (new_of mine (e ∷ rest)) ≡ m + sum_by (λ x. cost_in x.1) (new_of mine rest))
  beside_next limit t m e rest room is = next_by limit t m e (new_of mine rest) room (is_none (packets_at mine e.0)) is

  stop_past : (limit t n : ℕ) (b : Bool) → (if b then None else Some (t + n)) ≡ None → b ≡ true
  stop_past limit t n true e = refl
  stop_past limit t n false e = absurd (cc)

  stop_by : (limit t : ℕ) (e : ℕ × Packets) (rest : List (ℕ × Packets)) → (b : Bool)
      → cost_beside limit t b (cost_in e.1) ≡ None → first_past limit t (cond b (e ∷ rest) rest) ≡ Some e.0
  unfolding cost_beside first_past
  stop_by limit t e rest false is = absurd (cc)
  stop_by limit t e rest true is =
      ap (λ b. if b then Some e.0 else first_past limit (t + cost_in e.1) rest)
      (stop_past limit t (cost_in e.1) (nat_lt limit (t + cost_in e.1)) is)

  pub beside_stop : (limit t : ℕ) (e : ℕ × Packets) (rest : List (ℕ × Packets))
      → cost_beside limit t (is_none (packets_at mine e.0)) (cost_in e.1) ≡ None
      → first_past limit t (new_of mine (e ∷ rest)) ≡ Some e.0
  beside_stop limit t e rest is = stop_by limit t e (new_of mine rest) (is_none (packets_at mine e.0)) is

  pub past_end : (limit t : ℕ) → first_past limit t (new_of mine []) ≡ None
  unfolding first_past
  past_end limit t = refl
