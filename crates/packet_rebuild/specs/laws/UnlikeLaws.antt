-- The least packet that is kept with another payload, range by range, and one packet.
use Rattle.std.proofs.Common.{◌≡◌, ℕ, ◌+◌, ◌<◌, ◌≤◌, ◌-◌, true, false, Option, None, Some, refl, sym, ap, ◌∙◌}
use Rattle.std.proofs.Common.{arith}
use Rattle.std.specs.Prelude.{is_some}
use Rattle.std.specs.List.{find, range_with_len}
use Rattle.field_elements.specs.Field.{Coding}
use Rattle.packet_session.specs.Encoding.{Encoding}
use Rattle.packet_verdicts.specs.KeptSet.{KeptSet}
use Rattle.packet_rebuild.specs.Repairs.{is_unlike, unlike_in, first_unlike_of}
use Rattle.packet_rebuild.specs.laws.RangeLaws.{range_append, find_append, find_found, find_more, find_here}

module _ {E : Type 0} (c : Coding E) (set : KeptSet) (e : Encoding) where
  -- none below a number, and none at it
  pub unlike_more : (first n : ℕ) → unlike_in c set e first n ≡ None → is_unlike c set e (first + n) ≡ false
      → unlike_in c set e first (n + 1) ≡ None
  unlike_more first n none out = find_more (is_unlike c set e) first n none out

  pub unlike_here : (first n count : ℕ) → n < count → unlike_in c set e first n ≡ None
      → is_unlike c set e (first + n) ≡ true → unlike_in c set e first count ≡ Some (first + n)
  unlike_here first n count lt none here = find_here (is_unlike c set e) first n count lt none here

  -- none in a range and none in the next
  pub unlike_then : (a first b k : ℕ) → unlike_in c set e 0 a ≡ None → first ≡ a → unlike_in c set e first b ≡ None
      → k ≡ a + b → unlike_in c set e 0 k ≡ None
  unlike_then a first b k none at then total =
      let start : 0 + a ≡ first = omega (arith, at) in
      ap (λ (k : ℕ). unlike_in c set e 0 k) total ∙ ap (find (is_unlike c set e)) (range_append 0 a b)
      ∙ find_append (is_unlike c set e) (range_with_len 0 a) (range_with_len (0 + a) b) none
      ∙ ap (λ (i : ℕ). unlike_in c set e i b) start ∙ then

  -- none in a range, and one in the next
  pub unlike_found : (a b : ℕ) (o : Option ℕ) → unlike_in c set e 0 a ≡ None → o ≡ unlike_in c set e a b
      → is_some o ≡ true → a + b ≤ e.header.table.packets → o ≡ first_unlike_of c set e
  unfolding first_unlike_of
  unlike_found a b None none is some le = absurd cc
  unlike_found a b (Some n) none is some le =
      let start : 0 + a ≡ a = omega arith in
      let rest = e.header.table.packets - (a + b) in
      let total : e.header.table.packets ≡ (a + b) + rest = omega (arith, le) in
      let front : find (is_unlike c set e) (range_with_len 0 (a + b)) ≡ Some n =
      ap (find (is_unlike c set e)) (range_append 0 a b) ∙ find_append (is_unlike c set e) (range_with_len 0 a)
      (range_with_len (0 + a) b) none ∙ ap (λ (i : ℕ). unlike_in c set e i b) start ∙ sym is in
      sym (ap (λ (k : ℕ). unlike_in c set e 0 k) total ∙ ap (find (is_unlike c set e)) (range_append 0 (a + b) rest)
      ∙ find_found (is_unlike c set e) (range_with_len 0 (a + b)) (range_with_len (0 + (a + b)) rest) n front)

  pub none_unlike : (a : ℕ) → unlike_in c set e 0 a ≡ None → a ≡ e.header.table.packets
      → None ≡ first_unlike_of c set e
  unfolding first_unlike_of
  none_unlike a none at = sym (ap (λ (k : ℕ). unlike_in c set e 0 k) (sym at) ∙ none)

pub not_some : (o : Option ℕ) → is_some o ≡ false → o ≡ None
not_some None e = refl
not_some (Some n) e = absurd cc
