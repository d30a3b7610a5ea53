-- When two kept sets can be joined, for callers: exactly where they agree and the union's cost is within the limit.
use Rattle.std.specs.Prelude.{not, if◌then◌else◌, nat_lt}
use Rattle.std.proofs.Common.{◌≡◌, ℕ, ◌+◌, ◌≤◌, Bool, true, false, List, [], ◌∷◌, Option, None, Some, sum_by, refl, sym}
use Rattle.std.proofs.Common.{ap, ◌∙◌, arith}
use Rattle.std.specs.Str.{bytes_eq}
use Rattle.std.proofs.lemmas.Slice.Eq.{bytes_eq-Decides}
use Rattle.std.proofs.lemmas.List.Sums.{sum_by-cons}
use Rattle.packet_frame.specs.Frame.{Fields}
use Rattle.packet_frame.specs.View.{fields_with}
use Rattle.packet_set.specs.Packets.{Packets, slot_at}
use Rattle.packet_verdicts.specs.declared.union.Absorb.TheVariants.{OtherSession}
use Rattle.packet_verdicts.specs.KeptSet.{KeptSet, IsKeptSet, open_group, cost_in, cost_kept}
use Rattle.packet_verdicts.specs.Verdicts.{clashes}
use Rattle.packet_verdicts.specs.Union.{union, first_clash, first_past, first_full, new_groups, then_full, then_clash}
use Rattle.packet_verdicts.specs.Union.{absorb_fault}
use Rattle.packet_verdicts.specs.laws.FitLaws.{Agrees, no_clash, clash_none, frames_pass, pass_frames, some_frame}
use Rattle.packet_verdicts.specs.laws.UnionSound.{union_cost}

-- ---- the first group past the limit

past_by : (b : Bool) (group : ℕ) (later : Option ℕ) → (if b then Some group else later) ≡ None
    → (b ≡ false) × (later ≡ None)
past_by true group later e = absurd (cc)
past_by false group later e = (refl, e)

le_from : (limit cost : ℕ) → nat_lt limit cost ≡ false → cost ≤ limit
le_from limit cost e = grind (arith, e)

from_le : (limit cost : ℕ) → cost ≤ limit → nat_lt limit cost ≡ false
from_le limit cost l = grind (arith, l)

past_none : (limit cost : ℕ) (es : List (ℕ × Packets)) → cost ≤ limit → first_past limit cost es ≡ None
    → cost + sum_by (λ e. cost_in e.1) es ≤ limit
unfolding first_past
past_none limit cost [] l n = omega arith
past_none limit cost (e ∷ es) l n =
    let both = past_by (nat_lt limit (cost + cost_in e.1)) e.0 (first_past limit (cost + cost_in e.1) es) n in
    omega (
      arith,
      past_none limit (cost + cost_in e.1) es (le_from limit (cost + cost_in e.1) both.0) both.1,
      sum_by-cons (λ (t : ℕ × Packets). cost_in t.1) e es,
    )

none_past : (limit cost : ℕ) (es : List (ℕ × Packets)) → cost + sum_by (λ e. cost_in e.1) es ≤ limit
    → first_past limit cost es ≡ None
unfolding first_past
none_past limit cost [] l = refl
none_past limit cost (e ∷ es) l =
    let one = sum_by-cons (λ (t : ℕ × Packets). cost_in t.1) e es in
    ap (λ b. if b then Some e.0 else first_past limit (cost + cost_in e.1) es)
    (from_le limit (cost + cost_in e.1) (omega (arith, one, l)))
    ∙ none_past limit (cost + cost_in e.1) es (omega (arith, one, l))

-- ---- what it tells that they can be joined

record NoFault (s : Bool) (o : Option Fields) (p : Option ℕ) : Type 0 where
  same : s ≡ true
  clash : o ≡ None
  full : p ≡ None

no_fault : (s : Bool) (o : Option Fields) (p : Option ℕ)
    → (if not s then Some OtherSession else then_clash o (then_full p)) ≡ None → NoFault s o p
no_fault false o p e = absurd (cc)
no_fault true (Some f) p e = absurd (cc)
no_fault true None (Some group) e = absurd (cc)
no_fault true None None e = record { same = refl; clash = refl; full = refl }

module _ (a b : KeptSet) (kept : IsKeptSet a) (other : IsKeptSet b) where
  parts : absorb_fault a b ≡ None → NoFault (bytes_eq a.session b.session) (first_clash a b) (first_full a b)
  unfolding absorb_fault
  parts e = no_fault (bytes_eq a.session b.session) (first_clash a b) (first_full a b) e

  here_at : (group : ℕ) (p q : Packets) → open_group a group ≡ Some p → open_group b group ≡ Some q
      → open_group a q.header.group ≡ Some p
  here_at group p q o u = ap (open_group a) (other.groups group q u).same_group ∙ o

  agrees_by : a.session ≡ b.session
      → ((group : ℕ) (q : Packets) → open_group b group ≡ Some q → (i : ℕ) (payload : List ℕ)
      → slot_at q i ≡ Some payload → clashes a (fields_with q.header i payload) ≡ false)
      → Agrees a b
  agrees_by same each = record {
    session = same;
    count = λ g h p q o u.
        let f = some_frame q (other.groups h q u).some in
        (no_clash a (fields_with q.header f.0 f.1) (each h q u f.0 f.1 f.2)).count g p o;
    table = λ g p q o u.
        let f = some_frame q (other.groups g q u).some in
        (no_clash a (fields_with q.header f.0 f.1) (each g q u f.0 f.1 f.2)).table p (here_at g p q o u);
    payload = λ g p q o u i x y s t. (no_clash a (fields_with q.header i y) (each g q u i y t)).payload p
        (here_at g p q o u) x s;
  }

  pub fit_agrees : absorb_fault a b ≡ None → Agrees a b
  fit_agrees e =
      let none = parts e in
      agrees_by ((bytes_eq-Decides a.session b.session).0 none.same) (frames_pass (clashes a) b none.clash)

  pub fit_within : absorb_fault a b ≡ None → cost_kept (union a b) ≤ a.limit
  fit_within e =
      omega (
        arith,
        past_none a.limit (cost_kept a) (new_groups a b) kept.within (parts e).full,
        union_cost a b kept.rising other.rising,
      )

  none_clash : Agrees a b → first_clash a b ≡ None
  none_clash agrees =
      pass_frames (clashes a) b other
      (λ group q u i payload held. clash_none a (fields_with q.header i payload) kept (record {
        count = λ g p o. agrees.count g group p q o u;
        table = λ p o. agrees.table group p q (ap (open_group a) (sym (other.groups group q u).same_group) ∙ o) u;
        payload = λ p o x s. agrees.payload group p q
            (ap (open_group a) (sym (other.groups group q u).same_group) ∙ o) u i x payload s held;
      }))

  none_full : cost_kept (union a b) ≤ a.limit → first_full a b ≡ None
  none_full within =
      none_past a.limit (cost_kept a) (new_groups a b) (omega (arith, union_cost a b kept.rising other.rising, within))

  pub fits : Agrees a b → cost_kept (union a b) ≤ a.limit → absorb_fault a b ≡ None
  unfolding absorb_fault
  fits agrees within =
      ap (λ s. if not s then Some OtherSession else then_clash (first_clash a b) (then_full (first_full a b)))
      ((bytes_eq-Decides a.session b.session).1 agrees.session)
      ∙ ap (λ o. then_clash o (then_full (first_full a b))) (none_clash agrees)
      ∙ ap then_full (none_full within)
