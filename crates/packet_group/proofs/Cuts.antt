-- The stripes of the plan stand on end, and so a part of a row that is written anew is in one of them.
use Rattle.std.proofs.Common.{◌≡◌, ◌≢◌, ℕ, zero, suc, ◌+◌, ◌-◌, ◌<◌, ◌≤◌, Bool, true, false, if◌then◌else◌, nat_lt}
use Rattle.std.proofs.Common.{List, [], ◌∷◌, length, get_or, take, drop, sym, ap, ◌∙◌, arith, inl, inr}
use Rattle.std.proofs.lemmas.Bool.{cases_lt}
use Rattle.std.proofs.Math.ListN as M
use Rattle.std.proofs.lemmas.List.{length-map, get_or-map, drop-drop, drop-take, take-take, drop_more, drop_all}
use Rattle.pet_interp.specs.Progressive.{Held, stripe_of, lengths_of}
use Rattle.stripe_plan.specs.declared.layer.LayerSize.{LayerSize}
use Rattle.stripe_plan.specs.Layers.{needs_of, plan_ends, plan_stripes, stripes_from}
use Rattle.stripe_plan.specs.Plan.{fits, longest_fit, ends_within, plan_from}
use Rattle.stripe_plan.specs.Stripes.{stripes_of}
use Rattle.packet_session.specs.Payload.{cut_in_stripes}
use Rattle.packet_group.specs.OpenGroup.{stripe_lengths}
use Rattle.packet_group.proofs.Rows.{IsWritten}

-- ---- where the stripes stand

-- each end is no less than the one before it, and the last no more than `top`
abbrev pub IsRising : ℕ → List ℕ → ℕ → Type 0
IsRising start [] top = start ≤ top
IsRising start (end ∷ ends) top = (start ≤ end) × IsRising end ends top

chosen-le : (b : Bool) (m n : ℕ) → n ≤ m → (if b then suc m else n) ≤ suc m
chosen-le true m n l = omega arith
chosen-le false m n l = omega arith

longest_within : (needs : List ℕ) (start most : ℕ) → longest_fit needs start most ≤ most
longest_within needs start zero = omega arith
longest_within needs start (suc most) =
    chosen-le (fits needs start (suc most)) most (longest_fit needs start most) (longest_within needs start most)

either_rises : (b : Bool) (start end top : ℕ) (ends : List ℕ) → start ≤ end → start ≤ top → IsRising end ends top
    → IsRising start (if b then end ∷ ends else []) top
either_rises true start end top ends l m h = (l, h)
either_rises false start end top ends l m h = m

ends_rise : (fuel : ℕ) (needs : List ℕ) (start : ℕ) → start ≤ length needs
    → IsRising start (ends_within fuel needs start) (length needs)
ends_rise zero needs start l = l
ends_rise (suc fuel) needs start l =
    let size = longest_fit needs start (length needs - start) in
    let short : size ≤ length needs - start = longest_within needs start (length needs - start) in
    either_rises (nat_lt start (length needs)) start (start + size) (length needs)
    (ends_within fuel needs (start + size)) (omega arith) l
    (ends_rise fuel needs (start + size) (omega arith))

-- stripes on end: each begins no earlier than each before it ends, and none ends after `top`
pub record AreOnEnd (start : ℕ) (stripes : List (ℕ × ℕ)) (top : ℕ) : Type 0 where
  pub later : (j : ℕ) → j < length stripes → start ≤ (get_or stripes j (0, 0)).0
  pub inside : (j : ℕ) → j < length stripes → (get_or stripes j (0, 0)).0 + (get_or stripes j (0, 0)).1 ≤ top
  pub before : (i j : ℕ) → i < j → j < length stripes
      → (get_or stripes i (0, 0)).0 + (get_or stripes i (0, 0)).1 ≤ (get_or stripes j (0, 0)).0

rising_top : (start : ℕ) (ends : List ℕ) (top : ℕ) → IsRising start ends top → start ≤ top
rising_top start [] top h = h
rising_top start (end ∷ ends) top h = omega (arith, h.0, rising_top end ends top h.1)

stripes_later : (start : ℕ) (ends : List ℕ) (top : ℕ) → IsRising start ends top → (j : ℕ)
    → j < length (stripes_of start ends) → start ≤ (get_or (stripes_of start ends) j (0, 0)).0
stripes_later start [] top h j l = absurd (omega arith)
stripes_later start (end ∷ ends) top h zero l = omega arith
stripes_later start (end ∷ ends) top h (suc j) l = omega (arith, h.0, stripes_later end ends top h.1 j (omega arith))

stripes_inside : (start : ℕ) (ends : List ℕ) (top : ℕ) → IsRising start ends top → (j : ℕ)
    → j < length (stripes_of start ends)
    → (get_or (stripes_of start ends) j (0, 0)).0 + (get_or (stripes_of start ends) j (0, 0)).1 ≤ top
stripes_inside start [] top h j l = absurd (omega arith)
stripes_inside start (end ∷ ends) top h zero l = omega (arith, h.0, rising_top end ends top h.1)
stripes_inside start (end ∷ ends) top h (suc j) l = stripes_inside end ends top h.1 j (omega arith)

stripes_before : (start : ℕ) (ends : List ℕ) (top : ℕ) → IsRising start ends top → (i j : ℕ) → i < j
    → j < length (stripes_of start ends)
    → (get_or (stripes_of start ends) i (0, 0)).0 + (get_or (stripes_of start ends) i (0, 0)).1
    ≤ (get_or (stripes_of start ends) j (0, 0)).0
stripes_before start [] top h i j b l = absurd (omega arith)
stripes_before start (end ∷ ends) top h i zero b l = absurd (omega arith)
stripes_before start (end ∷ ends) top h zero (suc j) b l =
    omega (arith, h.0, stripes_later end ends top h.1 j (omega arith))
stripes_before start (end ∷ ends) top h (suc i) (suc j) b l =
    stripes_before end ends top h.1 i j (omega arith) (omega arith)

plan_rises : (layers : List LayerSize) → IsRising 0 (plan_ends layers) (length (needs_of layers))
unfolding plan_from
plan_rises layers = ends_rise (length (needs_of layers)) (needs_of layers) 0 (omega arith)

pub plan_on_end : (layers : List LayerSize) → AreOnEnd 0 (plan_stripes layers) (length (needs_of layers))
unfolding stripes_from
plan_on_end layers =
    let rises = plan_rises layers in
    record {
      later = stripes_later 0 (plan_ends layers) (length (needs_of layers)) rises;
      inside = stripes_inside 0 (plan_ends layers) (length (needs_of layers)) rises;
      before = stripes_before 0 (plan_ends layers) (length (needs_of layers)) rises;
    }

-- ---- the stripes of a row

pub cut_at : {E : Type 0} (layers : List LayerSize) (row : List E) (j : ℕ) → j < length (plan_stripes layers)
    → get_or (cut_in_stripes layers row) j []
    ≡ take (get_or (plan_stripes layers) j (0, 0)).1 (drop (get_or (plan_stripes layers) j (0, 0)).0 row)
cut_at layers row j l = get_or-map (λ (s : ℕ × ℕ). take s.1 (drop s.0 row)) (plan_stripes layers) j (0, 0) [] l

pub length-cut : {E : Type 0} (layers : List LayerSize) (row : List E)
    → length (cut_in_stripes layers row) ≡ length (plan_stripes layers)
length-cut layers row = length-map (plan_stripes layers) (λ (s : ℕ × ℕ). take s.1 (drop s.0 row))

front_part : {E : Type 0} (row : List E) (a s l : ℕ) → s + l ≤ a → take l (drop s (take a row)) ≡ take l (drop s row)
front_part row a s l h =
    let e : s + (a - s) ≡ a = omega arith in
    ap (λ t. take l (drop s (take t row))) (sym e) ∙ ap (take l) (drop-take s (a - s) row)
    ∙ take-take l (a - s) (drop s row) (omega arith)

rest_part : {E : Type 0} (row : List E) (a s : ℕ) → a ≤ s → drop (s - a) (drop a row) ≡ drop s row
rest_part row a s h =
    let e : a + (s - a) ≡ s = omega arith in
    drop-drop (s - a) a row ∙ ap (λ t. drop t row) e

module _ {E : Type 0} (layers : List LayerSize) (row new : List E) (j : ℕ) (cs : List E)
    (inside : j < length (plan_stripes layers))
    (size : length cs ≡ (get_or (plan_stripes layers) j (0, 0)).1)
    (w : IsWritten row new (get_or (plan_stripes layers) j (0, 0)).0 cs) where
  pub cut_written : get_or (cut_in_stripes layers new) j [] ≡ cs
  cut_written =
      cut_at layers new j inside ∙ ap (λ k. take k (drop (get_or (plan_stripes layers) j (0, 0)).0 new)) (sym size)
      ∙ w.words

  pub cut_other : (i : ℕ) → i < length (plan_stripes layers) → i ≢ j
      → get_or (cut_in_stripes layers new) i [] ≡ get_or (cut_in_stripes layers row) i []
  cut_other i l ne =
      let s = get_or (plan_stripes layers) i (0, 0) in
      let t = get_or (plan_stripes layers) j (0, 0) in
      let order = plan_on_end layers in
      cut_at layers new i l
      ∙ elim (cases_lt i j) [
        | inl first ↦
            let b : s.0 + s.1 ≤ t.0 = order.before i j first inside in
            sym (front_part new t.0 s.0 s.1 b) ∙ ap (λ x. take s.1 (drop s.0 x)) w.front ∙ front_part row t.0 s.0 s.1 b
        | inr other ↦
            let after : j < i = omega arith in
            let b : t.0 + t.1 ≤ s.0 = order.before j i after l in
            let a : t.0 + length cs ≤ s.0 = omega arith in
            sym (ap (take s.1) (rest_part new (t.0 + length cs) s.0 a))
            ∙ ap (λ x. take s.1 (drop (s.0 - (t.0 + length cs)) x)) w.rest
            ∙ ap (take s.1) (rest_part row (t.0 + length cs) s.0 a)
      ]
      ∙ sym (cut_at layers row i l)

-- ---- what a progressive state's stripes have in common with the plan's

pub record HasSizes {E : Type 0} (held : Held E) (layers : List LayerSize) : Type 0 where
  pub count : length held.stripes ≡ length (plan_stripes layers)
  pub each : (j : ℕ) → length (stripe_of held j) ≡ (get_or (plan_stripes layers) j (0, 0)).1

pub sizes_are : {E : Type 0} (held : Held E) (layers : List LayerSize) → lengths_of held ≡ stripe_lengths layers
    → HasSizes held layers
sizes_are held layers e = record {
  count = sym (length-map held.stripes length) ∙ ap length e ∙ length-map (plan_stripes layers) (λ (s : ℕ × ℕ). s.1);
  each = λ j. sym (M.get_or-map length held.stripes j []) ∙ ap (λ l. get_or l j 0) e
      ∙ M.get_or-map (λ (s : ℕ × ℕ). s.1) (plan_stripes layers) j (0, 0);
}

-- where a list from a place on begins with y
pub record IsNext {X : Type 0} (xs : List X) (i : ℕ) (d y : X) (ys : List X) : Type 0 where
  pub inside : i < length xs
  pub here : get_or xs i d ≡ y
  pub rest : drop (i + 1) xs ≡ ys

pub next_from : {X : Type 0} (xs : List X) (i : ℕ) (d y : X) (ys : List X) → drop i xs ≡ y ∷ ys → IsNext xs i d y ys
next_from xs i d y ys e =
    elim (cases_lt i (length xs)) [
      | inl l ↦
          let more : get_or xs i d ∷ drop (i + 1) xs ≡ y ∷ ys = sym (drop_more xs i d l) ∙ e in
          record { inside = l; here = cc; rest = cc }
      | inr past ↦
          let none : [] ≡ y ∷ ys = sym (drop_all i xs past) ∙ e in
          absurd (cc)
    ]
