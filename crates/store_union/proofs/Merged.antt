-- Two lists of frames merged: what is in the list, that it rises, and how many there are.
use Rattle.std.specs.Prelude.{if◌then◌else◌}
use Rattle.std.proofs.Common.{◌≡◌, ◌⊎◌, ◌+◌, true, false, List, [], ◌∷◌, ◌++◌, length, Some, refl, sym, ap}
use Rattle.std.proofs.Common.{subst, ◌∙◌, arith, inl, inr}
use Rattle.std.proofs.lemmas.Bool.{cases_Bool}
use Rattle.packet_frame.specs.Frame.{Fields}
use Rattle.store_text.specs.Refusals.{Last, is_above}
use Rattle.store_text.specs.laws.Leading.{pair_of}
use Rattle.store_union.specs.inside.Merging.{is_before, is_pair, is_there, passed, left_from, without, first_in, merged}
use Rattle.store_union.proofs.Order.{In, Chain, pair_is, other_way}
use Rattle.store_union.proofs.Passing.{passed_more, passed_stop, left_more, left_stop}

-- ---- one step

pub merged_none : (mine : List Fields) → merged mine [] ≡ mine
unfolding merged
merged_none mine = refl

pub merged_next : (mine : List Fields) (g : Fields) (rest : List Fields)
    → merged mine (g ∷ rest) ≡ passed g mine ++ (g ∷ merged (without g (left_from g mine)) rest)
unfolding merged
merged_next mine g rest = refl

module _ (g : Fields) (rest : List Fields) where
  merged_last : merged [] (g ∷ rest) ≡ g ∷ merged [] rest
  unfolding merged passed left_from
  merged_last = refl

  module _ (f : Fields) (fs : List Fields) where
    merged_before : is_before f g ≡ true → merged (f ∷ fs) (g ∷ rest) ≡ f ∷ merged fs (g ∷ rest)
    merged_before e =
        merged_next (f ∷ fs) g rest
        ∙ ap (λ l. l ++ (g ∷ merged (without g (left_from g (f ∷ fs))) rest)) (passed_more g f fs e)
        ∙ ap (λ l. f ∷ (passed g fs ++ (g ∷ merged (without g l) rest))) (left_more g f fs e)
        ∙ ap (λ l. f ∷ l) (sym (merged_next fs g rest))

    merged_here : is_before f g ≡ false → merged (f ∷ fs) (g ∷ rest) ≡ g ∷ merged (without g (f ∷ fs)) rest
    merged_here e =
        merged_next (f ∷ fs) g rest
        ∙ ap (λ l. l ++ (g ∷ merged (without g (left_from g (f ∷ fs))) rest)) (passed_stop g f fs e)
        ∙ ap (λ l. g ∷ merged (without g l) rest) (left_stop g f fs e)

    merged_pair : is_before f g ≡ false → is_pair f g ≡ true → merged (f ∷ fs) (g ∷ rest) ≡ g ∷ merged fs rest
    merged_pair e p = merged_here e ∙ ap (λ b. g ∷ merged (if b then fs else f ∷ fs) rest) p

    merged_other : is_before f g ≡ false → is_pair f g ≡ false
        → merged (f ∷ fs) (g ∷ rest) ≡ g ∷ merged (f ∷ fs) rest
    merged_other e p = merged_here e ∙ ap (λ b. g ∷ merged (if b then fs else f ∷ fs) rest) p

-- what holds of a step by its cases
step_cases : (P : Type 0) (f g : Fields) → (is_before f g ≡ true → P) → (is_before f g ≡ false → is_pair f g ≡ true → P)
    → (is_before f g ≡ false → is_pair f g ≡ false → P) → P
step_cases P f g one two three =
    elim (cases_Bool (is_before f g)) [
      | inl e ↦ one e
      | inr e ↦ elim (cases_Bool (is_pair f g)) [
        | inl p ↦ two e p
        | inr p ↦ three e p
      ]
    ]

-- ---- it rises

same_pair : (f g : Fields) → is_pair f g ≡ true → Some (pair_of f) ≡ Some (pair_of g)
same_pair f g e = let p = pair_is f g e in ap (λ n. Some (n, f.number)) p.0 ∙ ap (λ n. Some (g.group, n)) p.1

chain_by : (g : Fields) (rest : List Fields)
    → ((fs : List Fields) → Chain (Some (pair_of g)) fs → Chain (Some (pair_of g)) (merged fs rest))
    → (fs : List Fields) (low : Last) → Chain low fs → is_above low g ≡ true → Chain low (merged fs (g ∷ rest))
chain_by g rest more [] low c above = subst (Chain low) (sym (merged_last g rest)) (above, more [] tt)
chain_by g rest more (f ∷ fs) low c above =
    step_cases (Chain low (merged (f ∷ fs) (g ∷ rest))) f g
    (λ e. subst (Chain low) (sym (merged_before g rest f fs e)) (c.0, chain_by g rest more fs (Some (pair_of f)) c.1 e))
    (λ e p. subst (Chain low) (sym (merged_pair g rest f fs e p))
    (above, more fs (subst (λ l. Chain l fs) (same_pair f g p) c.1)))
    (λ e p. subst (Chain low) (sym (merged_other g rest f fs e p)) (above, more (f ∷ fs) (other_way f g e p, c.1)))

pub merged_chain : (mine theirs : List Fields) (last : Last) → Chain last mine → Chain last theirs
    → Chain last (merged mine theirs)
merged_chain mine [] last c d = subst (Chain last) (sym (merged_none mine)) c
merged_chain mine (g ∷ rest) last c d =
    chain_by g rest (λ fs c. merged_chain fs rest (Some (pair_of g)) c d.1) mine last c d.0

-- ---- what is in it

module _ (h g : Fields) (rest : List Fields) where
  one_behind : (f : Fields) (fs : List Fields) → In h fs ⊎ In h (g ∷ rest) → In h (f ∷ fs) ⊎ In h (g ∷ rest)
  one_behind f fs (inl i) = inl (inr i)
  one_behind f fs (inr i) = inr i

  one_later : (fs : List Fields) → In h fs ⊎ In h rest → In h fs ⊎ In h (g ∷ rest)
  one_later fs (inl i) = inl i
  one_later fs (inr i) = inr (inr i)

  one_first : (fs : List Fields) → (In h (merged fs rest) → In h fs ⊎ In h rest) → In h (g ∷ merged fs rest)
      → In h fs ⊎ In h (g ∷ rest)
  one_first fs more (inl e) = inr (inl e)
  one_first fs more (inr i) = one_later fs (more i)

  one_front : (f : Fields) (fs : List Fields) → (In h (merged fs (g ∷ rest)) → In h fs ⊎ In h (g ∷ rest))
      → In h (f ∷ merged fs (g ∷ rest)) → In h (f ∷ fs) ⊎ In h (g ∷ rest)
  one_front f fs more (inl e) = inl (inl e)
  one_front f fs more (inr i) = one_behind f fs (more i)

  one_by : ((fs : List Fields) → In h (merged fs rest) → In h fs ⊎ In h rest) → (fs : List Fields)
      → In h (merged fs (g ∷ rest)) → In h fs ⊎ In h (g ∷ rest)
  one_by more [] i = one_first [] (more []) (subst (In h) (merged_last g rest) i)
  one_by more (f ∷ fs) i =
      step_cases (In h (f ∷ fs) ⊎ In h (g ∷ rest)) f g
      (λ e. one_front f fs (one_by more fs) (subst (In h) (merged_before g rest f fs e) i))
      (λ e p. one_behind f fs (one_first fs (more fs) (subst (In h) (merged_pair g rest f fs e p) i)))
      (λ e p. one_first (f ∷ fs) (more (f ∷ fs)) (subst (In h) (merged_other g rest f fs e p) i))

pub in_one : (mine theirs : List Fields) (h : Fields) → In h (merged mine theirs) → In h mine ⊎ In h theirs
in_one mine [] h i = inl (subst (In h) (merged_none mine) i)
in_one mine (g ∷ rest) h i = one_by h g rest (λ fs. in_one fs rest h) mine i

module _ (h g : Fields) (rest : List Fields) where
  theirs_first : (fs : List Fields) → (In h rest → In h (merged fs rest)) → In h (g ∷ rest)
      → In h (g ∷ merged fs rest)
  theirs_first fs more (inl e) = inl e
  theirs_first fs more (inr i) = inr (more i)

  theirs_by : ((fs : List Fields) → In h rest → In h (merged fs rest)) → (fs : List Fields) → In h (g ∷ rest)
      → In h (merged fs (g ∷ rest))
  theirs_by more [] i = subst (In h) (sym (merged_last g rest)) (theirs_first [] (more []) i)
  theirs_by more (f ∷ fs) i =
      step_cases (In h (merged (f ∷ fs) (g ∷ rest))) f g
      (λ e. subst (In h) (sym (merged_before g rest f fs e)) (inr (theirs_by more fs i)))
      (λ e p. subst (In h) (sym (merged_pair g rest f fs e p)) (theirs_first fs (more fs) i))
      (λ e p. subst (In h) (sym (merged_other g rest f fs e p)) (theirs_first (f ∷ fs) (more (f ∷ fs)) i))

pub in_theirs : (mine theirs : List Fields) (h : Fields) → In h theirs → In h (merged mine theirs)
in_theirs mine [] h i = absurd i
in_theirs mine (g ∷ rest) h i = theirs_by h g rest (λ fs. in_theirs fs rest h) mine i

-- frames of one pair are the same
abbrev pub Agree : List Fields → List Fields → Type 0
Agree mine theirs = (f g : Fields) → In f mine → In g theirs → is_pair f g ≡ true → f ≡ g

module _ (h g : Fields) (rest : List Fields) where
  mine_front : (f : Fields) (fs : List Fields) → (In h fs → In h (merged fs (g ∷ rest))) → In h (f ∷ fs)
      → In h (f ∷ merged fs (g ∷ rest))
  mine_front f fs more (inl e) = inl e
  mine_front f fs more (inr i) = inr (more i)

  mine_pair : (f : Fields) (fs : List Fields) → (In h fs → In h (merged fs rest)) → f ≡ g → In h (f ∷ fs)
      → In h (g ∷ merged fs rest)
  mine_pair f fs more same (inl e) = inl (e ∙ same)
  mine_pair f fs more same (inr i) = inr (more i)

  mine_by : ((fs : List Fields) → Agree fs rest → In h fs → In h (merged fs rest)) → (fs : List Fields)
      → Agree fs (g ∷ rest) → In h fs → In h (merged fs (g ∷ rest))
  mine_by more [] agree i = absurd i
  mine_by more (f ∷ fs) agree i =
      step_cases (In h (merged (f ∷ fs) (g ∷ rest))) f g
      (λ e. subst (In h) (sym (merged_before g rest f fs e))
      (mine_front f fs (mine_by more fs (λ x y j k. agree x y (inr j) k)) i))
      (λ e p. subst (In h) (sym (merged_pair g rest f fs e p))
      (mine_pair f fs (more fs (λ x y j k. agree x y (inr j) (inr k))) (agree f g (inl refl) (inl refl) p) i))
      (λ e p. subst (In h) (sym (merged_other g rest f fs e p))
      (inr (more (f ∷ fs) (λ x y j k. agree x y j (inr k)) i)))

pub in_mine : (mine theirs : List Fields) (h : Fields) → Agree mine theirs → In h mine → In h (merged mine theirs)
in_mine mine [] h agree i = subst (In h) (sym (merged_none mine)) i
in_mine mine (g ∷ rest) h agree i = mine_by h g rest (λ fs. in_mine fs rest h) mine agree i

-- ---- how many there are

-- the first of the one comes before all of the other
pub merged_first : (f : Fields) (fs theirs : List Fields) → Chain (Some (pair_of f)) theirs
    → merged (f ∷ fs) theirs ≡ f ∷ merged fs theirs
merged_first f fs [] c = merged_none (f ∷ fs) ∙ ap (λ l. f ∷ l) (sym (merged_none fs))
merged_first f fs (g ∷ rest) c = merged_before g rest f fs c.0

pub many_without : (g : Fields) (fs rest : List Fields) → Chain (Some (pair_of g)) rest
    → length (merged fs rest) ≡ length (merged (without g fs) rest) + (if is_there (first_in fs) g then 1 else 0)
many_without g [] rest c = omega arith
many_without g (f ∷ fs) rest c =
    elim (cases_Bool (is_pair f g)) [
      | inl p ↦
          ap length (merged_first f fs rest (subst (λ l. Chain l rest) (sym (same_pair f g p)) c))
          ∙ sym (ap (λ b. length (merged (if b then fs else f ∷ fs) rest) + (if b then 1 else 0)) p ∙ omega arith)
      | inr p ↦
          sym (ap (λ b. length (merged (if b then fs else f ∷ fs) rest) + (if b then 1 else 0)) p ∙ omega arith)
    ]

pub many_passed : (g : Fields) (fs : List Fields) → length fs ≡ length (passed g fs) + length (left_from g fs)
unfolding passed left_from
many_passed g [] = refl
many_passed g (f ∷ fs) =
    elim (cases_Bool (is_before f g)) [
      | inl e ↦ omega (arith, many_passed g fs, ap length (passed_more g f fs e), ap length (left_more g f fs e))
      | inr e ↦ omega (arith, ap length (passed_stop g f fs e), ap length (left_stop g f fs e))
    ]
