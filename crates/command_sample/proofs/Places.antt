-- One place more of a group: its packet arrives, or is lost.
use Rattle.std.proofs.Common.{◌≡◌, ℕ, suc, ◌+◌, ◌-◌, ◌<◌, ◌≤◌, true, false, List, [], ◌∷◌, ◌++◌}
use Rattle.std.proofs.Common.{sym, ap, ◌∙◌, arith, append_assoc}
use Rattle.std.specs.Prelude.{not}
use Rattle.std.proofs.lemmas.Bool.{cond-true, cond-false}
use Rattle.std.proofs.lemmas.List.{append-nil}
use Rattle.command_sample.specs.Arrivals.{is_lost, number_at, arriving}

-- the packets from a place on are that of the place, where it arrives, and those from the next place on
place_arrives : (place left : ℕ) → is_lost (number_at place) ≡ false
    → arriving place (suc left) ≡ number_at place ∷ arriving (place + 1) left
unfolding arriving
place_arrives place left kept =
    cond-true (not (is_lost (number_at place))) (number_at place ∷ arriving (place + 1) left) (arriving (place + 1) left)
    (ap not kept)

place_lost : (place left : ℕ) → is_lost (number_at place) ≡ true
    → arriving place (suc left) ≡ arriving (place + 1) left
unfolding arriving
place_lost place left lost =
    cond-false (not (is_lost (number_at place))) (number_at place ∷ arriving (place + 1) left) (arriving (place + 1) left)
    (ap not lost)

left_more : (place : ℕ) → place < 100 → 100 - place ≡ suc (100 - (place + 1))
left_more place within = omega arith

pub one_arrives : (place number : ℕ) (order longer all : List ℕ) → place < 100 → number ≡ number_at place
    → is_lost number ≡ false → longer ≡ order ++ number ∷ [] → order ++ arriving place (100 - place) ≡ all
    → longer ++ arriving (place + 1) (100 - (place + 1)) ≡ all
one_arrives place number order longer all within is kept pushed so =
    let rest : List ℕ = arriving (place + 1) (100 - (place + 1)) in
    let here : arriving place (100 - place) ≡ number ∷ rest =
    ap (arriving place) (left_more place within)
    ∙ place_arrives place (100 - (place + 1)) (ap is_lost (sym is) ∙ kept)
    ∙ ap (λ n. n ∷ rest) (sym is) in
    ap (λ l. l ++ rest) pushed ∙ append_assoc order (number ∷ []) rest ∙ ap (λ l. order ++ l) (sym here) ∙ so

pub one_lost : (place number : ℕ) (order all : List ℕ) → place < 100 → number ≡ number_at place
    → is_lost number ≡ true → order ++ arriving place (100 - place) ≡ all
    → order ++ arriving (place + 1) (100 - (place + 1)) ≡ all
one_lost place number order all within is lost so =
    let here : arriving place (100 - place) ≡ arriving (place + 1) (100 - (place + 1)) =
    ap (arriving place) (left_more place within)
    ∙ place_lost place (100 - (place + 1)) (ap is_lost (sym is) ∙ lost) in
    ap (λ l. order ++ l) (sym here) ∙ so

pub all_arrived : (place : ℕ) (order all : List ℕ) → 100 ≤ place → order ++ arriving place (100 - place) ≡ all
    → order ≡ all
unfolding arriving
all_arrived place order all ended so =
    let none : 100 - place ≡ 0 = omega arith in
    sym (append-nil order) ∙ ap (λ n. order ++ arriving place n) (sym none) ∙ so
