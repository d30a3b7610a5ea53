-- What inserting does to entries whose keys are all below, and to the last of entries in rising order.
use Rattle.std.proofs.Common.{◌≡◌, ℕ, ◌+◌, ◌<◌, ◌≤◌, cond, suc, List, [], ◌∷◌, ◌++◌, All, Some, None, Greater, nat_cmp}
use Rattle.std.proofs.Common.{is_eq, refl, sym, ap, ◌∙◌, arith}
use Rattle.std.specs.Ordering.{match_ordering}
use Rattle.std.specs.Cmp.{nat_cmp_is}
use Rattle.std.specs.BTreeMap.{is_at, insert_entry}
use Rattle.std.specs.Map.{lookup, keys_of}
use Rattle.std.proofs.lemmas.List.Elements.{All-cons, All-nil}
use Rattle.packet_verdicts.specs.laws.EntryLaws.{cmp_same}

module _ {X : Type 0} where
  pub insert_end : (es : List (ℕ × X)) (k : ℕ) (v : X) → All (λ x. x < k) (keys_of es)
      → insert_entry nat_cmp es k v ≡ es ++ ((k, v) ∷ [])
  insert_end [] k v below = refl
  insert_end (e ∷ es) k v below =
      let above : nat_cmp k e.0 ≡ Greater = sym (nat_cmp_is k e.0 Greater (below 0 k (omega arith))) in
      ap (λ r. match_ordering r ((k, v) ∷ e ∷ es) ((e.0, v) ∷ es) (e ∷ insert_entry nat_cmp es k v)) above
      ∙ ap (λ t. e ∷ t) (insert_end es k v (λ i d lt. below (suc i) d (omega arith)))

  pub insert_at_end : (es : List (ℕ × X)) (k : ℕ) (u v : X) → All (λ x. x < k) (keys_of es)
      → insert_entry nat_cmp (es ++ ((k, u) ∷ [])) k v ≡ es ++ ((k, v) ∷ [])
  insert_at_end [] k u v below =
      ap (λ r. match_ordering r ((k, v) ∷ (k, u) ∷ []) ((k, v) ∷ []) ((k, u) ∷ (k, v) ∷ [])) (cmp_same k)
  insert_at_end (e ∷ es) k u v below =
      let above : nat_cmp k e.0 ≡ Greater = sym (nat_cmp_is k e.0 Greater (below 0 k (omega arith))) in
      ap (λ r. match_ordering r ((k, v) ∷ e ∷ (es ++ ((k, u) ∷ []))) ((e.0, v) ∷ (es ++ ((k, u) ∷ [])))
      (e ∷ insert_entry nat_cmp (es ++ ((k, u) ∷ [])) k v)) above
      ∙ ap (λ t. e ∷ t) (insert_at_end es k u v (λ i d lt. below (suc i) d (omega arith)))

  pub lookup_end : (es : List (ℕ × X)) (k : ℕ) (v : X) → All (λ x. x < k) (keys_of es)
      → lookup (is_at (nat_cmp k)) (es ++ ((k, v) ∷ [])) ≡ Some v
  lookup_end [] k v below = ap (λ r. cond (is_eq r) (Some v) None) (cmp_same k)
  lookup_end (e ∷ es) k v below =
      let above : nat_cmp k e.0 ≡ Greater = sym (nat_cmp_is k e.0 Greater (below 0 k (omega arith))) in
      ap (λ r. cond (is_eq r) (Some e.1) (lookup (is_at (nat_cmp k)) (es ++ ((k, v) ∷ [])))) above
      ∙ lookup_end es k v (λ i d lt. below (suc i) d (omega arith))

  -- the keys are below one more than the last
  pub below_end : (es : List (ℕ × X)) (low k : ℕ) (v : X) → All (λ x. x < low) (keys_of es) → low ≤ k
      → All (λ x. x < k + 1) (keys_of (es ++ ((k, v) ∷ [])))
  below_end [] low k v below le = All-cons (λ x. x < k + 1) k [] (omega arith) (All-nil (λ x. x < k + 1))
  below_end (e ∷ es) low k v below le =
      let first : e.0 < low = below 0 k (omega arith) in
      All-cons (λ x. x < k + 1) e.0 (keys_of (es ++ ((k, v) ∷ []))) (omega (arith, first, le))
      (below_end es low k v (λ i d lt. below (suc i) d (omega arith)) le)
