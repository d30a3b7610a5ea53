use Rattle.std.specs.Prelude.{filter, map}
use Rattle.std.specs.List.{range_with_len}
use Rattle.std.proofs.Common.{◌≡◌, ◌+◌, ℕ, Bool, cond, true, false, List, [], ◌∷◌, ◌++◌, refl, sym, ap, ◌∙◌, get_or}
use Rattle.std.proofs.lemmas.List.{map-append, append_assoc}
use Rattle.packet_verdicts.specs.inside.ByCounts.{is_between}
use Rattle.packet_verdicts.specs.laws.LayerSetLaws.{filter_more}
use Rattle.packet_verdicts.proofs.shown.push_between.Goals as goal

pairs_more : (p : ℕ → Bool) (group n : ℕ) (b : Bool) (new old first : List (ℕ × ℕ)) → b ≡ p n
    → new ≡ old ++ cond {A = List (ℕ × ℕ)} b ((group, n) ∷ []) []
    → old ≡ first ++ map (λ layer. (group, layer)) (filter p (range_with_len 0 n))
    → new ≡ first ++ map (λ layer. (group, layer)) (filter p (range_with_len 0 (n + 1)))
pairs_more p group n b new old first is next so =
    let f : ℕ → ℕ × ℕ = λ layer. (group, layer) in
    next ∙ ap (λ t. t ++ cond {A = List (ℕ × ℕ)} b ((group, n) ∷ []) []) so
    ∙ append_assoc first (map f (filter p (range_with_len 0 n))) (cond {A = List (ℕ × ℕ)} b ((group, n) ∷ []) [])
    ∙ ap (λ t. first ++ t)
    (ap (λ t. map f (filter p (range_with_len 0 n)) ++ t) (one b ∙ ap (λ t. map f (cond t (n ∷ []) [])) is)
    ∙ sym (map-append f (filter p (range_with_len 0 n)) (cond (p n) (n ∷ []) [])) ∙ ap (map f) (sym (filter_more p n)))
  where
    one : (t : Bool)
        → cond {A = List (ℕ × ℕ)} t ((group, n) ∷ []) [] ≡ map (λ layer. (group, layer)) (cond t (n ∷ []) [])
    one true = refl
    one false = refl

pub loop-layer-preserved : goal.loop-layer-preserved
loop-layer-preserved c =
    let p : ℕ → Bool = λ j. is_between c.args.before c.args.after (get_or c.args.counts.now j 0) in
    pairs_more p c.args.group c.loop-layer.layer c.is_shown_between-wanted.result
    c.push_if.new.shown.items c.loop-layer.shown.items c.args.shown.now.items
    (c.is_shown_between-wanted.ensures ∙ ap p c.from.ensures) c.in_ok-push_if.ensures c.loop-layer.invariant
