-- Layers told by how many packets show each are those told by the table.
use Rattle.std.specs.Prelude.{filter, count_by, nat_le}
use Rattle.std.specs.List.{range_with_len}
use Rattle.std.proofs.Common.{◌≡◌, ℕ, zero, suc, ◌+◌, ◌<◌, Bool, not, true, false, None, cond, List, [], ◌∷◌, ◌++◌}
use Rattle.std.proofs.Common.{length, get_or, map, refl, sym, ap, ap₂, ◌∙◌, arith, subst}
use Rattle.std.proofs.lemmas.Bool.{not-false}
use Rattle.std.proofs.lemmas.List.Sums.{sum_by-cons}
use Rattle.stripe_plan.specs.declared.layer.LayerSize.{LayerSize}
use Rattle.stripe_plan.specs.Layers.{count_of, counts_of}
use Rattle.stripe_plan.specs.laws.CountLaws.{length-counts_of, count_at}
use Rattle.stripe_plan.specs.Sizes.{Sizes}
use Rattle.stripe_plan.specs.Same.{same_table}
use Rattle.stripe_plan.specs.laws.SameLaws.{same_table-exact}
use Rattle.packet_frame.specs.Frame.{Fields}
use Rattle.packet_set.specs.Packets.{Packets, slot_at, layers_of, count_in}
use Rattle.packet_verdicts.specs.declared.verdict.Verdict.TheVariants.{Kept}
use Rattle.packet_verdicts.specs.declared.verdict.LayerSet.{LayerSet}
use Rattle.packet_verdicts.specs.KeptSet.{header_of}
use Rattle.packet_verdicts.specs.GroupVerdict.{verdict_in}
use Rattle.packet_verdicts.specs.Verdicts.{layer_set, shown_between}
use Rattle.packet_verdicts.specs.inside.ByCounts.{is_between, shown_by}
use Rattle.packet_verdicts.specs.laws.LayerSetLaws.{filter_more}

filter_same : (p q : ℕ → Bool) (n : ℕ) → ((i : ℕ) → i < n → p i ≡ q i)
    → filter p (range_with_len 0 n) ≡ filter q (range_with_len 0 n)
filter_same p q zero same = refl
filter_same p q (suc n) same =
    let s : n + 1 ≡ suc n = omega arith in
    let before = filter_same p q n (λ i lt. same i (omega arith)) in
    subst (λ m. filter p (range_with_len 0 m) ≡ filter q (range_with_len 0 m)) s
    (filter_more p n ∙ ap₂ (λ (l : List ℕ) (t : Bool). l ++ cond t (n ∷ []) []) before (same n (omega arith))
    ∙ sym (filter_more q n))

pub shown_by_counts : (layers : List LayerSize) (before after : ℕ)
    → shown_by (counts_of layers) before after ≡ shown_between layers before after
shown_by_counts layers before after =
    ap (λ n. filter (λ j. is_between before after (get_or (counts_of layers) j 0)) (range_with_len 0 n))
    (length-counts_of layers)
    ∙ filter_same (λ j. is_between before after (get_or (counts_of layers) j 0))
    (λ j. is_between before after (count_of layers j)) (length layers)
    (λ j lt. ap (is_between before after) (count_at layers j 0 lt))

count_map : (p : ℕ → Bool) (f : ℕ → ℕ) (xs : List ℕ) → count_by p (map f xs) ≡ count_by (λ x. p (f x)) xs
count_map p f [] = refl
count_map p f (x ∷ xs) =
    omega (
      arith,
      count_map p f xs,
      sum_by-cons (λ y. cond (p y) 1 0) (f x) (map f xs),
      sum_by-cons (λ y. cond (p (f y)) 1 0) x xs,
    )

-- how many layers so many packets show
pub count_counts : (layers : List LayerSize) (held : ℕ)
    → count_by (λ needed. nat_le needed held) (counts_of layers)
    ≡ count_by (λ layer. nat_le (count_of layers layer) held) (range_with_len 0 (length layers))
count_counts layers held = count_map (λ needed. nat_le needed held) (count_of layers) (range_with_len 0 (length layers))

-- a frame of the group's table whose number is not kept
pub next_verdict : (f : Fields) (p : Packets) (shown : LayerSet)
    → not (same_table p.header.table (header_of f).table) ≡ false → slot_at p f.number ≡ None
    → shown ≡ layer_set (shown_between (layers_of p) (count_in p) (count_in p + 1)) → Kept shown ≡ verdict_in f p
next_verdict f p shown like none is =
    let table = (same_table-exact p.header.table (header_of f).table).0
    (not-false (same_table p.header.table (header_of f).table) like) in
    rw (like, none)
    (ap Kept (is ∙ ap (λ (t : Sizes). layer_set (shown_between t.layers (count_in p) (count_in p + 1))) table))
