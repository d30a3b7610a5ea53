-- Equality of tables is an equivalence, and tells exactly the same ones.
use Rattle.std.specs.Prelude.{◌≡◌, true, ◌↔◌, IsTrue}
use Rattle.std.specs.Cmp.{IsEquivalence, on_equiv, and_equiv, nat_eq_equiv}
use Rattle.std.specs.Cmp.Lexicographic.{pointwise, lists_equiv}
use Rattle.std.proofs.Common.{arith, refl, subst}
use Rattle.std.specs.Bool.{Decides}
use Rattle.std.proofs.lemmas.Slice.Eq.{slice_eq-Decides}
use Rattle.stripe_plan.specs.declared.layer.LayerSize.{LayerSize}
use Rattle.stripe_plan.specs.Sizes.{Sizes}
use Rattle.stripe_plan.specs.Same.{same_layer, same_table}

-- it is an equivalence
abbrev pub same_table_laws : IsEquivalence same_table
same_table_laws =
    and_equiv (on_equiv (λ table. table.packets) nat_eq_equiv)
    (on_equiv (λ table. table.layers) (lists_equiv
    (and_equiv (on_equiv (λ layer. layer.length) nat_eq_equiv) (on_equiv (λ layer. layer.need) nat_eq_equiv))))

-- for callers: it tells exactly the same layers
pub same_layer-Decides : (layer other : LayerSize) → Decides (same_layer layer other) (layer ≡ other)
same_layer-Decides layer other = (
  λ same. grind (arith, same),
  λ same. subst (λ l. same_layer layer l ≡ true) same (grind arith),
)

-- for callers: it tells exactly the same tables
pub same_table-exact : (table other : Sizes) → IsTrue (same_table table other) ↔ (table ≡ other)
same_table-exact table other = (
  λ same.
      let packets : table.packets ≡ other.packets = grind (arith, same) in
      let layers : table.layers ≡ other.layers =
      (slice_eq-Decides same_layer-Decides table.layers other.layers
      (pointwise same_layer table.layers other.layers) refl).0 (grind (arith, same)) in
      grind (arith, packets, layers),
  λ same. subst (λ t. IsTrue (same_table table t)) same (same_table_laws.refl table),
)
