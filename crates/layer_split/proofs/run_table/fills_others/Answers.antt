-- This layer has its length, and so those behind it decide.
use Rattle.std.proofs.Common.{◌≡◌, ◌+◌, ◌-◌, ◌<◌, ◌∙◌, ◌&&◌, ℕ, suc, Bool, true, length, sym, ap, arith}
use Rattle.std.specs.Prelude.{◌==◌, slice_index}
use Rattle.std.specs.List.{list_all, range_with_len}
use Rattle.std.proofs.lemmas.Bool.{eq-eqb}
use Rattle.layer_split.specs.RunTable.{bytes_in}
use Rattle.layer_split.proofs.run_table.fills_others.Goals as goal

pub all_step : (p : ℕ → Bool) (i n : ℕ) → i < n → p i ≡ true
    → list_all p (range_with_len i (n - i)) ≡ list_all p (range_with_len (i + 1) (n - (i + 1)))
all_step p i n lt is =
    let e : n - i ≡ suc (n - (i + 1)) = omega arith in
    ap (λ k. list_all p (range_with_len i k)) e ∙ ap (λ b. b && list_all p (range_with_len (i + 1) (n - (i + 1)))) is

pub loop-layer-preserved : goal.loop-layer-preserved
loop-layer-preserved c =
    c.loop-layer.invariant
    ∙ all_step (λ layer. bytes_in layer c.args.runs.now == slice_index c.args.lengths.now layer) c.loop-layer.layer
    (length c.args.lengths.now) c.loop-layer-test.true
    (eq-eqb _ _ (sym c.bytes_in.ensures ∙ c.if-bytes_in-lengths.false))
