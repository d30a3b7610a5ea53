use Rattle.std.proofs.Common.{ℕ, Bool, ◌+◌, ◌^◌, cond, get_or, sym, ap, ap₂, ◌∙◌}
use Rattle.packet_verdicts.specs.inside.ByCounts.{is_between}
use Rattle.packet_verdicts.specs.laws.LayerSetLaws.{bits_more}
use Rattle.packet_verdicts.proofs.judge.shown_by_next.Goals as goal

pub loop-layer-preserved : goal.loop-layer-preserved
loop-layer-preserved c =
    let p : ℕ → ℕ → Bool = λ before j. is_between before (before + 1) (get_or c.args.counts.now j 0) in
    let shown = c.is_shown_between-shown.ensures ∙ ap₂ p c.from-held.ensures c.from.ensures in
    record {
      below = c.with_layer-bits.ensures.below;
      set =
          c.with_layer-bits.ensures.value
          ∙ ap₂ (λ (b : ℕ) (t : Bool). b + cond t (2 ^ c.loop-layer.layer) 0) c.loop-layer.invariant.set shown
          ∙ sym (bits_more (p c.args.before) c.loop-layer.layer);
    }
