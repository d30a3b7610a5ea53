use Rattle.std.specs.List.{refill}
use Rattle.std.proofs.Common.{arith, ◌≡◌, ◌+◌, ◌*◌, ◌<◌, ℕ, List, [], length, get_or, max, refl, sym, ap, ap₂, ◌∙◌}
use Rattle.std.proofs.lemmas.List.{get_or-replicate, length-replicate}
use Rattle.stripe_plan.specs.Layers.{words_before}
use Rattle.stripe_plan.proofs.LayerLemmas.{length-needs_of}
use Rattle.stripe_plan.proofs.PlanLemmas.{meeting_start, meeting_step}
use Rattle.stripe_plan.proofs.MeetingLemmas.{kept_if_meets}
use Rattle.stripe_plan.proofs.CountLemmas.{refilled, are_counts}
use Rattle.stripe_plan.proofs.runs.plan_counts.Goals as goal

pub loop-at-init : goal.loop-at-init
loop-at-init c =
    let ones : (layer : ℕ) → layer < length c.args.layers.now → get_or c.ones-counts.result.items layer 0 ≡ 1 =
    λ layer lt. ap (λ (l : List ℕ). get_or l layer 0) c.ones-counts.ensures
    ∙ get_or-replicate (length c.args.layers.now) layer 1 0 lt in
    record {
      inside = omega arith;
      first_is = refl;
      before = omega arith;
      long = ap length c.ones-counts.ensures ∙ length-replicate (length c.args.layers.now) 1;
      some = λ layer lt. omega (arith, ones layer lt);
      whole = λ layer lt rest plan. rw (ones layer lt)
          (meeting_start c.args.layers.now layer _ _ c.requires.needed refl refl rest plan);
    }

pub loop-at-preserved : goal.loop-at-preserved
loop-at-preserved c =
    let i = c.loop-at.invariant in
    let run = c.run_from-run in
    let layers = c.args.layers.now in
    let at = c.loop-at.at in
    let all = refilled c.loop-at.counts.items c.raise.new.counts (c.raise.ensures.length ∙ sym i.long) in
    let raised : (layer : ℕ) → layer < length layers
    → get_or (refill (length c.loop-at.counts.items) c.loop-at.counts.items c.raise.new.counts) layer 0
    ≡ max (get_or c.loop-at.counts.items layer 0)
    (kept_if_meets (words_before layers layer) (words_before layers (layer + 1)) at
    (at + run.result.times * run.result.size) run.result.size) =
    λ layer lt.
    ap (λ (l : List ℕ). get_or l layer 0) all ∙ c.raise.ensures.raised layer lt
    ∙ ap₂ (λ (l : List ℕ) (size : ℕ). max (get_or l layer 0)
    (kept_if_meets (words_before layers layer) (words_before layers (layer + 1)) at
    (at + run.result.times * size) run.result.size)) c.as_mut_slice.ensures.value c.from.ensures in
    record {
      inside = rw c.from.ensures (omega (arith, run.ensures.inside, c.total_words-words.ensures));
      first_is = c.layer_with-here.ensures.first;
      before = omega (arith, c.layer_with-here.ensures.before);
      long = ap length all ∙ c.raise.ensures.length;
      some = λ layer lt. omega (arith, raised layer lt, i.some layer lt);
      whole = λ layer lt.
          rw (raised layer lt, c.from.ensures)
          (meeting_step layers (words_before layers layer)
          (words_before layers (layer + 1)) at run.result.size run.result.times
          (get_or c.loop-at.counts.items layer 0) _ run.ensures.sized (i.whole layer lt) run.ensures.run);
    }

pub returns : goal.returns
returns c =
    let i = c.loop-at.invariant in
    are_counts c.args.layers.now c.loop-at.counts.items i.long
    (λ layer lt. omega (
      arith,
      i.some layer lt,
      i.whole layer lt [] (omega (arith, length-needs_of c.args.layers.now, c.total_words-words.ensures)),
    ))
