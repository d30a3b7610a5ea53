use Rattle.std.proofs.Common.{◌≡◌, ◌++◌, ◌∷◌, [], List, ℕ, ap, sym, arith, ◌∙◌, append_assoc, replicate}
use Rattle.command_plan.specs.Least.{starts_by}
use Rattle.command_plan.proofs.Starts.{row_more, stripe_within}
use Rattle.command_plan.proofs.least.push_starts.Goals as goal

pub overflow_add-at : goal.overflow_add-at
overflow_add-at c =
    omega (arith, stripe_within c.loop.counter c.args.repeat.now.times c.args.repeat.now.length c.loop-test.true)

pub loop-preserved : goal.loop-preserved
loop-preserved c =
    let first = c.args.first in
    let len = c.args.repeat.now.length in
    let turn = c.loop.counter in
    let old = c.args.starts.now.items in
    record {
      at = omega (arith, c.loop.invariant.at);
      starts =
          c.in_ok-push.ensures.items ∙ ap (λ (l : List ℕ). l ++ c.loop.at ∷ []) c.loop.invariant.starts
          ∙ ap (λ (n : ℕ). (old ++ starts_by first (replicate turn len)) ++ n ∷ []) c.loop.invariant.at
          ∙ append_assoc old (starts_by first (replicate turn len)) _
          ∙ ap (λ (l : List ℕ). old ++ l) (sym (row_more first turn len));
    }

pub returns : goal.returns
returns c =
    let all : c.loop.counter ≡ c.args.repeat.now.times = omega arith in
    c.loop.invariant.starts
    ∙ ap (λ n. c.args.starts.now.items ++ starts_by c.args.first (replicate n c.args.repeat.now.length)) all
