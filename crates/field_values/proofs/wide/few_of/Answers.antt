use Rattle.std.proofs.Common.{◌≡◌, ◌++◌, [], ◌∷◌, replicate, ap, ◌∙◌, arith}
use Rattle.std.proofs.lemmas.List.{replicate_more}
use Rattle.field_values.proofs.wide.few_of.Goals as goal

pub loop-preserved : goal.loop-preserved
loop-preserved g c = record {
  items =
      c.in_ok-push.ensures.items ∙ ap (λ t. t ++ (c.args.element ∷ [])) c.loop.invariant.items
      ∙ replicate_more c.loop.counter c.args.element;
  len = omega (arith, c.in_ok-push.ensures.len, c.loop.invariant.len);
}

pub returns-clause-items : goal.returns-clause-items
returns-clause-items g c =
    let all : c.loop.counter ≡ c.args.count = omega arith in
    c.loop.invariant.items ∙ ap (λ n. replicate n c.args.element) all
