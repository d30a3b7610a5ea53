use Rattle.std.proofs.Common.{arith, ◌≡◌, ◌+◌, ◌-◌, get_or, ◌∙◌, sym}
use Rattle.stripe_plan.specs.Layers.{needs_of}
use Rattle.stripe_plan.proofs.LayerLemmas.{no_layer, length-needs_of, words_more, words_inside, needs_of-at}
use Rattle.stripe_plan.proofs.RunLemmas.{run_more, run_inside}
use Rattle.stripe_plan.proofs.runs.run_from.Goals as goal

pub returns-clause-run : goal.returns-clause-run
returns-clause-run c =
    let layers = c.args.layers.now in
    let layer = c.args.here.layer in
    let more = words_more layers layer no_layer c.requires.known in
    let within = words_inside layers (layer + 1) in
    run_more (needs_of layers) c.args.at c.longest_from-size.result
    (c.args.here.first + c.layer_words.result - c.args.at) (get_or layers layer no_layer).need c.max.result
    c.longest_from-size.ensures.longest
    (omega (arith, length-needs_of layers, more, within, c.layer_words.ensures, c.requires.first, c.requires.past))
    (λ word from below. needs_of-at layers layer no_layer word c.requires.known
    (omega (arith, c.requires.first, c.requires.before))
    (omega (arith, c.layer_words.ensures, c.requires.first, c.requires.past, more)))
    (omega (arith, c.max.ensures))

pub returns-clause-inside : goal.returns-clause-inside
returns-clause-inside c =
    let layers = c.args.layers.now in
    omega (
      arith,
      length-needs_of layers,
      run_inside (needs_of layers) c.args.at c.longest_from-size.result c.max.result
          (omega (arith, length-needs_of layers, c.requires.past, words_inside layers (c.args.here.layer + 1)))
          (returns-clause-run c),
    )
