use Rattle.std.proofs.Common.{◌≡◌, ◌∙◌, sym, ◌+◌, length, arith, rules}
use Rattle.stripe_plan.specs.Layers.{needs_of}
use Rattle.stripe_plan.proofs.LayerLemmas.{no_layer, words_more, words_inside, words_all, length-needs_of}
use Rattle.stripe_plan.proofs.LongestLemmas.{layer_begun, layer_more, longest_enough, longest_all}
use Rattle.stripe_plan.proofs.longest.longest_from.Goals as goal
use Rattle.stripe_plan.proofs.longest.longest_from.Goals.{then-first-end, else-first-end}

pub loop-later-init : goal.loop-later-init
loop-later-init c =
    let more = words_more c.args.layers.now c.args.here.layer no_layer c.requires.known in
    record {
      inside = omega (arith, c.requires.known);
      first_is = omega (arith, more, c.requires.first, c.layer_words.ensures);
      past = omega (arith, more, c.requires.first, c.layer_words.ensures, c.requires.past);
      short = search rules;
      so_far = rw c.from-longest.ensures
          (layer_begun c.args.layers.now c.args.here.layer no_layer c.args.at c.args.here.first
          (c.args.here.first + c.layer_words.result) c.requires.known c.requires.needed c.requires.first
          c.requires.before
          (omega (arith, c.layer_words.ensures))
          (omega (arith, more, c.requires.first, c.layer_words.ensures, c.requires.past)));
    }

pub returns-then-longest-first-clause-longest : goal.returns-then-longest-first-clause-longest
returns-then-longest-first-clause-longest c =
    let i = c.loop-later.invariant in
    longest_enough (needs_of c.args.layers.now) c.args.at c.loop-later.longest c.loop-later.first i.so_far
    (omega (arith, i.past, c.if-longest-first.true))
    (omega (arith, i.first_is, words_inside c.args.layers.now c.loop-later.later, length-needs_of c.args.layers.now))

pub overflow_add-end : goal.overflow_add-end
overflow_add-end c =
    omega (
      arith,
      c.loop-later.invariant.first_is,
      c.layer_words-in-loop-later.ensures,
      c.requires.few,
      words_inside c.args.layers.now (c.loop-later.later + 1),
      words_more c.args.layers.now c.loop-later.later no_layer c.loop-later-test.true,
    )

pub loop-later-preserved : goal.loop-later-preserved
loop-later-preserved c =
    let i = c.loop-later.invariant in
    let more = words_more c.args.layers.now c.loop-later.later no_layer c.loop-later-test.true in
    record {
      inside = omega (arith, c.loop-later-test.true);
      first_is = omega (arith, more, i.first_is, c.layer_words-in-loop-later.ensures);
      past = omega (arith, i.past);
      short = elim c.if-first-end.branch [
        | then-first-end w ↦ omega (arith, w.longest-is, w.min-longest.ensures, i.short)
        | else-first-end w ↦ omega (arith, w.longest-is, i.short)
      ];
      so_far = elim c.if-first-end.branch [
        | then-first-end w ↦ layer_more c.args.layers.now c.loop-later.later no_layer c.args.at c.loop-later.first
            c.loop-later.longest (c.loop-later.first + c.layer_words-in-loop-later.result) c.if-first-end.longest
            c.loop-later-test.true c.requires.needed i.first_is i.so_far i.past
            (omega (arith, c.layer_words-in-loop-later.ensures)) w.if-first-end.true
            (omega (arith, w.longest-is, w.min-longest.ensures, w.max.ensures, w.from.ensures))
        | else-first-end w ↦
            let none : c.loop-later.first + c.layer_words-in-loop-later.result ≡ c.loop-later.first =
            omega (arith, w.if-first-end.false) in
            rw (w.longest-is, none) i.so_far
      ];
    }

pub returns-clause-longest : goal.returns-clause-longest
returns-clause-longest c =
    let i = c.loop-later.invariant in
    let all : c.loop-later.later ≡ length c.args.layers.now = omega (arith, i.inside, c.loop-later-test.false) in
    rw c.min.ensures
    (longest_all (needs_of c.args.layers.now) c.args.at c.loop-later.longest c.loop-later.first i.so_far i.past
    (i.first_is ∙ words_all c.args.layers.now c.loop-later.later all ∙ sym (length-needs_of c.args.layers.now)))
