use Rattle.std.proofs.Common.{◌≡◌, ℕ, ◌+◌, ◌-◌, ◌*◌, ◌<◌, ◌≤◌, [], length, get_or, drop, sym, ap, subst, ◌∙◌}
use Rattle.std.proofs.Common.{inl, inr, arith}
use Rattle.std.proofs.lemmas.Bool.{cases_eq}
use Rattle.std.proofs.Math.Nat.{mul-le-mul_right}
use Rattle.std.proofs.lemmas.List.{length-drop}
use Rattle.std.specs.Iterator.Adapters.{enumerate_source, enumerate_count}
use Rattle.stripe_plan.specs.Counts.{Meets}
use Rattle.stripe_plan.specs.Layers.{needs_of, plan_stripes, words_before}
use Rattle.stripe_plan.specs.Walk.{stripes_left, IsWithin}
use Rattle.stripe_plan.proofs.PlanLemmas.{length-plan_stripes}
use Rattle.packet_group.specs.Written.{HasStripe}
use Rattle.packet_group.specs.inside.Learning.{IsWrittenOn}
use Rattle.packet_group.proofs.Cuts.{sizes_are}
use Rattle.packet_group.proofs.Known.{meets_or, met_layer, on_same, on_then, on_written}
use Rattle.packet_group.proofs.Known.{stripe_here, taken}
use Rattle.packet_group.proofs.Shown.{few_words, stripe_short}
use Rattle.packet_group.proofs.write.write_layer.Goals as goal

pub first_word-requires-clause-few : goal.first_word-requires-clause-few
first_word-requires-clause-few g c =
    few_words c.args.table.now.packets c.args.table.now.layers c.layers-layers.result.now c.requires.table
    c.layers-layers.ensures.value

pub first_word-requires-2-clause-few : goal.first_word-requires-2-clause-few
first_word-requires-2-clause-few g c =
    few_words c.args.table.now.packets c.args.table.now.layers c.layers-layers.result.now c.requires.table
    c.layers-layers.ensures.value

pub write_if_met-requires-clause-stripe : goal.write_if_met-requires-clause-stripe
write_if_met-requires-clause-stripe g c =
    let layers = c.args.table.now.layers in
    let took = c.in-Some.ensures.steps in
    let now = taken layers (enumerate_count c.loop-stripe.stripe-iterator) c.in-Some.stripe c.in-Some.at c.in-Some.size
    _ _ c.loop-stripe.invariant.rest took.0 took.1 in
    omega (arith, (sizes_are c.args.progress.now layers c.requires.lengths).count, now.0.inside)

pub write_if_met-requires-clause-size : goal.write_if_met-requires-clause-size
write_if_met-requires-clause-size g c =
    let layers = c.args.table.now.layers in
    let took = c.in-Some.ensures.steps in
    let now = taken layers (enumerate_count c.loop-stripe.stripe-iterator) c.in-Some.stripe c.in-Some.at c.in-Some.size
    _ _ c.loop-stripe.invariant.rest took.0 took.1 in
    (sizes_are c.args.progress.now layers c.requires.lengths).each c.in-Some.stripe ∙ ap (λ (p : ℕ × ℕ). p.1) now.0.here

pub write_if_met-requires-clause-enough : goal.write_if_met-requires-clause-enough
write_if_met-requires-clause-enough g c meets =
    let layers = c.args.table.now.layers in
    let layer = c.args.layer in
    let took = c.in-Some.ensures.steps in
    let now = taken layers (enumerate_count c.loop-stripe.stripe-iterator) c.in-Some.stripe c.in-Some.at c.in-Some.size
    _ _ c.loop-stripe.invariant.rest took.0 took.1 in
    let met = met_layer c.layers-layers.result.now layers layer c.first_word.result c.first_word-2.result
    c.in-Some.stripe c.in-Some.at c.in-Some.size c.layers-layers.ensures.value c.first_word.ensures
    c.first_word-2.ensures now.0 in
    let short = stripe_short layers c.requires.table.needed layer c.requires.layer c.in-Some.stripe now.0.inside
    (met.0 meets) in
    omega (arith, short, c.requires.enough, ap (λ (p : ℕ × ℕ). p.1) now.0.here)

pub write_if_met-requires-clause-room : goal.write_if_met-requires-clause-room
write_if_met-requires-clause-room g c =
    let layers = c.args.table.now.layers in
    let took = c.in-Some.ensures.steps in
    let now = taken layers (enumerate_count c.loop-stripe.stripe-iterator) c.in-Some.stripe c.in-Some.at c.in-Some.size
    _ _ c.loop-stripe.invariant.rest took.0 took.1 in
    let width = g.F.Field.coding.width in
    let most : (c.in-Some.at + c.in-Some.size) * width ≤ length (needs_of layers) * width =
    mul-le-mul_right width now.0.ended in
    omega (arith, most, c.loop-stripe.invariant.room, c.requires.room)

pub loop-stripe-preserved : goal.loop-stripe-preserved
loop-stripe-preserved g c =
    let F = g.F.Field in
    let layers = c.args.table.now.layers in
    let layer = c.args.layer in
    let took = c.in-Some.ensures.steps in
    let now = taken layers (enumerate_count c.loop-stripe.stripe-iterator) c.in-Some.stripe c.in-Some.at c.in-Some.size
    _ _ c.loop-stripe.invariant.rest took.0 took.1 in
    let moved : c.in-Some.stripe + 1 ≡ enumerate_count c.next.new.self = omega (arith, took.1, took.2) in
    let met = met_layer c.layers-layers.result.now layers layer c.first_word.result c.first_word-2.result
    c.in-Some.stripe c.in-Some.at c.in-Some.size c.layers-layers.ensures.value c.first_word.ensures
    c.first_word-2.ensures now.0 in
    let laws = g.met.F.Field.lawful.spellings in
    let old = c.loop-stripe.message.items in
    let new = c.write_if_met.new.message.items in
    let held = c.args.progress.now in
    let stripe = c.in-Some.stripe in
    let at = c.in-Some.at in
    let size = c.in-Some.size in
    let message = c.loop-stripe.invariant.on.message in
    let step : IsWrittenOn F.coding layers held old new =
    elim (meets_or c.first_word.result c.first_word-2.result at size) [
      | inl meets ↦ on_written F.is_element F.coding laws layers held c.requires.lengths stripe at size now.0 old new
          message (c.write_if_met.ensures.written meets)
      | inr none ↦ on_same F.coding layers held old new message (c.write_if_met.ensures.same none)
    ] in
    record {
      can = c.in-Some.ensures.goes.keeps;
      ends = tt;
      rest = now.1 ∙ ap (λ (n : ℕ). drop n (plan_stripes layers)) moved;
      room = omega (arith, c.loop-stripe.invariant.room, c.write_if_met.ensures.room);
      on = on_then F.coding layers held c.args.message.now.items old new c.loop-stripe.invariant.on step;
      written =
          λ j l meets.
          elim (cases_eq j stripe) [
            | inl here ↦
                let meets_here = subst (λ i.
                Meets (words_before layers layer) (words_before layers (layer + 1))
                (get_or (plan_stripes layers) i (0, 0))) here meets in
                subst (HasStripe F.coding layers held new) (sym here)
                (stripe_here F.is_element F.coding laws layers held c.requires.lengths stripe at size now.0 old new
                message (c.write_if_met.ensures.written (met.1 meets_here)))
            | inr other ↦
                let before : j < enumerate_count c.loop-stripe.stripe-iterator =
                omega (arith, l, moved, took.1, other) in
                step.kept j (omega (arith, before, took.1, now.0.inside))
                (c.loop-stripe.invariant.written j before meets)
          ];
    }

pub returns-clause-written : goal.returns-clause-written
returns-clause-written g c j l meets =
    let layers = c.args.table.now.layers in
    let count = enumerate_count c.loop-stripe.stripe-iterator in
    let none : drop count (plan_stripes layers) ≡ [] = sym c.loop-stripe.invariant.rest ∙ c.in-None.ensures.steps.0.0 in
    let long : length (plan_stripes layers) - count ≡ 0 =
    sym (length-drop count (plan_stripes layers)) ∙ ap length none in
    c.loop-stripe.invariant.written j (omega (arith, l, long)) meets

pub loop-stripe-init-derived : goal.loop-stripe-init-derived
loop-stripe-init-derived g c =
    let source = ap enumerate_source c.into_iter-stripe-iterator.ensures.into_iter_gives
    ∙ c.enumerate-stripe-items.ensures.source in
    let count = ap enumerate_count c.into_iter-stripe-iterator.ensures.into_iter_gives
    ∙ c.enumerate-stripe-items.ensures.count in
    let left = ap stripes_left source ∙ c.plan.ensures.stripes in (
      (
        subst IsWithin (sym source) c.plan.ensures.within,
        tt,
        inl (omega (
          arith,
          count,
          ap length left,
          length-plan_stripes c.args.table.now.layers,
          c.requires.table.narrow,
        )),
      ),
      tt,
    )

pub loop-stripe-init : goal.loop-stripe-init
loop-stripe-init g c =
    let source = ap enumerate_source c.into_iter-stripe-iterator.ensures.into_iter_gives
    ∙ c.enumerate-stripe-items.ensures.source in
    let count = ap enumerate_count c.into_iter-stripe-iterator.ensures.into_iter_gives
    ∙ c.enumerate-stripe-items.ensures.count in
    let plan = plan_stripes c.args.table.now.layers in
    record {
      can = (loop-stripe-init-derived g c).0;
      ends = tt;
      rest = ap stripes_left source ∙ c.plan.ensures.stripes ∙ ap (λ (n : ℕ). drop n plan) (sym count);
      room = omega arith;
      on = record { message = c.requires.message; kept = λ j l has. has };
      written = λ j l m. absurd (omega (arith, l, count));
    }
