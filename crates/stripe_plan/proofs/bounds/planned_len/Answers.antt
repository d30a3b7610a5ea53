use Rattle.std.proofs.Common.{◌<◌, ◌≤◌, Bool, map, subst, sym, ap, ◌∙◌, arith}
use Rattle.std.specs.Prelude.{if◌then◌else◌}
use Rattle.pet_base.specs.declared.limits.TheConstants.{MAX_GROUP_BYTES}
use Rattle.stripe_plan.specs.Layers.{AllNeeded}
use Rattle.stripe_plan.specs.Sizes.{twofold, bytes_of}
use Rattle.stripe_plan.proofs.LayerLemmas.{few_words, words_le_bytes}
use Rattle.stripe_plan.specs.laws.ByteLaws.{few_planned, needs_planned}
use Rattle.stripe_plan.proofs.bounds.planned_len.Goals as goal

pub plan_len-requires-clause-needed : goal.plan_len-requires-clause-needed
plan_len-requires-clause-needed c =
    let layers = c.args.layers.now in
    let same = ap (λ (flag : Bool). if flag then map twofold layers else layers) c.if-bounds.true in
    let made = same ∙ sym (c.deref.ensures.0 ∙ c.twice.ensures) in
    subst AllNeeded made (needs_planned (λ need. 0 < need) c.args.bounds.now layers c.requires.needed)

pub plan_len-requires-else-bounds-clause-few : goal.plan_len-requires-else-bounds-clause-few
plan_len-requires-else-bounds-clause-few c =
    let layers = c.args.layers.now in
    let same = ap (λ (flag : Bool). if flag then map twofold layers else layers) c.if-bounds.false in
    let few = few_planned c.args.bounds.now c.requires.bounds layers c.requires.few in
    few_words layers (subst (λ l. bytes_of l ≤ MAX_GROUP_BYTES) same few)

pub returns-then-bounds-clause-few : goal.returns-then-bounds-clause-few
returns-then-bounds-clause-few c =
    let layers = c.args.layers.now in
    let same = ap (λ (flag : Bool). if flag then map twofold layers else layers) c.if-bounds.true in
    let made = same ∙ sym (c.deref.ensures.0 ∙ c.twice.ensures) in
    let few = few_planned c.args.bounds.now c.requires.bounds layers c.requires.few in
    let bytes = subst (λ l. bytes_of l ≤ MAX_GROUP_BYTES) made few in
    omega (arith, c.plan_len.ensures.few, words_le_bytes c.deref.result.now, bytes)

pub returns-else-bounds-clause-few : goal.returns-else-bounds-clause-few
returns-else-bounds-clause-few c =
    let layers = c.args.layers.now in
    let same = ap (λ (flag : Bool). if flag then map twofold layers else layers) c.if-bounds.false in
    let few = few_planned c.args.bounds.now c.requires.bounds layers c.requires.few in
    let bytes = subst (λ l. bytes_of l ≤ MAX_GROUP_BYTES) same few in
    omega (arith, c.plan_len-else-bounds.ensures.few, words_le_bytes layers, bytes)
