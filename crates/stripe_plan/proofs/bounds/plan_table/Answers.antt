use Rattle.std.proofs.Common.{subst, sym, ap, ◌∙◌}
use Rattle.std.specs.Prelude.{Bool, if◌then◌else◌, map}
use Rattle.stripe_plan.specs.Sizes.{IsTable, twofold}
use Rattle.stripe_plan.specs.laws.ByteLaws.{is_planned}
use Rattle.stripe_plan.proofs.bounds.plan_table.Goals as goal

pub known-requires : goal.known-requires
known-requires c =
    let layers = c.args.layers.now in
    let same = ap (λ (flag : Bool). if flag then map twofold layers else layers) c.if-bounds.true in
    let made = same ∙ sym (c.deref.ensures.0 ∙ c.twice.ensures) in
    let is = is_planned c.args.bounds.now c.args.packets layers c.requires.bounds c.requires.table in
    subst (IsTable c.args.packets) made is

pub known-requires-else-bounds : goal.known-requires-else-bounds
known-requires-else-bounds c =
    let layers = c.args.layers.now in
    let same = ap (λ (flag : Bool). if flag then map twofold layers else layers) c.if-bounds.false in
    let is = is_planned c.args.bounds.now c.args.packets layers c.requires.bounds c.requires.table in
    subst (IsTable c.args.packets) same is
