use Rattle.std.proofs.Common.{◌≡◌, ◌+◌, ◌-◌, sym, ap, ap₂, ◌∙◌, arith}
use Rattle.gf8.specs.Gf8.{gf8}
use Rattle.gf8.specs.inside.Powers.{power_of_x}
use Rattle.gf8.proofs.Powers.{power_sum, power_order}
use Rattle.gf8.proofs.tables.inverse.Goals as goal

pub returns : goal.returns
returns c =
    let k = c.exponent.result in
    let e : k + (255 - k) ≡ 255 = omega (arith, c.exponent.ensures.below) in
    ap₂ gf8.times (sym c.exponent.ensures.is) c.power.ensures ∙ power_sum k (255 - k) ∙ ap power_of_x e ∙ power_order
