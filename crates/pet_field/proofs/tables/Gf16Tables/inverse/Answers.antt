use Rattle.std.proofs.Common.{◌≡◌, ◌<◌, ◌-◌, ◌∙◌, ap, refl, arith}
use Rattle.field_elements.specs.Gf16.{gf16}
use Rattle.pet_field.specs.Powers.{power_of_x}
use Rattle.pet_field.proofs.Tabled.{inverse_at, power_read, exponent_read}
use Rattle.pet_field.proofs.tables.Gf16Tables.inverse.Goals as goal

pub returns : goal.returns
returns c =
    let t = c.self.invariant in
    let powers = c.self.inside.powers.items in
    let exponents = c.self.inside.exponents.items in
    let positive : 0 < c.args.a = c.requires in
    let exponent : power_of_x c.index.result.now ≡ c.args.a =
    exponent_read powers exponents c.args.a c.index.result.now t positive c.ranges.a.fits
    (rw c.from.ensures at c.index.ensures) in
    let whole : power_of_x c.from-exponent.result ≡ c.args.a = ap power_of_x c.from-exponent.ensures ∙ exponent in
    let power : c.index-2.result.now ≡ power_of_x (65535 - c.from-exponent.result) =
    power_read powers exponents (65535 - c.from-exponent.result) c.index-2.result.now t
    (omega arith) c.index-2.ensures in
    ap (gf16.times c.args.a) power ∙ inverse_at 65535 refl c.args.a c.from-exponent.result (omega arith) whole
