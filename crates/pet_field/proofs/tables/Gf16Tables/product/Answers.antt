use Rattle.std.proofs.Common.{◌≡◌, ◌∙◌, ◌+◌, sym, ap, ap₂, arith}
use Rattle.pet_field.specs.Powers.{power_of_x}
use Rattle.pet_field.proofs.Tabled.{zero_left, zero_right, product_at, power_read, exponent_read}
use Rattle.pet_field.proofs.tables.Gf16Tables.product.Goals as goal
use Rattle.pet_field.proofs.tables.Gf16Tables.product.Goals.{then-a-eq0-via-then-a-eq0}
use Rattle.pet_field.proofs.tables.Gf16Tables.product.Goals.{then-a-eq0-via-else-a-eq0+then-b-eq0}

pub returns-then-a-eq0 : goal.returns-then-a-eq0
returns-then-a-eq0 c =
    elim c.then-a-eq0.branch [
      | then-a-eq0-via-then-a-eq0 w ↦ rw w.if-a-eq0.true (sym (zero_left c.args.b c.ranges.b.fits))
      | then-a-eq0-via-else-a-eq0+then-b-eq0 w ↦ rw w.if-b-eq0.true (sym (zero_right c.args.a c.ranges.a.fits))
    ]

pub returns : goal.returns
returns c =
    let t = c.self.invariant in
    let powers = c.self.inside.powers.items in
    let exponents = c.self.inside.exponents.items in
    let first : power_of_x c.index.result.now ≡ c.args.a =
    exponent_read powers exponents c.args.a c.index.result.now t (omega arith) c.ranges.a.fits
    (rw c.from.ensures at c.index.ensures) in
    let second : power_of_x c.index-2.result.now ≡ c.args.b =
    exponent_read powers exponents c.args.b c.index-2.result.now t (omega arith) c.ranges.b.fits
    (rw c.from-2.ensures at c.index-2.ensures) in
    let sum : c.from-first.result + c.from-second.result ≡ c.index.result.now + c.index-2.result.now =
    ap₂ (λ x y. x + y) c.from-first.ensures c.from-second.ensures in
    power_read powers exponents c.around.result c.index-3.result.now t c.around.ensures.below c.index-3.ensures
    ∙ product_at c.args.a c.args.b c.index.result.now c.index-2.result.now c.around.result first second
    (c.around.ensures.same ∙ ap power_of_x sum)
