use Rattle.std.proofs.Common.{◌≡◌, ◌<◌, ℕ, sym, ap₂, ◌∙◌, arith}
use Rattle.field_elements.specs.laws.FieldLaws.{times-zero}
use Rattle.gf8.specs.Gf8.{gf8}
use Rattle.gf8.specs.laws.Gf8Laws.{gf8_field}
use Rattle.gf8.proofs.Powers.{power_sum}
use Rattle.gf8.proofs.tables.product.Goals as goal
use Rattle.gf8.proofs.tables.product.Goals.{then-a-eq0-via-then-a-eq0, then-a-eq0-via-else-a-eq0+then-b-eq0}

zero_right : (a : ℕ) → a < 256 → gf8.times a 0 ≡ 0
zero_right = times-zero (λ a. a < 256) gf8 gf8_field

pub returns-then-a-eq0 : goal.returns-then-a-eq0
returns-then-a-eq0 c =
    let a = c.args.a in
    let b = c.args.b in
    let left : gf8.times 0 b ≡ 0 = gf8_field.times_comm 0 b (omega arith) c.ranges.b.fits ∙ zero_right b c.ranges.b.fits in
    elim c.then-a-eq0.branch [
      | then-a-eq0-via-then-a-eq0 w ↦ rw w.if-a-eq0.true (sym left)
      | then-a-eq0-via-else-a-eq0+then-b-eq0 w ↦ rw w.if-b-eq0.true (sym (zero_right a c.ranges.a.fits))
    ]

pub returns : goal.returns
returns c =
    c.power.ensures ∙ sym (power_sum c.exponent.result c.exponent-2.result)
    ∙ ap₂ gf8.times c.exponent.ensures.is c.exponent-2.ensures.is
