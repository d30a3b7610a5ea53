use Rattle.std.proofs.Common.{◌≡◌, ◌<◌, ◌∙◌, ◌+◌, suc, length, sym, ap, subst, arith}
use Rattle.std.proofs.lemmas.List.{length-set}
use Rattle.field_elements.specs.Gf16.{gf16}
use Rattle.pet_field.specs.Powers.{power_of_x}
use Rattle.pet_field.proofs.Order.{power-one, power-suc, power_below}
use Rattle.pet_field.proofs.Tabled.{AreFilled, filled_none, filled_more, filled_all}
use Rattle.pet_field.proofs.tables.fill.Goals as goal

pub loop-k-init : goal.loop-k-init
loop-k-init c =
    record {
      many = c.requires.many;
      full = c.requires.full;
      current = sym power-one;
      filled = filled_none c.args.powers.now c.args.exponents.now;
    }

pub offset_bounds-exponents-from : goal.offset_bounds-exponents-from
offset_bounds-exponents-from c = omega (arith, c.from.ensures, c.loop-k.invariant.current, power_below c.loop-k.k)

pub bounds-exponents-from : goal.bounds-exponents-from
bounds-exponents-from c =
    omega (arith, c.from.ensures, c.loop-k.invariant.current, power_below c.loop-k.k, c.loop-k.invariant.full)

pub loop-k-preserved : goal.loop-k-preserved
loop-k-preserved c =
    let i = c.loop-k.invariant in
    let next : c.loop-k.k + 1 ≡ suc c.loop-k.k = omega arith in
    let room : c.loop-k.power < length c.loop-k.exponents = omega (arith, i.current, power_below c.loop-k.k, i.full) in
    record {
      many = length-set c.loop-k.powers c.loop-k.k c.loop-k.power ∙ i.many;
      full = length-set c.loop-k.exponents c.from.result c.loop-k.k ∙ i.full;
      current =
          c.twice-power.ensures ∙ ap (gf16.times 2) i.current ∙ sym (power-suc c.loop-k.k) ∙ ap power_of_x (sym next);
      filled =
          rw (c.from.ensures, next) (filled_more c.loop-k.k c.loop-k.power c.loop-k.powers c.loop-k.exponents i.filled
          i.current (omega arith) room);
    }

pub returns : goal.returns
returns c =
    let i = c.loop-k.invariant in
    let done : c.loop-k.k ≡ 65536 = omega arith in
    filled_all c.loop-k.powers c.loop-k.exponents i.many i.full
    (subst (λ k. AreFilled k c.loop-k.powers c.loop-k.exponents) done i.filled)
