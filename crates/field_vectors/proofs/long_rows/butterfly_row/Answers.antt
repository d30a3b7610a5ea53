use Rattle.std.proofs.Common.{ℕ, ◌+◌, ◌≡◌, ◌<◌, ◌≤◌, ◌∙◌, length, get_or, refl, sym, ap₂, arith}
use Rattle.field_vectors.specs.laws.LaneLaws.{none_made, more_made}
use Rattle.field_vectors.proofs.long_rows.butterfly_row.Goals as goal

pub loop-at-preserved : goal.loop-at-preserved
loop-at-preserved g c =
    let o = g.P.Prepared.ops in
    let z = o.nought in
    let at = c.loop-at.at in
    let low = c.args.low.now in
    let high = c.args.high.now in
    let T = o.times (g.P.Prepared.factor c.args.by.now) in
    let s = c.butterfly_at in
    let i = c.loop-at.invariant in
    let far : (k : ℕ) → at + c.min.result ≤ k → k < length high → at + 32 ≤ k = λ k l m. omega (arith, i.high.long) in
    let here : (k : ℕ) → k < 32 → at + k < length high
    → get_or s.new.low (at + k) z ≡ o.plus (get_or low (at + k) z) (T (get_or high (at + k) z)) =
    λ k l m.
    s.ensures.low k l (omega (arith, i.high.long))
    ∙ ap₂ (λ a b. o.plus a (T b)) (i.low.others (at + k) (omega arith)) (i.high.others (at + k) (omega arith)) in
    record {
      inside = omega (arith, s.auto.high);
      low =
          more_made z at c.min.result _ low c.loop-at.low s.new.low _ c.requires i.low s.auto.low (omega arith) far
          s.ensures.before_low (λ k l m e. here k l m) s.ensures.behind_low (omega (arith, i.high.long));
      high =
          more_made z at c.min.result _ high c.loop-at.high s.new.high _ refl i.high s.auto.high (omega arith) far
          s.ensures.before_high
          (λ k l m e. s.ensures.high k l (omega (arith, i.high.long)) ∙ ap₂ o.plus e (here k l m))
          s.ensures.behind_high (omega (arith, i.high.long));
    }

pub loop-at-init : goal.loop-at-init
loop-at-init g c =
    record {
      inside = omega arith;
      low = none_made _ _ c.args.low.now _ c.requires;
      high = none_made _ _ c.args.high.now _ refl;
    }

pub returns-clause-low : goal.returns-clause-low
returns-clause-low g c i l = c.loop-at.invariant.low.done i (omega (arith, c.loop-at.invariant.high.long))

pub returns-clause-high : goal.returns-clause-high
returns-clause-high g c i l =
    let m = c.loop-at.invariant in
    m.high.done i (omega (arith, m.high.long)) ∙ ap₂ g.P.Prepared.ops.plus refl (sym (m.low.done i (omega (arith, m.high.long))))
