use Rattle.std.proofs.Common.{◌-◌, ◌^◌, ◌*◌, ◌+◌, ◌<◌, ◌≡◌, ◌∙◌, length, bit_xor, refl, sym, ap, subst, arith}
use Rattle.std.proofs.lemmas.Bool.{lt-ltb, le-ltb}
use Rattle.std.proofs.lemmas.List.Elements.{All-append}
use Rattle.field_transform.specs.Basis.{hats}
use Rattle.field_transform.proofs.Columns.{flies_columns, flies_low_columns, flies_none_columns, halves_alike}
use Rattle.field_transform.proofs.Columns.{length_low, length_high, power_half}
use Rattle.field_transform.proofs.Counting.{fly_cost, fly_low_cost, fly_none_cost}
use Rattle.field_transform.proofs.Kernels.{hat_nothing}
use Rattle.field_transform.proofs.Made.{front_are, back_are}
use Rattle.field_transform.proofs.Places.{shift_32, shift_64}
use Rattle.field_transform.proofs.butterflies.+fly.Goals as goal

pub add_multiple-requires-clause-same : goal.add_multiple-requires-clause-same
add_multiple-requires-clause-same g t c =
    let a = c.args in
    let s = c.split_at_mut-low in
    halves_alike (2 ^ a.level) (2 ^ (a.level - 1)) a.width _ a.rows.now s.result.0.now s.result.1.now
    (power_half a.level (omega arith)) c.requires.size refl s.ensures.front
    s.ensures.back

pub add_multiple-requires-clause-first : goal.add_multiple-requires-clause-first
add_multiple-requires-clause-first g t c =
    front_are g.F.Field.is_element _ c.args.rows.now c.split_at_mut-low.result.0.now c.split_at_mut-low.ensures.front
    c.requires.elements

pub add_multiple-requires-clause-second : goal.add_multiple-requires-clause-second
add_multiple-requires-clause-second g t c =
    back_are g.F.Field.is_element _ c.args.rows.now c.split_at_mut-low.result.1.now c.split_at_mut-low.ensures.back
    c.requires.elements

pub add_multiple-requires-clause-nothing : goal.add_multiple-requires-clause-nothing
add_multiple-requires-clause-nothing g t c e =
    let k = c.args.level - 1 in
    hat_nothing g.F.Field.is_element g.F.Field.coding.ops g.met.F.Field.lawful.field g.F.Field.COUNT
    g.F.Field.coding.point_of g.met.F.Field.lawful.points g.F.Subspaces.LEVELS g.F.Subspaces.factor
    g.F.Subspaces.inverse g.met.F.Subspaces.subspaces k c.args.c _ _ _ (omega arith)
    c.hat-by.ensures.value c.point_at.ensures.point (shift_32 k (omega arith)) e

pub butterfly-requires-clause-same : goal.butterfly-requires-clause-same
butterfly-requires-clause-same g t c =
    let a = c.args in
    let s = c.split_at_mut-low in
    halves_alike (2 ^ a.level) (2 ^ (a.level - 1)) a.width _ a.rows.now s.result.0.now s.result.1.now
    (power_half a.level (omega arith)) c.requires.size refl s.ensures.front
    s.ensures.back

pub butterfly-requires-clause-first : goal.butterfly-requires-clause-first
butterfly-requires-clause-first g t c =
    front_are g.F.Field.is_element _ c.args.rows.now c.split_at_mut-low.result.0.now c.split_at_mut-low.ensures.front
    c.requires.elements

pub butterfly-requires-clause-second : goal.butterfly-requires-clause-second
butterfly-requires-clause-second g t c =
    back_are g.F.Field.is_element _ c.args.rows.now c.split_at_mut-low.result.1.now c.split_at_mut-low.ensures.back
    c.requires.elements

pub butterfly-requires-clause-nothing : goal.butterfly-requires-clause-nothing
butterfly-requires-clause-nothing g t c e =
    let k = c.args.level - 1 in
    hat_nothing g.F.Field.is_element g.F.Field.coding.ops g.met.F.Field.lawful.field g.F.Field.COUNT
    g.F.Field.coding.point_of g.met.F.Field.lawful.points g.F.Subspaces.LEVELS g.F.Subspaces.factor
    g.F.Subspaces.inverse g.met.F.Subspaces.subspaces k c.args.c _ _ _ (omega arith)
    c.hat-by.ensures.value c.point_at.ensures.point (shift_32 k (omega arith)) e

pub fly-requires : goal.fly-requires
fly-requires g t c κs within =
    let n = c.args.level in
    let k = n - 1 in
    let e : 2 ^ n ≡ 2 ^ k + 2 ^ k = power_half n (omega arith) in
    let s = c.split_at_mut-low in
    let long = c.add_multiple.auto.into
    ∙ length_low (2 ^ n)
    (2 ^ k) c.args.width _ c.args.rows.now s.result.0.now e c.requires.size refl s.ensures.front in (
      omega arith,
      (
        within.0,
        (
          within.1.0,
          (
            within.1.1,
            (
              omega arith,
              (
                long,
                (
                  omega (arith, shift_64 k (omega arith)),
                  (c.requires.coset, (c.add_multiple.ensures.elements, c.requires.small)),
                ),
              ),
            ),
          ),
        ),
      ),
    )

pub fly-requires-else-count-half : goal.fly-requires-else-count-half
fly-requires-else-count-half g t c κs within =
    let n = c.args.level in
    let k = n - 1 in
    let e : 2 ^ n ≡ 2 ^ k + 2 ^ k = power_half n (omega arith) in
    let s = c.split_at_mut-low in
    let long = c.butterfly.auto.low
    ∙ length_low (2 ^ n)
    (2 ^ k) c.args.width _ c.args.rows.now s.result.0.now e c.requires.size refl s.ensures.front in (
      omega arith,
      (
        within.0,
        (
          within.1.0,
          (
            within.1.1,
            (
              omega arith,
              (
                long,
                (
                  omega (arith, shift_64 k (omega arith)),
                  (c.requires.coset, (c.butterfly.ensures.elements, c.requires.small)),
                ),
              ),
            ),
          ),
        ),
      ),
    )

pub fly-requires-else-count-half-2 : goal.fly-requires-else-count-half-2
fly-requires-else-count-half-2 g t c κs within =
    let n = c.args.level in
    let k = n - 1 in
    let e : 2 ^ n ≡ 2 ^ k + 2 ^ k = power_half n (omega arith) in
    let s = c.split_at_mut-low in
    let long = c.butterfly.auto.high
    ∙ length_high (2 ^ n) (2 ^ k) c.args.width _ c.args.rows.now s.result.1.now e c.requires.size refl s.ensures.back in
    let S = g.met.F.Subspaces.subspaces in
    let coset =
    subst (λ b. bit_xor c.args.c b < g.F.Field.COUNT) (sym (shift_32 k (omega arith)))
    (S.sums.closed c.args.c (2 ^ k) c.requires.coset (S.room k (omega arith))) in (
      omega arith,
      (
        within.0,
        (
          within.1.0,
          (
            within.1.1,
            (
              omega arith,
              (
                long,
                (
                  omega (arith, shift_64 k (omega arith), e, c.requires.count),
                  (coset, (c.butterfly.ensures.others, c.requires.small)),
                ),
              ),
            ),
          ),
        ),
      ),
    )

pub returns-then-count-half-clause-values : goal.returns-then-count-half-clause-values
returns-then-count-half-clause-values g t c =
    let n = c.args.level in
    let k = n - 1 in
    let e : 2 ^ n ≡ 2 ^ k + 2 ^ k = power_half n (omega arith) in
    let w = c.args.width in
    let rows = c.args.rows.now in
    let s = c.split_at_mut-low in
    let o = g.F.Field.coding.ops in
    let by_is = c.hat-by.ensures.value ∙ ap (hats o g.F.Subspaces.inverse k) c.point_at.ensures.point in
    let long : length c.add_multiple.new.into ≡ 2 ^ k * w =
    c.add_multiple.auto.into
    ∙ length_low (2 ^ n) (2 ^ k) w _ rows s.result.0.now e c.requires.size refl s.ensures.front in
    flies_low_columns o g.F.Subspaces.inverse g.F.Field.coding.point_of w n k c.args.c c.hat-by.result _ rows
    s.result.0.now s.result.1.now c.add_multiple.new.into (omega arith)
    c.requires.size refl s.ensures.front s.ensures.back by_is c.add_multiple.ensures.sums c.args.count c.fly.new.rows
    (omega (arith, shift_64 k (omega arith))) (c.fly.auto.rows ∙ long)
    c.fly.ensures.values

pub returns-then-count-half-clause-elements : goal.returns-then-count-half-clause-elements
returns-then-count-half-clause-elements g t c =
    All-append g.F.Field.is_element c.fly.new.rows c.split_at_mut-low.result.1.now c.fly.ensures.elements
    (back_are g.F.Field.is_element _ c.args.rows.now c.split_at_mut-low.result.1.now c.split_at_mut-low.ensures.back
    c.requires.elements)

pub returns-then-count-half-clause-cost : goal.returns-then-count-half-clause-cost
returns-then-count-half-clause-cost g t c =
    let n = c.args.level in
    let k = n - 1 in
    let e : 2 ^ n ≡ 2 ^ k + 2 ^ k = power_half n (omega arith) in
    fly_low_cost n k c.args.width c.args.c _ c.args.count c.args.steps.now c.hat-by.new.steps c.add_multiple.new.steps
    c.fly.new.steps (length c.split_at_mut-low.result.1.now)
    (omega arith) (length_high (2 ^ n) (2 ^ k) c.args.width _ c.args.rows.now c.split_at_mut-low.result.1.now e
    c.requires.size refl c.split_at_mut-low.ensures.back)
    (shift_64 k (omega arith)) (omega arith) c.hat-by.ensures.cost
    (λ l. c.add_multiple.ensures.free (lt-ltb c.args.c _ (omega (arith, l, shift_32 k (omega arith)))))
    (λ l. c.add_multiple.ensures.cost (le-ltb c.args.c _ (omega (arith, l, shift_32 k (omega arith)))))
    c.fly.ensures.cost

pub returns-else-count-half-clause-values : goal.returns-else-count-half-clause-values
returns-else-count-half-clause-values g t c =
    let n = c.args.level in
    let k = n - 1 in
    let e : 2 ^ n ≡ 2 ^ k + 2 ^ k = power_half n (omega arith) in
    let w = c.args.width in
    let rows = c.args.rows.now in
    let s = c.split_at_mut-low in
    let o = g.F.Field.coding.ops in
    let S = g.met.F.Subspaces.subspaces in
    let by_is = c.hat-by.ensures.value ∙ ap (hats o g.F.Subspaces.inverse k) c.point_at.ensures.point in
    let long : length c.butterfly.new.low ≡ 2 ^ k * w =
    c.butterfly.auto.low ∙ length_low (2 ^ n) (2 ^ k) w _ rows s.result.0.now e c.requires.size refl s.ensures.front in
    flies_columns o g.F.Subspaces.inverse g.F.Field.coding.point_of w n k c.args.c c.hat-by.result _ rows
    s.result.0.now s.result.1.now c.butterfly.new.low (omega arith)
    c.requires.size refl s.ensures.front s.ensures.back by_is c.butterfly.ensures.low _ _ c.args.count
    c.butterfly.new.high c.fly-else-count-half.new.rows
    c.fly-else-count-half-2.new.rows (shift_32 k (omega arith)) (shift_64 k (omega arith)) (omega arith)
    (S.sums.sum c.args.c (2 ^ k) c.requires.coset (S.room k (omega arith))) long
    (c.fly-else-count-half.auto.rows ∙ long) c.butterfly.ensures.high
    c.fly-else-count-half.ensures.values c.fly-else-count-half-2.ensures.values

pub returns-else-count-half-clause-elements : goal.returns-else-count-half-clause-elements
returns-else-count-half-clause-elements g t c =
    All-append g.F.Field.is_element c.fly-else-count-half.new.rows c.fly-else-count-half-2.new.rows
    c.fly-else-count-half.ensures.elements
    c.fly-else-count-half-2.ensures.elements

pub returns-else-count-half-clause-cost : goal.returns-else-count-half-clause-cost
returns-else-count-half-clause-cost g t c =
    let n = c.args.level in
    let k = n - 1 in
    let e : 2 ^ n ≡ 2 ^ k + 2 ^ k = power_half n (omega arith) in
    fly_cost n k c.args.width c.args.c _ _ c.args.count c.args.steps.now c.hat-by.new.steps c.butterfly.new.steps
    c.fly-else-count-half.new.steps
    c.fly-else-count-half-2.new.steps (length c.split_at_mut-low.result.1.now) (omega arith)
    (length_high (2 ^ n) (2 ^ k) c.args.width _ c.args.rows.now c.split_at_mut-low.result.1.now e c.requires.size refl
    c.split_at_mut-low.ensures.back)
    (shift_64 k (omega arith)) (shift_32 k (omega arith)) (omega arith) c.hat-by.ensures.cost
    (λ l. c.butterfly.ensures.free (lt-ltb c.args.c _ (omega (arith, l, shift_32 k (omega arith)))))
    (λ l. c.butterfly.ensures.cost (le-ltb c.args.c _ (omega (arith, l, shift_32 k (omega arith)))))
    c.fly-else-count-half.ensures.cost c.fly-else-count-half-2.ensures.cost

pub returns-else-level-gt0-clause-values : goal.returns-else-level-gt0-clause-values
returns-else-level-gt0-clause-values g t c =
    flies_none_columns g.F.Field.coding.ops g.F.Subspaces.inverse g.F.Field.coding.point_of c.args.width c.args.level
    c.args.c c.args.count c.args.rows.now (λ _. omega arith)

pub returns-else-level-gt0-clause-cost : goal.returns-else-level-gt0-clause-cost
returns-else-level-gt0-clause-cost g t c =
    fly_none_cost c.args.level c.args.width c.args.c c.args.count c.args.steps.now (omega arith)
