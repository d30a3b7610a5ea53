use Rattle.std.proofs.Common.{◌-◌, ◌^◌, ◌+◌, ◌∙◌, ap, refl, arith}
use Rattle.std.proofs.lemmas.Bool.{false≢true}
use Rattle.std.proofs.lemmas.List.Elements.{All-append}
use Rattle.field_transform.proofs.Columns.{scales_columns, scales_none_columns, block_low, block_high, block_middle}
use Rattle.field_transform.proofs.Columns.{block_rest, power_halves}
use Rattle.field_transform.proofs.Zeros.{from_front, from_back, from_end, from_append, scales_low}
use Rattle.field_transform.proofs.Counting.{scale_low_cost, scale_both_cost, scale_none_cost}
use Rattle.field_transform.proofs.Made.{front_are, back_are}
use Rattle.field_transform.proofs.conversion.+scale.Goals as goal

pub scale-requires : goal.scale-requires
scale-requires g t c κs within =
    let a = c.args in
    let s = c.split_at_mut-low in
    let long = block_low a.shift a.level a.width _ a.rows.now s.result.0.now
    (omega arith) c.requires.size refl s.ensures.front in
    let zeros = from_front g.F.Field.coding.ops.nought _ a.known a.rows.now s.result.0.now s.ensures.front
    c.requires.zeros in
    let are = front_are g.F.Field.is_element _ a.rows.now s.result.0.now s.ensures.front c.requires.elements in
    let fits = block_middle a.shift a.level a.width a.rows.now (omega arith) c.requires.size in (
      omega arith,
      (
        within.0,
        (
          within.1.0,
          (
            within.1.1,
            (
              omega arith,
              (
                long,
                (
                  zeros,
                  (
                    are,
                    (
                      omega (arith, long, fits),
                      (c.requires.one, (c.requires.factor, (c.requires.start, c.requires.small))),
                    ),
                  ),
                ),
              ),
            ),
          ),
        ),
      ),
    )

pub scale-requires-else-known-half : goal.scale-requires-else-known-half
scale-requires-else-known-half g t c κs within =
    let a = c.args in
    let s = c.split_at_mut-low in
    let long = block_low a.shift a.level a.width _ a.rows.now s.result.0.now
    (omega arith) c.requires.size refl s.ensures.front in
    let fits = block_middle a.shift a.level a.width a.rows.now (omega arith) c.requires.size in
    let zeros = from_end g.F.Field.coding.ops.nought _ s.result.0.now (omega (arith, long, fits)) in
    let are = front_are g.F.Field.is_element _ a.rows.now s.result.0.now s.ensures.front c.requires.elements in (
      omega arith,
      (
        within.0,
        (
          within.1.0,
          (
            within.1.1,
            (
              omega arith,
              (
                long,
                (
                  zeros,
                  (
                    are,
                    (
                      omega (arith, long, fits),
                      (c.requires.one, (c.requires.factor, (c.requires.start, c.requires.small))),
                    ),
                  ),
                ),
              ),
            ),
          ),
        ),
      ),
    )

pub scale-requires-else-known-half-2 : goal.scale-requires-else-known-half-2
scale-requires-else-known-half-2 g t c κs within =
    let a = c.args in
    let s = c.split_at_mut-low in
    let long = block_high a.shift a.level a.width _ a.rows.now s.result.1.now
    (omega arith) c.requires.size refl s.ensures.back in
    let zeros = from_back g.F.Field.coding.ops.nought _ a.known a.rows.now s.result.1.now s.ensures.back
    c.requires.zeros in
    let are = back_are g.F.Field.is_element _ a.rows.now s.result.1.now s.ensures.back c.requires.elements in
    let fits = block_rest a.shift a.level a.width a.known a.rows.now s.result.1.now
    (omega arith) c.requires.size long c.requires.fits in (
      omega arith,
      (
        within.0,
        (
          within.1.0,
          (
            within.1.1,
            (
              omega arith,
              (
                long,
                (
                  zeros,
                  (
                    are,
                    (
                      fits,
                      (
                        λ t. absurd (false≢true t),
                        (c.requires.factor, (c.product-b.ensures.element, c.requires.small)),
                      ),
                    ),
                  ),
                ),
              ),
            ),
          ),
        ),
      ),
    )

pub returns-then-level-eq0-clause-products : goal.returns-then-level-eq0-clause-products
returns-then-level-eq0-clause-products g t c =
    let a = c.args in
    scales_none_columns g.F.Field.coding.ops a.width a.level a.shift a.g a.a
    (2 ^ (a.shift + a.level)) a.rows.now c.multiply.new.words (omega arith) c.requires.size
    c.multiply.ensures.products

pub returns-then-level-eq0-clause-cost : goal.returns-then-level-eq0-clause-cost
returns-then-level-eq0-clause-cost g t c =
    scale_none_cost c.args.level c.args.shift c.args.width c.args.known c.args.steps.now c.multiply.new.steps
    c.args.known c.args.first (omega arith)
    (omega (arith, c.requires.size, c.requires.fits)) refl c.multiply.ensures.free c.multiply.ensures.cost

pub returns-then-known-half-clause-products : goal.returns-then-known-half-clause-products
returns-then-known-half-clause-products g t c =
    let a = c.args in
    let s = c.split_at_mut-low in
    let F = g.F.Field in
    let k = 2 ^ (a.shift + (a.level - 1)) in
    scales_low F.is_element F.coding.ops g.met.F.Field.lawful.field a.width a.level (a.level - 1) a.shift a.g a.a _ k
    (2 ^ (a.shift + a.level)) a.rows.now s.result.0.now
    s.result.1.now c.scale.new.rows (omega arith) refl
    (power_halves a.shift a.level (omega arith)) c.requires.size refl s.ensures.front s.ensures.back
    (c.scale.auto.rows
    ∙ block_low a.shift a.level a.width _ a.rows.now s.result.0.now (omega arith) c.requires.size refl s.ensures.front)
    c.requires.start c.requires.factor
    (λ i. from_back F.coding.ops.nought _ a.known a.rows.now s.result.1.now s.ensures.back c.requires.zeros i
    (omega arith)) c.scale.ensures.products

pub returns-then-known-half-clause-cost : goal.returns-then-known-half-clause-cost
returns-then-known-half-clause-cost g t c =
    let a = c.args in
    scale_low_cost a.level (a.level - 1) a.shift a.width _ a.known a.steps.now c.scale.new.steps a.first (omega arith)
    (block_middle a.shift a.level a.width a.rows.now (omega arith) c.requires.size) (omega arith) c.scale.ensures.cost

pub returns-else-known-half-clause-cost : goal.returns-else-known-half-clause-cost
returns-else-known-half-clause-cost g t c =
    let a = c.args in
    scale_both_cost a.level (a.level - 1) a.shift a.width _ a.known a.steps.now c.squares.new.steps
    c.product-b.new.steps c.scale-else-known-half.new.steps
    c.scale-else-known-half-2.new.steps a.first (omega arith)
    (block_middle a.shift a.level a.width a.rows.now (omega arith) c.requires.size) (omega arith)
    c.squares.ensures.cost c.product-b.ensures.cost c.scale-else-known-half.ensures.cost
    c.scale-else-known-half-2.ensures.cost

pub returns-else-known-half-clause-products : goal.returns-else-known-half-clause-products
returns-else-known-half-clause-products g t c =
    let a = c.args in
    let s = c.split_at_mut-low in
    let o = g.F.Field.coding.ops in
    let long = block_low a.shift a.level a.width _ a.rows.now s.result.0.now
    (omega arith) c.requires.size refl s.ensures.front in
    scales_columns o a.width a.level (a.level - 1) a.shift a.g a.a c.product-b.result _ (2 ^ (a.shift + (a.level - 1)))
    (2 ^ (a.shift + a.level)) a.rows.now s.result.0.now
    s.result.1.now c.scale-else-known-half.new.rows c.scale-else-known-half-2.new.rows (omega arith) refl
    (power_halves a.shift a.level (omega arith)) c.requires.size refl
    s.ensures.front s.ensures.back (c.scale-else-known-half.auto.rows ∙ long)
    (c.product-b.ensures.product ∙ ap (o.times a.a) c.squares.ensures.value)
    c.scale-else-known-half.ensures.products c.scale-else-known-half-2.ensures.products

pub returns-else-known-half-clause-zeros : goal.returns-else-known-half-clause-zeros
returns-else-known-half-clause-zeros g t c =
    let a = c.args in
    let s = c.split_at_mut-low in
    let z = g.F.Field.coding.ops.nought in
    let low = c.scale-else-known-half.new.rows in
    let long = c.scale-else-known-half.auto.rows
    ∙ block_low a.shift a.level a.width _ a.rows.now s.result.0.now
    (omega arith) c.requires.size refl s.ensures.front in
    let half = block_middle a.shift a.level a.width a.rows.now (omega arith) c.requires.size in
    from_append z a.known low c.scale-else-known-half-2.new.rows (from_end z a.known low (omega (arith, long, half)))
    (λ i l. c.scale-else-known-half-2.ensures.zeros i (omega (arith, long, half)))

pub returns-then-known-half-clause-zeros : goal.returns-then-known-half-clause-zeros
returns-then-known-half-clause-zeros g t c =
    let s = c.split_at_mut-low in
    from_append g.F.Field.coding.ops.nought c.args.known c.scale.new.rows s.result.1.now c.scale.ensures.zeros
    (λ i l. from_back g.F.Field.coding.ops.nought _ c.args.known c.args.rows.now s.result.1.now s.ensures.back
    c.requires.zeros i (omega arith))

pub returns-then-known-half-clause-elements : goal.returns-then-known-half-clause-elements
returns-then-known-half-clause-elements g t c =
    All-append g.F.Field.is_element c.scale.new.rows c.split_at_mut-low.result.1.now c.scale.ensures.elements
    (back_are g.F.Field.is_element _ c.args.rows.now c.split_at_mut-low.result.1.now c.split_at_mut-low.ensures.back
    c.requires.elements)

pub returns-else-known-half-clause-elements : goal.returns-else-known-half-clause-elements
returns-else-known-half-clause-elements g t c =
    All-append g.F.Field.is_element c.scale-else-known-half.new.rows c.scale-else-known-half-2.new.rows
    c.scale-else-known-half.ensures.elements
    c.scale-else-known-half-2.ensures.elements

pub returns-then-level-eq0-clause-zeros : goal.returns-then-level-eq0-clause-zeros
returns-then-level-eq0-clause-zeros g t c = c.multiply.ensures.zeros

pub returns-then-level-eq0-clause-elements : goal.returns-then-level-eq0-clause-elements
returns-then-level-eq0-clause-elements g t c = c.multiply.ensures.elements
