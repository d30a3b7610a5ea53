use Rattle.std.proofs.Common.{◌^◌, ◌+◌, ◌∙◌, refl, arith}
use Rattle.std.proofs.lemmas.List.Elements.{All-append}
use Rattle.field_transform.proofs.Columns.{expands_pairs, expands_none_columns, pairs_low, pairs_high, pairs_middle}
use Rattle.field_transform.proofs.Zeros.{from_front, from_back, from_end, from_append, expands_low}
use Rattle.field_transform.proofs.Made.{front_are, back_are}
use Rattle.field_transform.proofs.conversion.+expand.Goals as goal

pub lift-requires-clause-first : goal.lift-requires-clause-first
lift-requires-clause-first g t c =
    let a = c.args in
    let s = c.split_at_mut-low in
    pairs_low a.shift a.level a.width _ a.rows.now (omega arith) c.requires.size refl s.result.0.now s.ensures.front

pub lift-requires-clause-second : goal.lift-requires-clause-second
lift-requires-clause-second g t c =
    let a = c.args in
    let s = c.split_at_mut-low in
    pairs_high a.shift a.level a.width _ a.rows.now (omega arith) c.requires.size refl s.result.1.now s.ensures.back

pub lift-requires-clause-zeros : goal.lift-requires-clause-zeros
lift-requires-clause-zeros g t c =
    from_back g.F.Field.coding.ops.nought _ c.args.known c.args.rows.now c.split_at_mut-low.result.1.now
    c.split_at_mut-low.ensures.back c.requires.zeros

pub expand-requires : goal.expand-requires
expand-requires g t c κs within =
    let a = c.args in
    let s = c.split_at_mut-low in
    let long = pairs_low a.shift a.level a.width _ a.rows.now
    (omega arith) c.requires.size refl s.result.0.now s.ensures.front in
    let zeros = from_front g.F.Field.coding.ops.nought _ a.known a.rows.now s.result.0.now s.ensures.front
    c.requires.zeros in
    let are = front_are g.F.Field.is_element _ a.rows.now s.result.0.now s.ensures.front c.requires.elements in
    (omega arith, (within.0, (within.1, (omega arith, (long, (zeros, (are, c.requires.small)))))))

pub expand-requires-else-known-half : goal.expand-requires-else-known-half
expand-requires-else-known-half g t c κs within =
    let a = c.args in
    let s = c.split_at_mut-low in
    let long = c.lift.auto.low
    ∙ pairs_low a.shift a.level a.width _ a.rows.now
    (omega arith) c.requires.size refl s.result.0.now s.ensures.front in
    let half = pairs_middle a.shift a.level a.width _ a.rows.now (omega arith) c.requires.size refl in
    let zeros = from_end g.F.Field.coding.ops.nought _ c.lift.new.low (omega (arith, long, half)) in
    (omega arith, (within.0, (within.1, (omega arith, (long, (zeros, (c.lift.ensures.lower, c.requires.small)))))))

pub expand-requires-else-known-half-2 : goal.expand-requires-else-known-half-2
expand-requires-else-known-half-2 g t c κs within =
    let a = c.args in
    let s = c.split_at_mut-low in
    let long = c.lift.auto.high
    ∙ pairs_high a.shift a.level a.width _ a.rows.now
    (omega arith) c.requires.size refl s.result.1.now s.ensures.back in (
      omega arith,
      (within.0, (within.1, (omega arith, (long, (c.lift.ensures.zeros, (c.lift.ensures.higher, c.requires.small)))))),
    )

pub returns-then-known-half-clause-expanded : goal.returns-then-known-half-clause-expanded
returns-then-known-half-clause-expanded g t c =
    let a = c.args in
    let s = c.split_at_mut-low in
    expands_low g.F.Field.is_element g.F.Field.coding.ops g.met.F.Field.lawful.field a.shift a.level a.width _
    a.rows.now s.result.0.now s.result.1.now c.expand.new.rows (omega arith)
    c.requires.size refl s.ensures.front s.ensures.back c.expand.auto.rows c.requires.elements
    (λ i. from_back g.F.Field.coding.ops.nought _ a.known a.rows.now s.result.1.now s.ensures.back c.requires.zeros i
    (omega arith)) c.expand.ensures.expanded

pub returns-then-known-half-clause-zeros : goal.returns-then-known-half-clause-zeros
returns-then-known-half-clause-zeros g t c =
    let s = c.split_at_mut-low in
    from_append g.F.Field.coding.ops.nought c.args.known c.expand.new.rows s.result.1.now c.expand.ensures.zeros
    (λ i l. from_back g.F.Field.coding.ops.nought _ c.args.known c.args.rows.now s.result.1.now s.ensures.back
    c.requires.zeros i (omega arith))

pub returns-else-known-half-clause-expanded : goal.returns-else-known-half-clause-expanded
returns-else-known-half-clause-expanded g t c =
    let a = c.args in
    let s = c.split_at_mut-low in
    let long = c.expand-else-known-half.auto.rows ∙ c.lift.auto.low
    ∙ pairs_low a.shift a.level a.width _ a.rows.now
    (omega arith) c.requires.size refl s.result.0.now s.ensures.front in
    expands_pairs g.F.Field.coding.ops a.shift a.level a.width _ a.rows.now s.result.0.now s.result.1.now
    c.lift.new.low c.lift.new.high c.expand-else-known-half.new.rows
    c.expand-else-known-half-2.new.rows
    (omega arith) c.requires.size refl s.ensures.front s.ensures.back long c.lift.ensures.lifted
    c.expand-else-known-half.ensures.expanded c.expand-else-known-half-2.ensures.expanded

pub returns-else-known-half-clause-zeros : goal.returns-else-known-half-clause-zeros
returns-else-known-half-clause-zeros g t c =
    let a = c.args in
    let s = c.split_at_mut-low in
    let long = c.expand-else-known-half.auto.rows ∙ c.lift.auto.low
    ∙ pairs_low a.shift a.level a.width _ a.rows.now
    (omega arith) c.requires.size refl s.result.0.now s.ensures.front in
    let half = pairs_middle a.shift a.level a.width _ a.rows.now (omega arith) c.requires.size refl in
    from_append g.F.Field.coding.ops.nought a.known c.expand-else-known-half.new.rows
    c.expand-else-known-half-2.new.rows
    (from_end g.F.Field.coding.ops.nought a.known c.expand-else-known-half.new.rows (omega (arith, long, half)))
    (λ i l. c.expand-else-known-half-2.ensures.zeros i (omega (arith, long, half)))

pub returns-else-level-gt0-clause-expanded : goal.returns-else-level-gt0-clause-expanded
returns-else-level-gt0-clause-expanded g t c =
    expands_none_columns g.F.Field.coding.ops c.args.width c.args.level c.args.shift
    (2 ^ (c.args.shift + c.args.level + 1)) c.args.rows.now (omega arith)

pub lift-requires-clause-lower : goal.lift-requires-clause-lower
lift-requires-clause-lower g t c =
    front_are g.F.Field.is_element _ c.args.rows.now c.split_at_mut-low.result.0.now c.split_at_mut-low.ensures.front
    c.requires.elements

pub lift-requires-clause-higher : goal.lift-requires-clause-higher
lift-requires-clause-higher g t c =
    back_are g.F.Field.is_element _ c.args.rows.now c.split_at_mut-low.result.1.now c.split_at_mut-low.ensures.back
    c.requires.elements

pub returns-then-known-half-clause-elements : goal.returns-then-known-half-clause-elements
returns-then-known-half-clause-elements g t c =
    All-append g.F.Field.is_element c.expand.new.rows c.split_at_mut-low.result.1.now c.expand.ensures.elements
    (back_are g.F.Field.is_element _ c.args.rows.now c.split_at_mut-low.result.1.now c.split_at_mut-low.ensures.back
    c.requires.elements)

pub returns-else-known-half-clause-elements : goal.returns-else-known-half-clause-elements
returns-else-known-half-clause-elements g t c =
    All-append g.F.Field.is_element c.expand-else-known-half.new.rows c.expand-else-known-half-2.new.rows
    c.expand-else-known-half.ensures.elements
    c.expand-else-known-half-2.ensures.elements
