use Rattle.std.proofs.Common.{◌^◌, ◌+◌, ◌∙◌, refl, sym, arith}
use Rattle.std.proofs.lemmas.List.Elements.{All-append}
use Rattle.field_transform.proofs.Columns.{lifts_columns, length_low, length_high, middle, power_next}
use Rattle.field_transform.proofs.Zeros.{from_back, third_zeros, lifted_zeros}
use Rattle.field_transform.proofs.Made.{front_are, back_are}
use Rattle.field_transform.proofs.conversion.lift.Goals as goal

pub add_words-requires-clause-same : goal.add_words-requires-clause-same
add_words-requires-clause-same g c =
    let q = c.args.quarter in
    let w = c.args.width in
    let high = c.args.high.now in
    let s = c.split_at_mut-third in
    length_low (2 ^ (q + 1)) (2 ^ q) w _ high s.result.0.now (power_next q) c.requires.second refl s.ensures.front
    ∙ sym (length_high (2 ^ (q + 1)) (2 ^ q) w _ high s.result.1.now
    (power_next q) c.requires.second refl s.ensures.back)

pub add_words-requires-clause-zeros : goal.add_words-requires-clause-zeros
add_words-requires-clause-zeros g c i l =
    from_back g.F.Field.coding.ops.nought _ c.args.known c.args.high.now c.split_at_mut-third.result.1.now
    c.split_at_mut-third.ensures.back c.requires.zeros i (omega arith)

pub add_words-requires-2-clause-same : goal.add_words-requires-2-clause-same
add_words-requires-2-clause-same g c =
    let q = c.args.quarter in
    let w = c.args.width in
    let f = c.split_at_mut-first in
    let s = c.split_at_mut-third in
    length_high (2 ^ (q + 1)) (2 ^ q) w _ c.args.low.now f.result.1.now
    (power_next q) c.requires.first refl f.ensures.back
    ∙ sym (c.add_words.auto.into
    ∙ length_low (2 ^ (q + 1)) (2 ^ q) w _ c.args.high.now s.result.0.now
    (power_next q) c.requires.second refl s.ensures.front)

pub add_words-requires-2-clause-zeros : goal.add_words-requires-2-clause-zeros
add_words-requires-2-clause-zeros g c =
    third_zeros g.F.Field.is_element g.F.Field.coding.ops g.met.F.Field.lawful.field c.args.known _ c.args.high.now
    c.split_at_mut-third.result.0.now c.split_at_mut-third.result.1.now c.add_words.new.into
    c.split_at_mut-third.ensures.front
    c.split_at_mut-third.ensures.back c.add_words.auto.into
    (length_low (2 ^ (c.args.quarter + 1)) (2 ^ c.args.quarter) c.args.width _ c.args.high.now
    c.split_at_mut-third.result.0.now (power_next c.args.quarter) c.requires.second refl
    c.split_at_mut-third.ensures.front
    ∙ sym (length_high (2 ^ (c.args.quarter + 1))
    (2 ^ c.args.quarter) c.args.width _ c.args.high.now c.split_at_mut-third.result.1.now
    (power_next c.args.quarter) c.requires.second refl
    c.split_at_mut-third.ensures.back))
    c.add_words.ensures.sums c.requires.zeros

pub returns-clause-lifted : goal.returns-clause-lifted
returns-clause-lifted g c =
    let q = c.args.quarter in
    let w = c.args.width in
    let f = c.split_at_mut-first in
    let s = c.split_at_mut-third in
    lifts_columns g.F.Field.coding.ops w q (2 ^ (q + 1)) _ _ c.args.low.now c.args.high.now f.result.0.now
    f.result.1.now s.result.0.now s.result.1.now c.add_words.new.into
    c.add_words-2.new.into (power_next q) c.requires.first c.requires.second refl refl f.ensures.front f.ensures.back
    s.ensures.front s.ensures.back
    (c.add_words.auto.into
    ∙ length_low (2 ^ (q + 1)) (2 ^ q) w _ c.args.high.now s.result.0.now
    (power_next q) c.requires.second refl s.ensures.front)
    c.add_words.ensures.sums c.add_words-2.ensures.sums

pub returns-clause-zeros : goal.returns-clause-zeros
returns-clause-zeros g c =
    let s = c.split_at_mut-third in
    let third = length_low (2 ^ (c.args.quarter + 1))
    (2 ^ c.args.quarter) c.args.width _ c.args.high.now s.result.0.now
    (power_next c.args.quarter) c.requires.second refl s.ensures.front in
    let fourth = length_high (2 ^ (c.args.quarter + 1))
    (2 ^ c.args.quarter) c.args.width _ c.args.high.now s.result.1.now
    (power_next c.args.quarter) c.requires.second refl s.ensures.back in
    lifted_zeros g.F.Field.is_element g.F.Field.coding.ops g.met.F.Field.lawful.field c.args.known _ c.args.high.now
    s.result.0.now s.result.1.now c.add_words.new.into s.ensures.front s.ensures.back c.add_words.auto.into
    (third ∙ sym fourth) c.add_words.ensures.sums c.requires.zeros
    (third ∙ sym (middle (2 ^ (c.args.quarter + 1)) (2 ^ c.args.quarter) c.args.width c.args.high.now
    (power_next c.args.quarter) c.requires.second))

pub add_words-requires-clause-first : goal.add_words-requires-clause-first
add_words-requires-clause-first g c =
    front_are g.F.Field.is_element _ c.args.high.now c.split_at_mut-third.result.0.now
    c.split_at_mut-third.ensures.front c.requires.higher

pub add_words-requires-clause-second : goal.add_words-requires-clause-second
add_words-requires-clause-second g c =
    back_are g.F.Field.is_element _ c.args.high.now c.split_at_mut-third.result.1.now c.split_at_mut-third.ensures.back
    c.requires.higher

pub add_words-requires-2-clause-first : goal.add_words-requires-2-clause-first
add_words-requires-2-clause-first g c =
    back_are g.F.Field.is_element _ c.args.low.now c.split_at_mut-first.result.1.now c.split_at_mut-first.ensures.back
    c.requires.lower

pub returns-clause-lower : goal.returns-clause-lower
returns-clause-lower g c =
    let P = g.F.Field.is_element in
    All-append P c.split_at_mut-first.result.0.now c.add_words-2.new.into
    (front_are P _ c.args.low.now c.split_at_mut-first.result.0.now c.split_at_mut-first.ensures.front
    c.requires.lower) c.add_words-2.ensures.elements

pub returns-clause-higher : goal.returns-clause-higher
returns-clause-higher g c =
    let P = g.F.Field.is_element in
    All-append P c.add_words.new.into c.split_at_mut-third.result.1.now c.add_words.ensures.elements
    (back_are P _ c.args.high.now c.split_at_mut-third.result.1.now c.split_at_mut-third.ensures.back c.requires.higher)
