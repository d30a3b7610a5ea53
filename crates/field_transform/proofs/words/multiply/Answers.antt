use Rattle.std.proofs.Common.{get_or, length, ◌≡◌, ◌∙◌, ap, arith}
use Rattle.std.proofs.lemmas.List.{length-take-le}
use Rattle.std.proofs.lemmas.List.Elements.{All-append}
use Rattle.field_transform.proofs.Made.{front_are, back_are, products_are}
use Rattle.field_transform.proofs.Zeros.{once, from_append, from_end, back_zeros, products_known}
use Rattle.field_transform.proofs.words.multiply.Goals as goal

pub multiply_row-requires-clause-elements : goal.multiply_row-requires-clause-elements
multiply_row-requires-clause-elements g c =
    front_are g.F.Field.is_element _ c.args.words.now c.split_at_mut-front.result.0.now
    c.split_at_mut-front.ensures.front c.requires.words

pub returns-then-not-once-clause-products : goal.returns-then-not-once-clause-products
returns-then-not-once-clause-products g c =
    let F = g.F.Field in
    let words = c.args.words.now in
    let s = c.split_at_mut-front in
    let k = c.args.known in
    let long : length s.result.0.now ≡ k = ap length s.ensures.front ∙ length-take-le k words c.requires.fits in
    products_known F.is_element F.coding.ops g.met.F.Field.lawful.field c.args.by k words s.result.0.now s.result.1.now
    c.multiply_row.new.row c.requires.factor s.ensures.front
    s.ensures.back long (c.multiply_row.auto.row ∙ long)
    (back_zeros F.coding.ops.nought k k words s.result.1.now s.ensures.back
    (λ l. absurd (omega arith)) c.requires.zeros)
    c.multiply_row.ensures.products

pub returns-then-not-once-clause-zeros : goal.returns-then-not-once-clause-zeros
returns-then-not-once-clause-zeros g c =
    let z = g.F.Field.coding.ops.nought in
    let words = c.args.words.now in
    let s = c.split_at_mut-front in
    let k = c.args.known in
    let long : length s.result.0.now ≡ k = ap length s.ensures.front ∙ length-take-le k words c.requires.fits in
    from_append z k c.multiply_row.new.row s.result.1.now
    (from_end z k c.multiply_row.new.row (omega (arith, c.multiply_row.auto.row, long)))
    (λ i l. back_zeros z k k words s.result.1.now s.ensures.back (λ m. absurd (omega arith)) c.requires.zeros i)

pub returns-then-not-once-clause-elements : goal.returns-then-not-once-clause-elements
returns-then-not-once-clause-elements g c =
    let F = g.F.Field in
    let words = c.args.words.now in
    let s = c.split_at_mut-front in
    let front = front_are F.is_element _ words s.result.0.now s.ensures.front c.requires.words in
    All-append F.is_element c.multiply_row.new.row s.result.1.now
    (products_are F.is_element F.coding.ops g.met.F.Field.lawful.field c.args.by s.result.0.now c.multiply_row.new.row
    c.requires.factor front c.multiply_row.auto.row
    c.multiply_row.ensures.products)
    (back_are F.is_element _ words s.result.1.now s.ensures.back c.requires.words)

pub returns-then-not-once-clause-cost : goal.returns-then-not-once-clause-cost
returns-then-not-once-clause-cost g c e =
    let s = c.split_at_mut-front in
    let long : length s.result.0.now ≡ c.args.known =
    ap length s.ensures.front ∙ length-take-le c.args.known c.args.words.now c.requires.fits in
    omega (arith, long, c.multiply_row.ensures.cost)

pub returns-else-not-once-clause-products : goal.returns-else-not-once-clause-products
returns-else-not-once-clause-products g c i l =
    let F = g.F.Field in
    let law = g.met.F.Field.lawful.field in
    let z = F.coding.ops.nought in
    once F.is_element F.coding.ops law c.args.by (get_or c.args.words.now i z) (c.requires.unit c.if-not-once.false)
    (c.requires.words i z l)

pub returns-else-not-once-clause-zeros : goal.returns-else-not-once-clause-zeros
returns-else-not-once-clause-zeros g c = c.requires.zeros

pub returns-else-not-once-clause-elements : goal.returns-else-not-once-clause-elements
returns-else-not-once-clause-elements g c = c.requires.words
