use Rattle.std.proofs.Common.{◌≡◌, ◌+◌, ◌*◌, ◌^◌, ◌<◌, ◌≤◌, rules, subst}
use Rattle.std.proofs.lemmas.Bool.{false≢true}
use Rattle.field_values.proofs.TransformedRows.{cost_fits}
use Rattle.field_values.proofs.transformed.is_taken.Goals as goal

pub returns-clause-cost : goal.returns-clause-cost
returns-clause-cost c =
    let n = c.args.level in
    let size = c.size_at-size.result in
    let wide = c.in-Some.wide in
    let wide_is : wide ≡ size * c.args.stripes = search rules in
    let known = c.args.known * c.args.stripes in
    let few : 2 * (n * known + 2 * size) + (c.args.further + 1) * (n * wide + 4 * size)
    ≤ 2 * c.args.count * c.args.words =
    subst (λ k. 2 * (n * known + 2 * size) + (k + 1) * (n * wide + 4 * size) ≤ 2 * c.args.count * c.args.words)
    c.from.ensures c.if-converted-from.false in
    λ t. cost_fits n size c.args.known c.args.stripes wide c.args.further c.args.words c.args.count
    c.size_at-size.ensures.power wide_is few

pub returns-in_default-clause-room : goal.returns-in_default-clause-room
returns-in_default-clause-room c = λ t. absurd (false≢true t)

pub returns-in_default-clause-cost : goal.returns-in_default-clause-cost
returns-in_default-clause-cost c = λ t. absurd (false≢true t)

pub returns-then-words-gt-MAX_WIDE-clause-room : goal.returns-then-words-gt-MAX_WIDE-clause-room
returns-then-words-gt-MAX_WIDE-clause-room c = λ t. absurd (false≢true t)

pub returns-then-words-gt-MAX_WIDE-clause-cost : goal.returns-then-words-gt-MAX_WIDE-clause-cost
returns-then-words-gt-MAX_WIDE-clause-cost c = λ t. absurd (false≢true t)

pub returns-then-converted-from-clause-room : goal.returns-then-converted-from-clause-room
returns-then-converted-from-clause-room c = λ t. absurd (false≢true t)

pub returns-then-converted-from-clause-cost : goal.returns-then-converted-from-clause-cost
returns-then-converted-from-clause-cost c = λ t. absurd (false≢true t)

pub returns-clause-room : goal.returns-clause-room
returns-clause-room c = λ t. subst (λ s. s * c.args.stripes < 2 ^ 64) c.size_at-size.ensures.power c.in-Some.ensures.0
