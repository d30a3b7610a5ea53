use Rattle.std.proofs.Common.{◌≡◌, ℕ, ◌+◌, ◌-◌, ◌*◌, ◌^◌, ap, ap₂, ◌∙◌, arith, rules, ◌<◌}
use Rattle.field_transform.specs.Basis.{value_in_basis}
use Rattle.field_rows.specs.Columns.{column}
use Rattle.field_rows.specs.laws.PlaceLaws.{rows_le}
use Rattle.field_values.proofs.CosetRows.{up_to_high, within_coset, within_rows, coset_values, before_coset}
use Rattle.field_values.proofs.cosets.fill_coset.Goals as goal

pub values_at_coset-requires-clause-size : goal.values_at_coset-requires-clause-size
values_at_coset-requires-clause-size g c = c.requires.size

pub values_at_coset-requires-clause-block : goal.values_at_coset-requires-clause-block
values_at_coset-requires-clause-block g c = rw c.from-block.ensures (omega (arith, c.requires.some, c.requires.points))

pub values_at_coset-requires-clause-count : goal.values_at_coset-requires-clause-count
values_at_coset-requires-clause-count g c =
    let begin = c.from.result * c.size_at-size.result in
    let size = c.size_at-size.result in
    let low = c.max-low.result in
    let high = c.min-high.result in
    let start = c.args.coset * 2 ^ c.args.level in
    let begins : begin ≡ start = ap₂ (λ a b. a * b) c.from.ensures c.size_at-size.ensures.power in
    up_to_high c.args.first c.args.count begin size low high start
    (2 ^ c.args.level) c.max-low.ensures c.min-high.ensures begins c.size_at-size.ensures.power

pub copy_rows-requires-clause-source : goal.copy_rows-requires-clause-source
copy_rows-requires-clause-source g c =
    let begin = c.from.result * c.size_at-size.result in
    let size = c.size_at-size.result in
    let low = c.max-low.result in
    let high = c.min-high.result in
    let start = c.args.coset * 2 ^ c.args.level in
    let begins : begin ≡ start = ap₂ (λ a b. a * b) c.from.ensures c.size_at-size.ensures.power in
    rw (c.values_at_coset.auto.rows ∙ c.requires.size)
    (rows_le (low - begin + (high - low)) (2 ^ c.args.level) c.args.stripes
    (within_coset c.args.first c.args.count begin size low high start
    (2 ^ c.args.level) c.max-low.ensures c.min-high.ensures begins c.size_at-size.ensures.power c.requires.some
    c.requires.near))

pub copy_rows-requires-clause-target : goal.copy_rows-requires-clause-target
copy_rows-requires-clause-target g c =
    let begin = c.from.result * c.size_at-size.result in
    let size = c.size_at-size.result in
    let low = c.max-low.result in
    let high = c.min-high.result in
    let start = c.args.coset * 2 ^ c.args.level in
    let begins : begin ≡ start = ap₂ (λ a b. a * b) c.from.ensures c.size_at-size.ensures.power in
    rw c.requires.room (rows_le (low - c.args.first + (high - low)) c.args.count c.args.stripes
    (within_rows c.args.first c.args.count begin size low high start
    (2 ^ c.args.level) c.max-low.ensures c.min-high.ensures begins c.size_at-size.ensures.power c.requires.some
    c.requires.near))

pub returns-clause-values : goal.returns-clause-values
returns-clause-values g c =
    let begin = c.from.result * c.size_at-size.result in
    let size = c.size_at-size.result in
    let low = c.max-low.result in
    let high = c.min-high.result in
    let start = c.args.coset * 2 ^ c.args.level in
    let begins : begin ≡ start = ap₂ (λ a b. a * b) c.from.ensures c.size_at-size.ensures.power in
    let F = g.F.Field in
    let V = λ (j x : ℕ). value_in_basis F.coding.ops g.F.Subspaces.inverse c.args.level
    (column F.coding.ops.nought c.args.stripes (2 ^ c.args.level) j c.args.rows.now) (F.coding.point_of x) in
    coset_values c.args.first c.args.count begin size low high start
    (2 ^ c.args.level) c.max-low.ensures c.min-high.ensures begins c.size_at-size.ensures.power F.coding.ops.nought V
    c.args.stripes c.values_at_coset.new.rows c.copy_rows.new.into (c.copy_rows.ensures.copied F.coding.ops.nought)
    (λ p i l m. c.values_at_coset.ensures.values p i l m
    ∙ ap (λ b. V i (b * 2 ^ c.args.level + p)) c.from-block.ensures)

pub returns-clause-before : goal.returns-clause-before
returns-clause-before g c =
    let begin = c.from.result * c.size_at-size.result in
    let size = c.size_at-size.result in
    let low = c.max-low.result in
    let high = c.min-high.result in
    let start = c.args.coset * 2 ^ c.args.level in
    let begins : begin ≡ start = ap₂ (λ a b. a * b) c.from.ensures c.size_at-size.ensures.power in
    λ p i l m k.
    c.copy_rows.ensures.before g.F.Field.coding.ops.nought (p * c.args.stripes + i)
    (before_coset c.args.first c.args.count begin size low high start
    (2 ^ c.args.level) c.max-low.ensures c.min-high.ensures begins c.size_at-size.ensures.power c.args.stripes p i m k)

pub returns-clause-cost : goal.returns-clause-cost
returns-clause-cost g c = omega (arith, c.values_at_coset.ensures.bounded)

pub overflow_mul-begin : goal.overflow_mul-begin
overflow_mul-begin g c =
    let begins : c.from.result * c.size_at-size.result ≡ c.args.coset * 2 ^ c.args.level =
    ap₂ (λ a b. a * b) c.from.ensures c.size_at-size.ensures.power in
    let low : c.from.result * c.size_at-size.result < 4096 =
    rw begins (omega (arith, c.requires.some, c.requires.few)) in
    search rules

pub overflow_add-begin : goal.overflow_add-begin
overflow_add-begin g c =
    let begins : c.from.result * c.size_at-size.result ≡ c.args.coset * 2 ^ c.args.level =
    ap₂ (λ a b. a * b) c.from.ensures c.size_at-size.ensures.power in
    let low : c.from.result * c.size_at-size.result < 4096 =
    rw begins (omega (arith, c.requires.some, c.requires.few)) in
    search rules
