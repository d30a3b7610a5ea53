use Rattle.std.proofs.Common.{◌≡◌, ◌∙◌, ℕ, ◌*◌, List, [], ◌++◌, All, length, replicate, ap, arith}
use Rattle.std.specs.Prelude.{nat_lt}
use Rattle.std.proofs.lemmas.List.{length-replicate}
use Rattle.std.proofs.lemmas.List.Elements.{All-same, All-replicate}
use Rattle.std.proofs.lemmas.Nat.{mul-le}
use Rattle.std.proofs.lemmas.Result.{IfOk-from_err}
use Rattle.field_rows.specs.declared.blocks.TheConstants.{MAX_WIDTH}
use Rattle.pet_interp.proofs.BlockStripes.{length-stripes, stripes_each}
use Rattle.pet_interp.proofs.block.StripeBlock.new.Goals as goal

-- copies of an element behind nothing
zeros_made : {E : Type 0} (P : E → Type 0) (start items : List E) (n : ℕ) (v : E) → start ≡ []
    → items ≡ start ++ replicate n v → P v → (length items ≡ n) × All P items
zeros_made P start items n v none made h =
    let is : items ≡ replicate n v = made ∙ ap (λ t. t ++ replicate n v) none in
    (ap length is ∙ length-replicate n v, All-same P items (replicate n v) is (All-replicate P n v h))

pub returns-clause-width : goal.returns-clause-width
returns-clause-width g c = length-stripes g.F.Field.coding.ops.nought _ c.args.width _ _

pub returns-clause-each : goal.returns-clause-each
returns-clause-each g c =
    let F = g.F.Field in
    let zeros = zeros_made F.is_element c.new-places.result.items c.push_copies.new.into.items
    (c.from-size.result * c.args.width) c.zero.result c.new-places.ensures.items c.in_ok-push_copies.ensures
    (rw c.zero.ensures g.met.F.Field.lawful.field.zero_is) in
    stripes_each F.is_element F.coding.ops.nought
    (nat_lt 0 c.from-size.result) c.args.width c.from-size.result c.push_copies.new.into.items zeros.0 zeros.1

pub returns-clause-size : goal.returns-clause-size
returns-clause-size g c = c.from-size.ensures

pub overflow_mul-size : goal.overflow_mul-size
overflow_mul-size g c =
    omega (
      arith,
      c.from-size.ensures,
      c.ranges.size,
      c.requires.narrow,
      mul-le c.from-size.result c.args.width 65536 MAX_WIDTH (omega (arith, c.from-size.ensures)) c.requires.narrow,
    )

pub returns-clause-waits : goal.returns-clause-waits
returns-clause-waits g c = ap (nat_lt 0) c.from-size.ensures

pub invariant_of-result : goal.invariant_of-result
invariant_of-result g c =
    let F = g.F.Field in
    let zeros = zeros_made F.is_element c.new-places.result.items c.push_copies.new.into.items
    (c.from-size.result * c.args.width) c.zero.result c.new-places.ensures.items c.in_ok-push_copies.ensures
    (rw c.zero.ensures g.met.F.Field.lawful.field.zero_is) in
    record { narrow = c.requires.narrow; whole = zeros.0; elements = zeros.1 }

pub returns-in_err-push_copies-clause-width : goal.returns-in_err-push_copies-clause-width
returns-in_err-push_copies-clause-width g c =
    IfOk-from_err c.from_residual.result (λ b. length b.stripes ≡ c.args.width) c.from_residual.ensures.0

pub returns-in_err-push_copies-clause-size : goal.returns-in_err-push_copies-clause-size
returns-in_err-push_copies-clause-size g c =
    IfOk-from_err c.from_residual.result (λ b. b.size ≡ c.args.size) c.from_residual.ensures.0

pub returns-in_err-push_copies-clause-waits : goal.returns-in_err-push_copies-clause-waits
returns-in_err-push_copies-clause-waits g c =
    IfOk-from_err c.from_residual.result (λ b. b.waits ≡ nat_lt 0 c.args.size) c.from_residual.ensures.0

pub returns-in_err-push_copies-clause-each : goal.returns-in_err-push_copies-clause-each
returns-in_err-push_copies-clause-each g c =
    IfOk-from_err c.from_residual.result
    (λ b. All (λ s. (length s ≡ b.size) × All g.F.Field.is_element s) b.stripes) c.from_residual.ensures.0
