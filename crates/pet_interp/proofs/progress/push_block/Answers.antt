use Rattle.std.proofs.Common.{◌++◌, replicate, ap, ◌∙◌, sym, subst, arith}
use Rattle.std.specs.Prelude.{nat_lt}
use Rattle.std.proofs.lemmas.Nat.{mul-le}
use Rattle.std.proofs.lemmas.Result.{IfOk-from_err}
use Rattle.field_rows.specs.declared.blocks.TheConstants.{MAX_WIDTH}
use Rattle.pet_interp.specs.Blocks.{HasRoom}
use Rattle.pet_interp.proofs.Grown.{room_grown}
use Rattle.pet_interp.proofs.progress.push_block.Goals as goal

pub returns : goal.returns
returns g c =
    λ lengths h.
    let F = g.F.Field in
    let made = c.in_ok-block.ensures in
    let size = c.from-count.ensures in
    subst (λ n. HasRoom F.is_element
    (lengths ++ replicate c.args.width n) c.push.new.self.items c.grow.new.into.items c.grow-2.new.into.items) size
    (room_grown F.is_element lengths c.from-count.result c.args.width c.args.blocks.now.items c.push.new.self.items
    c.in_ok-block.block c.args.product.now.items c.grow.new.into.items
    c.args.spare.now.items c.grow-2.new.into.items c.zero.result c.zero-2.result h (made.size ∙ sym size) made.width
    (made.waits ∙ ap (nat_lt 0) (sym size)) made.each c.requires.some
    c.in_ok-push.ensures.items c.in_ok-grow.ensures
    (rw c.zero.ensures g.met.F.Field.lawful.field.zero_is) c.in_ok-grow-2.ensures)

pub overflow_mul-count : goal.overflow_mul-count
overflow_mul-count g c =
    omega (
      arith,
      c.ranges.size,
      c.requires.narrow,
      mul-le c.from-count.result c.args.width 65536 MAX_WIDTH (omega (arith, c.from-count.ensures)) c.requires.narrow,
    )

pub returns-in_err-grow : goal.returns-in_err-grow
returns-in_err-grow g c = IfOk-from_err c.from_residual.result _ c.from_residual.ensures.0

pub returns-in_err-grow-2 : goal.returns-in_err-grow-2
returns-in_err-grow-2 g c = IfOk-from_err c.from_residual-in_err-grow-2.result _ c.from_residual-in_err-grow-2.ensures.0

pub returns-in_err-block : goal.returns-in_err-block
returns-in_err-block g c = IfOk-from_err c.from_residual-in_err-block.result _ c.from_residual-in_err-block.ensures.0

pub returns-in_err-push : goal.returns-in_err-push
returns-in_err-push g c = IfOk-from_err c.from_residual-in_err-push.result _ c.from_residual-in_err-push.ensures.0
