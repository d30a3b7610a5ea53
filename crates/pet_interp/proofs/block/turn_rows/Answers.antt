use Rattle.std.proofs.Common.{◌∙◌, ◌*◌, sym, arith}
use Rattle.std.proofs.lemmas.List.{length-take-le}
use native.Mathlib.Nat.{mul_comm}
use Rattle.pet_interp.proofs.block.turn_rows.Goals as goal

pub overflow_mul-spare : goal.overflow_mul-spare
overflow_mul-spare g c = omega (arith, c.requires.room)

pub slice_bounds-spare-end : goal.slice_bounds-spare-end
slice_bounds-spare-end g c = c.requires.room

pub slice_bounds-spare-end-2 : goal.slice_bounds-spare-end-2
slice_bounds-spare-end-2 g c = sym (length-take-le (c.args.count * c.args.width) c.args.spare.now c.requires.room)

pub copy_from_slice-requires : goal.copy_from_slice-requires
copy_from_slice-requires g c =
    length-take-le (c.args.count * c.args.width) c.args.spare.now c.requires.room ∙ sym c.requires.whole

pub transpose-requires-clause-from : goal.transpose-requires-clause-from
transpose-requires-clause-from g c =
    c.copy_from_slice.auto.self ∙ length-take-le (c.args.count * c.args.width) c.args.spare.now c.requires.room
    ∙ mul_comm c.args.count c.args.width

pub transpose-requires-clause-into : goal.transpose-requires-clause-into
transpose-requires-clause-into g c = c.requires.whole ∙ mul_comm c.args.count c.args.width
