use Rattle.std.proofs.Common.{◌∙◌, length, ap, sym}
use Rattle.pet_interp.specs.Blocks.{HeldBlock}
use Rattle.pet_interp.proofs.BlockStripes.{length-stripes}
use Rattle.pet_interp.proofs.block.StripeBlock.width.Goals as goal

pub returns : goal.returns
returns g c =
    let b = c.self.inside in
    sym (length-stripes g.F.Field.coding.ops.nought b.waits b.width b.size b.places.items)
    ∙ ap (λ (v : HeldBlock g.row.F-Elem.Denot). length v.stripes) c.self.view_is
