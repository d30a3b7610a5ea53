use Rattle.std.proofs.Common.{◌≡◌, ◌∙◌, ◌+◌, ◌-◌, ◌*◌, false, [], length, get_or, take, drop, ap, ap₂, sym, arith}
use Rattle.pet_interp.specs.Blocks.{HeldBlock}
use Rattle.pet_interp.proofs.BlockStripes.{length-stripes, stripes_known, stripe_room}
use Rattle.field_rows.specs.laws.StripeLaws.{cut_at}
use Rattle.pet_interp.proofs.block.StripeBlock.stripe.Goals as goal

pub overflow_mul-start : goal.overflow_mul-start
overflow_mul-start g c =
    let room = stripe_room g.F.Field.coding.ops.nought c.args.i c.self.view_is c.self.invariant c.requires.stripe in
    omega (arith, room)

pub overflow_add-result : goal.overflow_add-result
overflow_add-result g c =
    let room = stripe_room g.F.Field.coding.ops.nought c.args.i c.self.view_is c.self.invariant c.requires.stripe in
    omega (arith, room)

pub offset_bounds-deref-start : goal.offset_bounds-deref-start
offset_bounds-deref-start g c =
    let room = stripe_room g.F.Field.coding.ops.nought c.args.i c.self.view_is c.self.invariant c.requires.stripe in
    omega (arith, room, ap length c.deref.ensures.value)

pub slice_bounds-result-end : goal.slice_bounds-result-end
slice_bounds-result-end g c =
    let room = stripe_room g.F.Field.coding.ops.nought c.args.i c.self.view_is c.self.invariant c.requires.stripe in
    omega (arith, room, ap length c.deref.ensures.value)

pub returns : goal.returns
returns g c =
    let b = c.self.inside in
    let z = g.F.Field.coding.ops.nought in
    let count = ap (λ (v : HeldBlock g.row.F-Elem.Denot). length v.stripes) (sym c.self.view_is)
    ∙ length-stripes z b.waits b.width b.size b.places.items in
    let known : b.waits ≡ false = ap (λ (v : HeldBlock g.row.F-Elem.Denot). v.waits) c.self.view_is
    ∙ c.requires.known in
    let size : c.args.i * b.size + b.size - c.args.i * b.size ≡ b.size = omega arith in
    ap₂ (λ n t. take n (drop (c.args.i * b.size) t)) size c.deref.ensures.value
    ∙ sym (ap (λ (v : HeldBlock g.row.F-Elem.Denot). get_or v.stripes c.args.i []) (sym c.self.view_is)
    ∙ ap (λ t. get_or t c.args.i []) (stripes_known z b.waits b.width b.size b.places.items known)
    ∙ cut_at b.width b.size c.args.i b.places.items (omega (arith, count)))
