use Rattle.std.proofs.Common.{◌≡◌, refl, sym, ap, ◌∙◌, arith}
use Rattle.pet_receive.specs.Arrivals.{kept_set}
use Rattle.packet_rebuild.specs.Repairs.{unlike_in}
use Rattle.packet_rebuild.specs.laws.UnlikeLaws.{unlike_more, unlike_here}
use Rattle.packet_rebuild.proofs.unlike.unlike_among.Goals as goal

pub loop-p-init : goal.loop-p-init
loop-p-init g c = refl

pub returns-then-is_other-clause-least : goal.returns-then-is_other-clause-least
returns-then-is_other-clause-least g c =
    sym (unlike_here g.F.Field.coding (kept_set c.args.receiver.now) c.args.encoder.now c.args.first c.loop-p.p
    c.args.count (omega arith) c.loop-p.invariant (sym c.is_other.ensures ∙ c.if-is_other.true))

pub loop-p-preserved : goal.loop-p-preserved
loop-p-preserved g c =
    unlike_more g.F.Field.coding (kept_set c.args.receiver.now) c.args.encoder.now c.args.first c.loop-p.p
    c.loop-p.invariant (sym c.is_other.ensures ∙ c.if-is_other.false)

pub returns-clause-least : goal.returns-clause-least
returns-clause-least g c =
    let whole : c.loop-p.p ≡ c.args.count = omega arith in
    sym (ap (λ k. unlike_in g.F.Field.coding (kept_set c.args.receiver.now) c.args.encoder.now c.args.first k)
    (sym whole) ∙ c.loop-p.invariant)
