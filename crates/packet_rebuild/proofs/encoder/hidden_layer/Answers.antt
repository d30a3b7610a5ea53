use Rattle.std.proofs.Common.{◌≡◌, true, false, sym, ap, ◌∙◌, arith}
use Rattle.std.specs.Prelude.{not}
use Rattle.pet_receive.specs.Arrivals.{kept_set}
use Rattle.packet_rebuild.proofs.LeastLayer.{hidden_here, hidden_more}
use Rattle.packet_rebuild.proofs.encoder.hidden_layer.Goals as goal

pub returns-then-is_none : goal.returns-then-is_none
returns-then-is_none g c =
    λ p opened.
    sym (hidden_here (kept_set c.args.receiver.now) c.args.group p opened c.loop-layer.layer
    (omega (arith, c.requires p opened)) (c.loop-layer.invariant p opened)
    (λ shown. let no : false ≡ true = sym (c.is_none.ensures ∙ ap not c.if-is_none.true)
    ∙ c.layer.ensures.shown.1 shown in absurd cc))

pub loop-layer-preserved : goal.loop-layer-preserved
loop-layer-preserved g c =
    λ p opened.
    hidden_more (kept_set c.args.receiver.now) c.args.group p opened c.loop-layer.layer
    (c.loop-layer.invariant p opened)
    (c.layer.ensures.shown.0 (c.is_none.ensures ∙ ap not c.if-is_none.false))
