use Rattle.std.proofs.Common.{◌≡◌, ℕ, List, ap, sym, ◌∙◌, subst}
use Rattle.stripe_plan.specs.declared.layer.LayerSize.{LayerSize}
use Rattle.stripe_plan.specs.declared.bounds.TheConstants.{BYTE_BOUNDS}
use Rattle.stripe_plan.specs.Sizes.{Sizes}
use Rattle.packet_frame.specs.Planned.{IsPlanTableIn}
use Rattle.packet_frame.specs.laws.PlannedLaws.{byte_plan}
use Rattle.byte_frame.proofs.encoder.header_of.Goals as goal

pub returns-clause-planned : goal.returns-clause-planned
returns-clause-planned c =
    let table = c.args.table.now in
    let plan : c.in_ok-plan.plan ≡ c.plan.result.now = cc (c.in_ok-plan.was, c.clone.ensures) in
    let packets = ap (λ (s : Sizes). s.packets) plan ∙ c.plan.ensures.packets in
    let layers = ap (λ (s : Sizes). s.layers) plan ∙ c.plan.ensures.layers in
    subst (λ (n : ℕ). IsPlanTableIn BYTE_BOUNDS n c.in_ok-plan.plan.layers) (sym packets)
    (subst (λ (l : List LayerSize). IsPlanTableIn BYTE_BOUNDS table.packets l) (sym layers)
    (byte_plan table.packets table.layers c.plan.ensures.bounds))
