-- The table of the very layers of the cut, or the fault that they have.
use Rattle.std.proofs.Common.{◌≡◌, ◌∙◌, List, ap, refl, subst}
use Rattle.std.specs.Prelude.{Some}
use Rattle.stripe_plan.specs.declared.layer.LayerSize.{LayerSize}
use Rattle.stripe_plan.specs.Faults.{fault_in}
use Rattle.stripe_plan.specs.Sizes.{IsTableIn, planned}
use Rattle.std.proofs.lemmas.Result.{err_from_is_err_and}
use Rattle.stream_session.specs.Tables.{sizes_of}
use Rattle.stream_session.proofs.Planned.{allowed_by}
use Rattle.stream_session.proofs.Tabled.{made, not_made}
use Rattle.stream_session.proofs.needs.LayerNeeds.table_of.Goals as goal

pub returns-in_err-measured : goal.returns-in_err-measured
returns-in_err-measured c priority cut are fit is =
    let t = c.args.format.now in
    let r = err_from_is_err_and c.from_residual.result c.from_residual.ensures.1 in
    let packets = allowed_by t c.args.self.now priority are c.requires.few in
    let refused = subst (λ (ls : List LayerSize). fault_in t.bounds priority.packets ls ≡ Some c.in_err-measured.field-0.0) is
    (subst (λ n. fault_in t.bounds n c.args.layers.now ≡ Some c.in_err-measured.field-0.0) are.packets
    c.in_err-measured.ensures.refused) in
    rw (r.1, r.2) (not_made t priority cut c.requires.format.layers are.bounds are.few fit packets _ refused)

pub returns : goal.returns
returns c priority cut are fit is =
    let t = c.args.format.now in
    let packets = allowed_by t c.args.self.now priority are c.requires.few in
    let table = subst (λ n. IsTableIn t.bounds n (sizes_of priority cut)) are.packets
    (subst (λ (ls : List LayerSize). IsTableIn t.bounds c.args.self.now.packets ls) is
    (c.in_ok-measured.ensures.table.0 refl)) in
    made t priority cut c.requires.format.layers are.bounds are.few fit packets c.plan_table.result table
    (c.plan_table.ensures.packets ∙ are.packets) (c.plan_table.ensures.layers ∙ ap (planned t.bounds) is)
