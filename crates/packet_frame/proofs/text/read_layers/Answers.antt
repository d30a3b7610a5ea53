use Rattle.std.proofs.Common.{◌≡◌, List, None, Some, drop, subst, ◌∙◌, arith}
use Rattle.pet_base.specs.declared.limits.TheConstants.{HEAD_LENGTH}
use Rattle.stripe_plan.specs.declared.layer.LayerSize.{LayerSize}
use Rattle.stripe_plan.specs.Faults.{fault_in}
use Rattle.packet_frame.specs.Refusals.{fields_in, count_of}
use Rattle.packet_frame.specs.laws.LayerLaws.{layers_length}
use Rattle.packet_frame.proofs.Tables.{table_refused, table_accepted}
use Rattle.packet_frame.proofs.text.read_layers.Goals as goal

pub returns-in-Ok-clause-ok : goal.returns-in-Ok-clause-ok
returns-in-Ok-clause-ok c =
    let t = c.args.format.now in
    let accepted = subst (λ (x : List LayerSize). fault_in t.bounds c.args.packets x ≡ None)
    (c.deref.ensures.0 ∙ c.layers_in-layers.ensures) c.in-Ok.ensures.accepted in
    table_accepted t c.args.packets (fields_in t c.args.bytes.now).layers accepted

pub returns-in-Err-clause-err : goal.returns-in-Err-clause-err
returns-in-Err-clause-err c =
    let t = c.args.format.now in
    let bytes = c.args.bytes.now in
    let count = layers_length (count_of bytes) (drop HEAD_LENGTH bytes) in
    let refused = subst (λ (x : List LayerSize). fault_in t.bounds c.args.packets x ≡ Some c.in-Err.fault)
    (c.deref.ensures.0 ∙ c.layers_in-layers.ensures) c.in-Err.ensures.refused in
    rw c.refusal_of.ensures (table_refused t bytes c.args.packets
    (fields_in t bytes).layers c.in-Err.fault c.requires.packets.0 c.requires.packets.1 (omega arith)
    (omega arith) refused)
