use Rattle.std.proofs.Common.{Vec, Global}
use Rattle.std.proofs.lemmas.Result.{err_from_is_err_and}
use Rattle.priority_file.specs.declared.draft.LayerDraft.{LayerDraft}
use Rattle.priority_file.specs.Draft.{layer_of}
use Rattle.priority_file.proofs.EachRead.{read_nothing, read_more, unread, fault_of_part, read_all}
use Rattle.priority_file.proofs.draft.layers_of.Goals as goal

pub loop-table-init : goal.loop-table-init
loop-table-init c = read_nothing layer_of c.args.tables.now c.new-layers.result.items c.new-layers.ensures.items

pub loop-table-preserved : goal.loop-table-preserved
loop-table-preserved c =
    rw c.in_ok-push.ensures.items (read_more layer_of c.args.tables.now c.loop-table.table-index
    c.loop-table.layers.items c.table-item.result c.in_ok-layer.layer c.loop-table-test.true c.table-item.is
    c.in_ok-layer.ensures c.loop-table.invariant)

pub returns-in_err-layer : goal.returns-in_err-layer
returns-in_err-layer c =
    let p = err_from_is_err_and c.from_residual.result c.from_residual.ensures.1 in
    rw (p.1, p.2) (fault_of_part (λ l. l) (λ (v : Vec LayerDraft Global). v.items) c.in_err-layer.field-0.0 _ _
    (λ none. unread layer_of c.args.tables.now c.loop-table.table-index c.loop-table.layers.items c.table-item.result
    c.loop-table-test.true c.table-item.is none c.loop-table.invariant) c.in_err-layer.ensures)

pub returns : goal.returns
returns c =
    read_all layer_of c.args.tables.now c.loop-table.table-index c.loop-table.layers.items c.loop-table-test.false
    c.loop-table.invariant
