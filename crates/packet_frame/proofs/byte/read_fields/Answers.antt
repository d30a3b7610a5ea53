-- What the reader of every format told of this one.
use Rattle.std.proofs.Common.{◌∙◌}
use Rattle.std.proofs.lemmas.Result.{err_from_is_err_and}
use Rattle.packet_frame.proofs.Rows.{with_table}
use Rattle.packet_frame.proofs.byte.read_fields.Goals as goal

pub returns-in_err-parts-clause-refused : goal.returns-in_err-parts-clause-refused
returns-in_err-parts-clause-refused c =
    let p = err_from_is_err_and c.from_residual.result c.from_residual.ensures.1 in
    rw (p.1, p.2) c.in_err-parts.ensures.refused

pub returns-clause-refused : goal.returns-clause-refused
returns-clause-refused c = c.in_ok-parts.ensures.refused

pub returns-clause-fields : goal.returns-clause-fields
returns-clause-fields c =
    let parts = c.in_ok-parts.parts in
    let table = c.known-table in
    let layers = table.ensures.1 ∙ c.deref.ensures.0 in
    with_table parts.head table.result.packets parts.layers.items table.result.layers parts.payload.now _
    table.ensures.0
    layers c.in_ok-parts.ensures.fields

pub known-table-requires : goal.known-table-requires
known-table-requires c = rw c.deref.ensures.0 c.in_ok-parts.ensures.table
