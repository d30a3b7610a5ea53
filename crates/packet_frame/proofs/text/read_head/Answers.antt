-- Each part of the head's rows, by its check.
use Rattle.std.proofs.Common.{◌∙◌}
use Rattle.std.proofs.lemmas.Result.{err_from_is_err_and}
use Rattle.packet_frame.proofs.Rows.{at_front, at_ranges, at_room}
use Rattle.packet_frame.proofs.text.read_head.Goals as goal

pub returns-in_err-check_front-clause-tells : goal.returns-in_err-check_front-clause-tells
returns-in_err-check_front-clause-tells c =
    let p = err_from_is_err_and c.from_residual.result c.from_residual.ensures.1 in
    rw (p.1, p.2) (at_front c.args.format.now c.args.bytes.now _ c.in_err-check_front.ensures.tells)

pub returns-in_err-check_ranges-clause-tells : goal.returns-in_err-check_ranges-clause-tells
returns-in_err-check_ranges-clause-tells c =
    let p = err_from_is_err_and c.from_residual-in_err-check_ranges.result
    c.from_residual-in_err-check_ranges.ensures.1 in
    rw (p.1, p.2) (at_ranges c.args.format.now c.args.bytes.now c.head_in-head.result _
    (c.head_in-head.ensures c.args.format.now) c.in_ok-check_front.ensures.tells c.in_err-check_ranges.ensures.tells)

pub returns-in_err-check_room-clause-tells : goal.returns-in_err-check_room-clause-tells
returns-in_err-check_room-clause-tells c =
    let p = err_from_is_err_and c.from_residual-in_err-check_room.result c.from_residual-in_err-check_room.ensures.1 in
    rw (p.1, p.2) (at_room c.args.format.now c.args.bytes.now c.head_in-head.result
    (c.head_in-head.ensures c.args.format.now) c.in_ok-check_front.ensures.tells c.in_ok-check_ranges.ensures.tells
    ∙ c.in_err-check_room.ensures.tells)

pub returns-clause-tells : goal.returns-clause-tells
returns-clause-tells c =
    at_room c.args.format.now c.args.bytes.now c.head_in-head.result
    (c.head_in-head.ensures c.args.format.now) c.in_ok-check_front.ensures.tells c.in_ok-check_ranges.ensures.tells
    ∙ c.in_ok-check_room.ensures.tells

pub returns-clause-fields : goal.returns-clause-fields
returns-clause-fields c = c.head_in-head.ensures c.args.format.now
