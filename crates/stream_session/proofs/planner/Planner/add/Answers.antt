-- A table more, or a fault that stays.
use Rattle.std.proofs.Common.{◌∙◌, sym}
use Rattle.std.proofs.lemmas.Result.{on_ok_weaker}
use Rattle.stream_session.proofs.Planned.{stays_live, becomes_refused, still_refused}
use Rattle.stream_session.proofs.planner.Planner.add.Goals as goal

pub returns-then-is_some : goal.returns-then-is_some
returns-then-is_some c priority pieces h =
    still_refused c.args.self.now c.args.piece.now (sym c.is_some.ensures ∙ c.if-is_some.true) priority pieces h

pub returns-in-Ok : goal.returns-in-Ok
returns-in-Ok c =
    on_ok_weaker c.keep.result (λ kept. stays_live c.args.self.now c.keep.new.self c.add.new.self c.args.piece.now
    c.in-Ok.cut (sym c.is_some.ensures ∙ c.if-is_some.false) c.in-Ok.ensures.ok c.keep.ensures.rest kept)
    c.keep.ensures.kept

pub returns-in-Err : goal.returns-in-Err
returns-in-Err c =
    on_ok_weaker c.refuse.result (λ refused. becomes_refused c.args.self.now c.refuse.new.self c.args.piece.now
    c.in-Err.fault (sym c.is_some.ensures ∙ c.if-is_some.false) refused c.refuse.ensures.needs (c.in-Err.ensures.refusal refused.told))
    c.refuse.ensures.refused
