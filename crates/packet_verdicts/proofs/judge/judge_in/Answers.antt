use Rattle.std.specs.Prelude.{option_map}
use Rattle.std.proofs.Common.{rules, not, sym, ap, ◌∙◌}
use Rattle.stripe_plan.specs.Same.{same_table}
use Rattle.packet_frame.specs.declared.frame.Header.{Header}
use Rattle.packet_frame.specs.View.{view}
use Rattle.packet_verdicts.proofs.ByCounts.{next_verdict}
use Rattle.packet_verdicts.proofs.judge.judge_in.Goals as goal

-- a mistake in the body is refused here, without a search for an answer to offer
pub returns-then-eq : goal.returns-then-eq
returns-then-eq c = search rules

pub returns-in-None : goal.returns-in-None
returns-in-None c =
    let f = view c.args.frame.now in
    next_verdict f c.args.packets.now c.shown_in_next.result
    (ap (λ (h : Header). not (same_table h.table c.args.frame.now.header.table)) (sym c.header.ensures.value)
    ∙ sym c.if-ne.ensures)
    (sym c.payload.ensures.value ∙ ap (option_map (λ bytes. bytes.now)) c.in-None.is)
    c.shown_in_next.ensures
