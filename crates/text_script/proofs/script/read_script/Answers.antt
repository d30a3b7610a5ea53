use Rattle.std.proofs.Common.{◌+◌, ℕ, List, Option, sym, ap, ◌∙◌, arith}
use Rattle.text_cuts.specs.Cuts.{lines_of}
use Rattle.pet_base.specs.declared.event.Event.{Event}
use Rattle.text_script.specs.Script.{then_events, events_from, behind_events}
use Rattle.text_script.proofs.Words.{begun, one_event}
use Rattle.text_script.proofs.script.read_script.Goals as goal

pub loop-rest-init : goal.loop-rest-init
loop-rest-init c = record {
  counted = omega arith;
  events = begun c.args.groups c.args.packets c.args.bytes.now c.new-events.result.items c.new-events.ensures.items;
}

pub loop-rest-preserved : goal.loop-rest-preserved
loop-rest-preserved c =
    let groups = c.args.groups in
    let packets = c.args.packets in
    let before = c.loop-rest.events.items in
    let number = c.loop-rest.number + 1 in
    let later = events_from groups packets (number + 1) (lines_of c.first_line.result.1.now) in
    record {
      counted = omega (arith, c.loop-rest.invariant.counted, c.first_line.ensures.shorter);
      events =
          c.loop-rest.invariant.events
          ∙ ap (λ (lines : List (List ℕ)). behind_events before (events_from groups packets number lines))
          c.first_line.ensures.lines
          ∙ ap (λ (o : Option Event). behind_events before (then_events number o later))
          (sym c.read_event.ensures ∙ c.in-Some.is)
          ∙ one_event before c.in-Some.event number later
          ∙ ap (λ (l : List Event). behind_events l later) (sym c.in_ok-push.ensures.items);
    }
