use Rattle.std.proofs.Common.{arith, sym, refl, ◌-◌, ◌∙◌}
use Rattle.store_text.specs.declared.format.TheConstants.{STORE_FORM}
use Rattle.store_packets.specs.inside.Reading.{frame_of}
use Rattle.store_union.specs.inside.Merging.{last_at}
use Rattle.store_packets.proofs.Listed.{left_whole, left_fine}
use Rattle.store_union.proofs.Passing.{passes_first, passes_next, stop_left, stop_last, stop_front, end_left, end_last}
use Rattle.store_union.proofs.Passing.{end_front}
use Rattle.store_union.proofs.union.pass.Goals as goal

pub loop-done-init : goal.loop-done-init
loop-done-init c = record {
  passes =
      passes_first (frame_of STORE_FORM c.args.next.now) c.args.from.count (last_at c.args.from) c.args.from.rest.now
      c.requires.place.listed;
  fine = c.requires.place.fine;
}

pub first_frame-requires : goal.first_frame-requires
first_frame-requires c = record {
  whole =
      left_whole STORE_FORM c.args.from.count c.loop-done.done c.loop-done.rest.now c.loop-done.invariant.passes.listed
      c.loop-done-test.true;
  fine =
      left_fine STORE_FORM c.args.from.count c.loop-done.done c.loop-done.rest.now c.loop-done.invariant.passes.listed
      c.loop-done-test.true _ refl;
}

pub returns-then-not-comes_before-clause-place : goal.returns-then-not-comes_before-clause-place
returns-then-not-comes_before-clause-place c = record {
  listed =
      c.loop-done.invariant.passes.listed (c.args.from.count - c.loop-done.done) (omega (arith, c.loop-done-test.true));
  fine = c.loop-done.invariant.fine;
}

pub returns-then-not-comes_before-clause-last : goal.returns-then-not-comes_before-clause-last
returns-then-not-comes_before-clause-last c =
    stop_last (frame_of STORE_FORM c.args.next.now) c.args.from.count (last_at c.args.from) c.args.from.rest.now
    c.loop-done.done _ c.loop-done.rest.now c.loop-done.invariant.passes c.first_frame.result.0.now
    c.first_frame.result.1.now c.loop-done-test.true c.first_frame.ensures.datagram c.first_frame.ensures.after
    c.first_frame.ensures.entry (sym c.comes_before.ensures ∙ c.if-not-comes_before.true)
    (c.args.from.count - c.loop-done.done) (omega (arith, c.loop-done-test.true))

pub returns-then-not-comes_before-clause-left : goal.returns-then-not-comes_before-clause-left
returns-then-not-comes_before-clause-left c =
    stop_left (frame_of STORE_FORM c.args.next.now) c.args.from.count (last_at c.args.from) c.args.from.rest.now
    c.loop-done.done _ c.loop-done.rest.now c.loop-done.invariant.passes c.first_frame.result.0.now
    c.first_frame.result.1.now c.loop-done-test.true c.first_frame.ensures.datagram c.first_frame.ensures.after
    c.first_frame.ensures.entry (sym c.comes_before.ensures ∙ c.if-not-comes_before.true)
    (c.args.from.count - c.loop-done.done) (omega (arith, c.loop-done-test.true))

pub returns-then-not-comes_before-clause-front : goal.returns-then-not-comes_before-clause-front
returns-then-not-comes_before-clause-front c =
    stop_front (frame_of STORE_FORM c.args.next.now) c.args.from.count (last_at c.args.from) c.args.from.rest.now
    c.loop-done.done _ c.loop-done.rest.now c.loop-done.invariant.passes c.first_frame.result.0.now
    c.first_frame.result.1.now c.loop-done-test.true c.first_frame.ensures.datagram c.first_frame.ensures.after
    c.first_frame.ensures.entry (sym c.comes_before.ensures ∙ c.if-not-comes_before.true)
    (c.args.from.count - c.loop-done.done) (omega (arith, c.loop-done-test.true))

pub loop-done-preserved : goal.loop-done-preserved
loop-done-preserved c = record {
  passes =
      passes_next (frame_of STORE_FORM c.args.next.now) c.args.from.count (last_at c.args.from) c.args.from.rest.now
      c.loop-done.done _ c.loop-done.rest.now c.loop-done.invariant.passes c.first_frame.result.0.now
      c.first_frame.result.1.now c.loop-done-test.true c.first_frame.ensures.datagram c.first_frame.ensures.after
      c.first_frame.ensures.entry (sym c.comes_before.ensures ∙ c.if-not-comes_before.false);
  fine = c.first_frame.ensures.frame;
}

pub returns-clause-last : goal.returns-clause-last
returns-clause-last c =
    end_last (frame_of STORE_FORM c.args.next.now) c.args.from.count (last_at c.args.from) c.args.from.rest.now
    c.loop-done.done _ c.loop-done.rest.now c.loop-done.invariant.passes
    (omega (arith, c.loop-done-test.false, c.loop-done.auto.done-end))

pub returns-clause-left : goal.returns-clause-left
returns-clause-left c =
    end_left (frame_of STORE_FORM c.args.next.now) c.args.from.count (last_at c.args.from) c.args.from.rest.now
    c.loop-done.done _ c.loop-done.rest.now c.loop-done.invariant.passes
    (omega (arith, c.loop-done-test.false, c.loop-done.auto.done-end))

pub returns-clause-front : goal.returns-clause-front
returns-clause-front c =
    end_front (frame_of STORE_FORM c.args.next.now) c.args.from.count (last_at c.args.from) c.args.from.rest.now
    c.loop-done.done _ c.loop-done.rest.now c.loop-done.invariant.passes
    (omega (arith, c.loop-done-test.false, c.loop-done.auto.done-end))
