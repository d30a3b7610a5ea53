use Rattle.std.proofs.Common.{◌++◌, arith}
use Rattle.store_text.specs.declared.format.TheConstants.{STORE_FORM, OLD_STORE_FORM}
use Rattle.store_text.specs.Store.{entries_in}
use Rattle.store_packets.specs.inside.Listed.{frames_at}
use Rattle.store_packets.proofs.Listed.{left_whole, left_fine, left_next, comes_next, comes_end}
use Rattle.store_packets.proofs.OldFrames.{front_then}
use Rattle.store_packets.proofs.renew.append_entries.Goals as goal

pub first_entry-requires : goal.first_entry-requires
first_entry-requires c =
    record {
      whole = left_whole OLD_STORE_FORM c.args.count c.loop.counter c.loop.rest.now c.loop.invariant.left
          c.loop-test.true;
    }

pub append_entry-requires : goal.append_entry-requires
append_entry-requires c = record {
  frame =
      left_fine OLD_STORE_FORM c.args.count c.loop.counter c.loop.rest.now c.loop.invariant.left c.loop-test.true
      c.first_entry.result.0.now c.first_entry.ensures.datagram;
}

pub loop-preserved : goal.loop-preserved
loop-preserved c = record {
  left =
      left_next OLD_STORE_FORM c.args.count c.loop.counter c.loop.rest.now c.loop.invariant.left c.loop-test.true
      c.first_entry.result.1.now c.first_entry.ensures.after;
  comes =
      comes_next OLD_STORE_FORM c.args.count c.loop.counter c.loop.into.items c.loop.rest.now
      (c.args.into.now.items ++ entries_in STORE_FORM (frames_at OLD_STORE_FORM c.args.count c.args.entries.now))
      c.first_entry.result.0.now
      c.first_entry.result.1.now c.append_entry.new.into.items c.loop.invariant.comes c.first_entry.ensures.datagram
      c.first_entry.ensures.after c.in_ok-append_entry.ensures.text;
  front =
      front_then c.args.into.now.items c.loop.into.items c.append_entry.new.into.items c.loop.invariant.front
      c.append_entry.ensures.front;
}

pub returns-clause-text : goal.returns-clause-text
returns-clause-text c =
    comes_end OLD_STORE_FORM c.args.count c.loop.counter c.loop.into.items c.loop.rest.now
    (c.args.into.now.items ++ entries_in STORE_FORM (frames_at OLD_STORE_FORM c.args.count c.args.entries.now))
    c.loop.invariant.comes (omega arith)
