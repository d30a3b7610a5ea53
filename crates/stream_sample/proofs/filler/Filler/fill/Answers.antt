use Rattle.std.proofs.Common.{◌+◌, ◌-◌, [], ◌∷◌, sym, ◌∙◌}
use Rattle.stream_sample.specs.Filler.{bytes_from}
use Rattle.stream_sample.proofs.Appended.{one_more, all_appended}
use Rattle.stream_sample.proofs.Steps.{byte_next, state_next, bytes_end, state_end}
use Rattle.stream_sample.proofs.filler.Filler.fill.Goals as goal

pub loop-made-preserved : goal.loop-made-preserved
loop-made-preserved c =
    let now = c.loop-made.self.state in
    let next = c.next.new.self.state in
    let made = c.loop-made.made in
    let count = c.args.count in
    record {
      bytes =
          one_more c.args.into.now.items (bytes_from c.args.self.now.state count) (bytes_from now (count - made))
          c.loop-made.into.items (c.next.result ∷ []) (bytes_from next (count - (made + 1))) c.push.new.self.items
          c.loop-made.invariant.bytes
          (byte_next now count made next c.loop-made-test.true c.next.result c.next.ensures.state c.next.ensures.byte)
          c.in_ok-push.ensures.items;
      state = state_next now count made next c.loop-made-test.true c.next.ensures.state ∙ c.loop-made.invariant.state;
    }

pub returns-clause-bytes : goal.returns-clause-bytes
returns-clause-bytes c =
    all_appended c.args.into.now.items (bytes_from c.args.self.now.state c.args.count)
    (bytes_from c.loop-made.self.state (c.args.count - c.loop-made.made)) c.loop-made.into.items
    c.loop-made.invariant.bytes
    (bytes_end c.loop-made.self.state c.args.count c.loop-made.made c.loop-made-test.false)

pub returns-clause-state : goal.returns-clause-state
returns-clause-state c =
    sym (state_end c.loop-made.self.state c.args.count c.loop-made.made c.loop-made-test.false)
    ∙ c.loop-made.invariant.state
