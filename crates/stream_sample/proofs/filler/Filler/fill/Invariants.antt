use Rattle.std.proofs.Common.{◌≡◌, ◌-◌}
use Rattle.stream_sample.specs.Filler.{bytes_from, state_after}
use Rattle.stream_sample.proofs.Appended.{IsAppended}
use Rattle.stream_sample.proofs.filler.Filler.fill.Given as goal

abbrev pub invariant-loop-made : goal.invariant-loop-made
invariant-loop-made l = record {
  bytes : IsAppended l.fn.into.items (bytes_from l.fn.self.state l.count)
      (bytes_from l.self.state (l.count - l.made)) l.into.items;
  state : state_after l.self.state (l.count - l.made) ≡ state_after l.fn.self.state l.count;
}
