-- What is held is what was read.
use Rattle.std.proofs.Common.{◌++◌, ◌∙◌, ap}
use Rattle.session_source.proofs.whole.HeldPassStreamReader.read.Goals as goal

pub returns : goal.returns
returns c priority file stream held = record {
  passed = c.in_ok-add.ensures priority file stream held.passed;
  bytes = c.in_ok-extend_from_slice.ensures.items ∙ ap (λ l. l ++ c.args.portion.now) held.bytes;
}
