-- Behind three bytes that aren't 1.
use Rattle.std.proofs.Common.{inr}
use Rattle.mpeg_scan.proofs.scanner.Scanner.run_without_one.Goals as goal

pub returns-then-self-ne1-3-clause-quiet : goal.returns-then-self-ne1-3-clause-quiet
returns-then-self-ne1-3-clause-quiet c opened long =
    (opened, inr (c.if-self-ne1.true, c.if-self-ne1-2.true, c.if-self-ne1-3.true, c.front_without.ensures.lacks))
