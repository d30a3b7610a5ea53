-- Behind two bytes that aren't zero.
use Rattle.std.proofs.Common.{inl}
use Rattle.mpeg_scan.proofs.scanner.Scanner.nonzero_run.Goals as goal

pub returns-then-self-ne0-2-clause-quiet : goal.returns-then-self-ne0-2-clause-quiet
returns-then-self-ne0-2-clause-quiet c opened long =
    (opened, inl (c.if-self-ne0.true, c.if-self-ne0-2.true, c.front_without.ensures.lacks))
