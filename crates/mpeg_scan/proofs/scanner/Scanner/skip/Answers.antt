-- The run is read as byte by byte.
use Rattle.std.proofs.Common.{refl, arith}
use Rattle.mpeg_scan.proofs.Skipping.{skips, skips_too_far}
use Rattle.mpeg_scan.proofs.scanner.Scanner.skip.Goals as goal

pub returns-then-end-saturating_sub-clause-refusal : goal.returns-then-end-saturating_sub-clause-refusal
returns-then-end-saturating_sub-clause-refusal c s p r =
    let at = r.at in
    let short = r.bounded in
    (skips_too_far c.args.self.now c.args.run.now c.requires.quiet (omega arith) (omega arith) s p r).0

pub returns-then-end-saturating_sub-clause-stopped : goal.returns-then-end-saturating_sub-clause-stopped
returns-then-end-saturating_sub-clause-stopped c s p r =
    let at = r.at in
    let short = r.bounded in
    (skips_too_far c.args.self.now c.args.run.now c.requires.quiet (omega arith) (omega arith) s p r).1

pub returns-clause-ok : goal.returns-clause-ok
returns-clause-ok c s p r =
    let long = c.requires.long in
    skips c.args.self.now _ c.args.run.now c.requires.quiet long (omega arith)
    (record {
      at = refl;
      back1 = refl;
      back2 = refl;
      back3 = refl;
      back4 = refl;
      back5 = refl;
      opened = refl;
      from = refl;
      code = refl;
      kind = refl;
      refused = refl;
    })
    s p r
