use Rattle.std.proofs.Common.{List, [], subst, ℕ}
use Rattle.std.proofs.lemmas.List.{append-nil}
use Rattle.mpeg_scan.specs.Refusals.{Refuses}
use Rattle.command_sample.proofs.made.scan.Goals as goal

pub returns-in-Err-clause-refused : goal.returns-in-Err-clause-refused
returns-in-Err-clause-refused c =
    λ other.
    subst (λ (l : List ℕ). Refuses l c.in-Err.refusal) (append-nil c.args.stream.now)
    (c.in-Err.ensures.refusal other [] [] c.new-scanner.ensures [])
