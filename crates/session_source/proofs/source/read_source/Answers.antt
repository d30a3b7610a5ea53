-- The session of what was read.
use Rattle.session_source.proofs.Sourced.{source_by}
use Rattle.session_source.proofs.source.read_source.Goals as goal

pub returns-clause-source : goal.returns-clause-source
returns-clause-source g c =
    let both = c.in_ok-rules.ensures.read in
    rw c.of.ensures (source_by both _ _ both.holds.0 both.holds.1)
