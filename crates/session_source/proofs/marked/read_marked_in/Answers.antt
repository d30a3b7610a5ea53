use Rattle.session_source.proofs.Sourced.{source_by}
use Rattle.session_source.proofs.marked.read_marked_in.Goals as goal

pub returns-clause-source : goal.returns-clause-source
unfolding source_by
returns-clause-source g c =
    let both = c.in_ok-rules.ensures.read in
    rw c.of.ensures (source_by both _ _ both.holds.0 both.holds.1.plan, both.holds.1.marks)
