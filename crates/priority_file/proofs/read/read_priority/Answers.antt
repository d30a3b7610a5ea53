use Rattle.priority_file.proofs.ReadingLaws.{is_answer}
use Rattle.priority_file.proofs.read.read_priority.Goals as goal

pub returns : goal.returns
returns c =
    let h = is_answer c.args.bytes.now c.read_bytes.result c.read_bytes.ensures in
    record { accepted = h.accepted; stands_for = h.meaning; refused = h.refused }
