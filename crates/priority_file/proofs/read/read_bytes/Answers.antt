use Rattle.priority_file.proofs.ReadingLaws.{read_bytes-long, read_bytes-text, read_bytes-no_text}
use Rattle.priority_file.proofs.read.read_bytes.Goals as goal

pub returns-then-bytes : goal.returns-then-bytes
returns-then-bytes c = read_bytes-long c.args.bytes.now c.if-bytes.true

pub returns-in-Ok : goal.returns-in-Ok
returns-in-Ok c =
    rw (read_bytes-text c.args.bytes.now c.if-bytes.false c.in-Ok.ensures.cases.1, ← c.in-Ok.ensures.cases.0)
    c.read_text.ensures

pub returns-in-Err : goal.returns-in-Err
returns-in-Err c = read_bytes-no_text c.args.bytes.now c.if-bytes.false c.in-Err.ensures.cases.0
