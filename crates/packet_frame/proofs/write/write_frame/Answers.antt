use Rattle.std.proofs.Common.{rules}
use Rattle.packet_frame.specs.View.{fields_with}
use Rattle.packet_frame.specs.laws.Laws.{texts_are_read}
use Rattle.packet_frame.proofs.write.write_frame.Goals as goal

pub returns-clause-read_back : goal.returns-clause-read_back
returns-clause-read_back c =
    texts_are_read (fields_with c.args.header.now c.args.number c.args.payload.now) (search rules)
