use Rattle.std.proofs.Common.{sym}
use Rattle.std.proofs.lemmas.Nat.{be_bytes_2}
use Rattle.store_journal.proofs.reading.number_of.Goals as goal

pub returns-clause-spells : goal.returns-clause-spells
returns-clause-spells c = sym (be_bytes_2 c.args.two.now _ c.told-two c.fits-two c.from_be_bytes.ensures)
