use Rattle.std.proofs.Common.{◌≡◌, ◌+◌, ◌++◌, [], List, ℕ, length, drop, arith}
use Rattle.std.proofs.lemmas.List.{take_at}
use Rattle.outside_disk.specs.Disk.{Holds}
use Rattle.std.proofs.lemmas.Grind.{common_steps}
use Rattle.outside_disk.specs.laws.DiskLaws.{reads_none, reads_call, reads_more, bytes_stood}
use Rattle.store_journal.specs.laws.ReadingLaws.{short_entry, no_entry, some_entry}
use Rattle.store_journal.proofs.reading.entry_at.Goals as goal

pub returns-then-rest-lt2-clause-entry : goal.returns-then-rest-lt2-clause-entry
returns-then-rest-lt2-clause-entry g c = short_entry _ _ [] _ c.requires.within c.if-rest-lt2.true c.requires.size

pub returns-then-rest-lt2-clause-same : goal.returns-then-rest-lt2-clause-same
returns-then-rest-lt2-clause-same g c = reads_none _

pub returns-in_err-n-clause-same : goal.returns-in_err-n-clause-same
returns-in_err-n-clause-same g c = reads_call _ _ c.count_at.ensures.same

pub returns-then-rest-from-clause-entry : goal.returns-then-rest-from-clause-entry
returns-then-rest-from-clause-entry g c = no_entry _ _ c.in_ok-n.n [] _ c.requires.within c.if-rest-lt2.false
    c.requires.size c.in_ok-n.ensures.small c.in_ok-n.ensures.count (omega (arith, c.from.ensures))

pub returns-then-rest-from-clause-same : goal.returns-then-rest-from-clause-same
returns-then-rest-from-clause-same g c = reads_call _ _ c.count_at.ensures.same

pub returns-in_err-read_at-clause-same : goal.returns-in_err-read_at-clause-same
returns-in_err-read_at-clause-same g c =
    reads_more _ _ _ (reads_call _ _ c.count_at.ensures.same) c.read_at.ensures.same

pub returns-clause-entry : goal.returns-clause-entry
returns-clause-entry g c =
    let len : length c.read_at.new.into ≡ c.in_ok-n.n = grind (arith, common_steps) in
    some_entry _ _ c.in_ok-n.n c.read_at.new.into (c.read_at.new.into ++ drop c.from-2.result c.args.buffer.now) _
    c.requires.size c.in_ok-n.ensures.count (omega (arith, c.from.ensures, c.if-rest-from.false))
    len (take_at c.read_at.new.into (drop c.from-2.result c.args.buffer.now) c.in_ok-n.n len)
    (bytes_stood (λ (bytes : List ℕ). Holds bytes (c.args.gate + 3) c.read_at.new.into) _ _
    (reads_call _ _ c.count_at.ensures.same) c.in_ok-read_at.ensures.filled)

pub returns-clause-same : goal.returns-clause-same
returns-clause-same g c = reads_more _ _ _ (reads_call _ _ c.count_at.ensures.same) c.read_at.ensures.same
