use Rattle.std.proofs.Common.{[], ℕ, List, None, refl}
use Rattle.outside_disk.specs.laws.DiskLaws.{reads_call, bytes_stood}
use Rattle.store_journal.specs.inside.Entry.{IsEntry, IsEntryOf}
use Rattle.store_journal.specs.laws.TurnLaws.{ends_why, turn_ends, turn_no_entry, turn_not_kept}
use Rattle.store_journal.proofs.reading.turn_at.Goals as goal

pub returns-then-not-more-clause-turn : goal.returns-then-not-more-clause-turn
returns-then-not-more-clause-turn g c =
    turn_ends _ _ c.in_ok-value.value c.args.size _ _ refl
    (ends_why c.args.gate c.args.size c.in_ok-value.value c.then-not-more.either) c.requires.size
    c.in_ok-value.ensures.byte

pub returns-in-None-clause-refused : goal.returns-in-None-clause-refused
returns-in-None-clause-refused g c =
    let first = reads_call _ _ c.byte_at.ensures.same in
    let none = rw c.in-None.is at c.in_ok-entry_at.ensures.entry in
    turn_no_entry _ _ _ c.in_ok-value.value _ [] _ c.if-not-more.false c.if-value-ne1.false c.requires.size
    c.in_ok-value.ensures.byte
    (bytes_stood (λ (bytes : List ℕ). IsEntry None [] c.args.gate bytes) _ _ first none)

pub returns-in-Some-clause-refused : goal.returns-in-Some-clause-refused
returns-in-Some-clause-refused g c =
    let first = reads_call _ _ c.byte_at.ensures.same in
    let some = rw c.in-Some.is at c.in_ok-entry_at.ensures.entry in
    let small = rw c.in-Some.is at c.in_ok-entry_at.ensures.small in
    turn_not_kept _ _ _ c.in_ok-value.value c.in-Some.n c.entry_at.new.buffer _ _ small c.if-value-ne1.false
    c.in_ok-value.ensures.byte
    (bytes_stood (λ (bytes : List ℕ). IsEntryOf c.in-Some.n c.entry_at.new.buffer c.args.gate bytes) _ _ first some)
    (rw c.from.ensures at c.take_frame.ensures.refused)
