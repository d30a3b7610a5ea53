use Rattle.std.proofs.Common.{◌≡◌, ◌++◌, length, take}
use Rattle.store_text.specs.declared.format.TheConstants.{STORE_FORM, OLD_STORE_FORM}
use Rattle.store_text.specs.Store.{entries_in}
use Rattle.store_packets.specs.inside.Listed.{frames_at}
use Rattle.store_packets.proofs.Listed.{Left, Comes}
use Rattle.store_packets.proofs.renew.append_entries.Given as goal

abbrev pub invariant-loop : goal.invariant-loop
invariant-loop l = record {
  left : Left OLD_STORE_FORM l.count l.counter l.rest;
  comes : Comes OLD_STORE_FORM l.count l.counter l.into.items l.rest
      (l.initial.into.items ++ entries_in STORE_FORM (frames_at OLD_STORE_FORM l.count l.entries));
  front : take (length l.initial.into.items) l.into.items ≡ l.initial.into.items;
}
