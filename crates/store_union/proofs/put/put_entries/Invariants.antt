use Rattle.outside_files.specs.Outputs.{Puts}
use Rattle.store_text.specs.declared.format.TheConstants.{STORE_FORM}
use Rattle.store_text.specs.Store.{entries_in}
use Rattle.store_union.specs.inside.Merging.{IsPlace, IsSpelled, left_at, frames_of}
use Rattle.store_packets.proofs.Listed.{Left}
use Rattle.store_text.specs.laws.PuttingLaws.{Hashes, PutsCalmly}
use Rattle.store_union.proofs.Putting.{MergedTo}
use Rattle.store_union.proofs.put.put_entries.Given as goal

abbrev pub invariant-loop : goal.invariant-loop
invariant-loop g l = record {
  place : IsPlace l.at;
  spelled : IsSpelled l.at;
  listed : Left STORE_FORM l.theirs.count l.counter l.rest;
  walk : MergedTo (frames_of l.mine) (frames_of l.theirs) l.theirs.count l.counter (left_at l.at) l.rest;
  puts : Puts (entries_in STORE_FORM walk.front) (g.P.Place.seen l.initial.place) (g.P.Place.seen l.place);
  hashed : Hashes (entries_in STORE_FORM walk.front) l.initial.hasher l.hasher;
  calmly : PutsCalmly (g.P.Place.seen l.initial.place) (g.P.Place.seen l.place);
}
