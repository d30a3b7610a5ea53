-- What a call sees of the outside, and leaves of it, as one record. What is optional is told or not. This project's
-- own.
use Rattle.std.specs.Prelude.{ℕ, List, Option}
use Rattle.pet_base.specs.Seen.{Seen}
use Rattle.pet_base.specs.LinkSeen.{LinkSeen}
use Rattle.pet_base.specs.declared.place.Place.{Ghosts as PlaceOf}
use Rattle.pet_base.specs.declared.link.Link.{Ghosts as LinkOf}
use Rattle.pet_base.specs.declared.sink.Sink.{Ghosts as SinkOf}

pub record OutsideSeen : Type 0 where
  pub place : Seen
  pub link : LinkSeen
  -- what was printed, and how often the output failed
  pub written : Option (List ℕ)
  pub out_faults : ℕ
  -- the field steps that were counted
  pub steps : ℕ

-- what four objects show; the first three arguments are `P.Place K.Link S.Sink` in a clause
abbrev pub outside_seen : {P K S : Type 0} → PlaceOf P → LinkOf K → SinkOf S → P → K → S → ℕ → OutsideSeen
outside_seen p k s place link out steps = record {
  place = p.seen place;
  link = k.seen link;
  written = s.written out;
  out_faults = s.faults out;
  steps = steps;
}
