-- What the value that is lent to a command shows, and that its objects are those that they were. This project's own.
use Rattle.std.specs.Prelude.{◌≡◌}
use Rattle.pet_base.specs.declared.place.Place.{Ghosts as PlaceOf}
use Rattle.pet_base.specs.declared.link.Link.{Ghosts as LinkOf}
use Rattle.pet_base.specs.declared.sink.Sink.{Ghosts as SinkOf}
use Rattle.pet_base.specs.declared.outside.Outside.{Outside}
use Rattle.pet_base.specs.OutsideSeen.{OutsideSeen, outside_seen}

module _ {P K S L : Type 0} {p : PlaceOf P} {k : LinkOf K} {s : SinkOf S} where
  abbrev pub seen : Outside P K S L p k s → OutsideSeen
  seen o = outside_seen p k s o.place.now o.link.now o.out.now o.steps.now

  -- No reference was exchanged for another: what a caller of such a call needs to know its own objects afterwards.
  pub record AreSame (old new : Outside P K S L p k s) : Type 0 where
    pub place : new.place.ghost_name ≡ old.place.ghost_name
    pub link : new.link.ghost_name ≡ old.link.ghost_name
    pub out : new.out.ghost_name ≡ old.out.ghost_name
    pub steps : new.steps.ghost_name ≡ old.steps.ghost_name
