-- What the parts of `send` speak of: what is to be sent, and what is lent to them. This project's own.
use Rattle.std.specs.Prelude.{List}
use Rattle.pet_base.specs.declared.place.Place.{Ghosts as PlaceOf}
use Rattle.pet_base.specs.declared.link.Link.{Ghosts as LinkOf}
use Rattle.pet_base.specs.declared.sink.Sink.{Ghosts as SinkOf}
use Rattle.pet_base.specs.declared.outside.Outside.{Outside}
use Rattle.field_elements.specs.Field.{Coding}
use Rattle.packet_frame.specs.declared.format.Format.{Format}
use Rattle.outside_routes.specs.Sending.{Routes, routes}
use Rattle.outside_routes.specs.Way.{Way, way_of}
use Rattle.stream_session.specs.declared.mark.GroupMark.{GroupMark}
use Rattle.session_source.specs.declared.source.Source.{Source}
use Rattle.command_send.specs.declared.job.Job.{Job as JobOf}

-- where the packets go, in which format and coding they are made, and what the first reading of both files found: the session
-- and its groups' marks
pub record Job (E : Type 0) : Type 0 where
  pub way : Way
  pub format : Format
  pub coding : Coding E
  pub source : Source
  pub marks : List GroupMark

abbrev pub job_of : {E F : Type 0} → Coding E → JobOf F → Job E
job_of c j = record {
  way = way_of j.to;
  format = j.format;
  coding = c;
  source = j.found.source;
  marks = j.found.marks.items;
}

-- the files and the link of a value that is lent
module _ {P K S L : Type 0} {p : PlaceOf P} {k : LinkOf K} {s : SinkOf S} where
  abbrev pub lent : Outside P K S L p k s → Routes
  lent o = routes p k o.place.now o.link.now
