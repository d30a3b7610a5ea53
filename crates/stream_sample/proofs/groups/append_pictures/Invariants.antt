use Rattle.std.proofs.Common.{◌≡◌, drop}
use Rattle.stream_sample.specs.SampleStream.{pictures_text, state_behind}
use Rattle.stream_sample.proofs.Appended.{IsAppended}
use Rattle.stream_sample.proofs.groups.append_pictures.Given as goal

abbrev pub invariant-loop-picture : goal.invariant-loop-picture
invariant-loop-picture l = record {
  text : IsAppended l.fn.into.items (pictures_text l.fn.filler.state l.pictures)
      (pictures_text l.filler.state (drop l.picture-index l.pictures)) l.into.items;
  state : state_behind l.filler.state (drop l.picture-index l.pictures) ≡ state_behind l.fn.filler.state l.pictures;
}
