-- Nothing was added yet.
use Rattle.std.proofs.Common.{[], refl, arith, inl}
use Rattle.std.proofs.lemmas.List.Elements.{All-nil}
use Rattle.layer_split.proofs.splitter.Splitter.new.Goals as goal

pub returns : goal.returns
returns c = record {
  live = refl;
  layers = c.new.ensures;
  gone = [];
  current = [];
  groups = λ later. refl;
  fresh = λ _. refl;
  cut = refl;
  fit = All-nil _;
  number = refl;
  few = omega arith;
  picture = refl;
  held =
      inl (record { runs_are = c.new-2.ensures.items; size_is = refl; short = omega arith; counted = c.new-3.ensures });
}
