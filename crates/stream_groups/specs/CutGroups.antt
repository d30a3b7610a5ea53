-- A group of a stream as callers see it. This project's own.
use Rattle.std.specs.Prelude.{ℕ, List}
use Rattle.layer_split.specs.Layers.{Cut}

-- a cut, whose runs are counted from the group's first byte, and the group's bytes
pub record CutGroup : Type 0 where
  pub cut : Cut
  pub bytes : List ℕ
