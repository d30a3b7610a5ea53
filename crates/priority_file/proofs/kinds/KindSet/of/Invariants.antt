use Rattle.std.proofs.Common.{◌≡◌, take}
use Rattle.priority_file.specs.Kinds.{bits_of}
use Rattle.priority_file.proofs.kinds.KindSet.of.Given as goal

abbrev pub invariant-loop-class : goal.invariant-loop-class
invariant-loop-class l = l.set.bits ≡ bits_of (take l.class-index l.classes)
