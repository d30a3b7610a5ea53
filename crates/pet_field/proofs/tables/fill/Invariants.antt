use Rattle.std.proofs.Common.{◌≡◌, length}
use Rattle.pet_field.specs.Powers.{power_of_x}
use Rattle.pet_field.proofs.Tabled.{AreFilled}
use Rattle.pet_field.proofs.tables.fill.Given as goal

abbrev pub invariant-loop-k : goal.invariant-loop-k
invariant-loop-k l = record {
  many : length l.powers ≡ 65536;
  full : length l.exponents ≡ 65536;
  current : l.power ≡ power_of_x l.k;
  filled : AreFilled l.k l.powers l.exponents;
}
