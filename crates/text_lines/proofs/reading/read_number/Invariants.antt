use Rattle.std.proofs.Common.{◌≡◌, ◌≤◌, drop}
use Rattle.std.specs.List.{list_all}
use Rattle.text_lines.specs.Digits.{is_digit, value_from}
use Rattle.text_lines.proofs.reading.read_number.Given as goal

abbrev pub invariant-loop-digit : goal.invariant-loop-digit
invariant-loop-digit l = record {
  digits : list_all is_digit l.digits ≡ list_all is_digit (drop l.digit-index l.digits);
  value : value_from 0 l.digits ≡ value_from l.value (drop l.digit-index l.digits);
  few : l.value ≤ l.most;
}
