-- Nothing is read yet.
use Rattle.std.proofs.Common.{◌≡◌, ◌-◌, length, refl, ap, arith, inl}
use Rattle.std.specs.List.{filter, range_with_len}
use Rattle.mpeg_scan.specs.StartCodes.{is_opener}
use Rattle.mpeg_scan.specs.Scanning.{back, openers_from}
use Rattle.mpeg_scan.proofs.scanner.Scanner.new.Goals as goal

pub returns : goal.returns
unfolding back openers_from
returns c = record {
  live = refl;
  at = refl;
  bounded = omega arith;
  back1 = refl;
  back2 = refl;
  back3 = refl;
  back4 = refl;
  back5 = refl;
  undecided = λ rest scan h. omega arith;
  place =
      record {
        front = inl refl;
        from = refl;
        none_given = refl;
        openers = λ rest. let e : length rest ≡ length rest - 0 = omega arith in
            ap (λ n. filter (is_opener rest) (range_with_len 0 n)) e;
      };
}
