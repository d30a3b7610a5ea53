use Rattle.std.proofs.Common.{ℕ, List, ◌<◌, length, refl, ap, arith}
use Rattle.outside_files.specs.laws.PrintedLaws.{line_put, count_once}
use Rattle.pet_text.proofs.told.put_line.Goals as goal

pub returns-clause-prints : goal.returns-clause-prints
returns-clause-prints g c =
    let out = c.args.outside.now.out.now in
    let put =
    line_put c.put.result c.args.line.now (g.S.Sink.written out) (g.S.Sink.written c.put.new.self)
    (g.S.Sink.faults out)
    (g.S.Sink.faults c.put.new.self) c.put.ensures.written c.put.ensures.part c.put.ensures.cause in
    let some : 0 < length c.args.line.now = grind (arith, c.is_empty.ensures, c.if-is_empty.false) in
    record {
      place = refl;
      link = refl;
      steps = refl;
      later = c.put.ensures.cause.later;
      front = put.0;
      whole = put.1;
      once = count_once c.put.result (g.S.Sink.faults out) (g.S.Sink.faults c.put.new.self) c.put.ensures.cause.count;
      silent = λ none. absurd (let zero = ap (λ (l : List ℕ). length l) none in omega (arith, some, zero));
    }
