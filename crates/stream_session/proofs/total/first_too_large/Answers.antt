-- Counted from the first group.
use Rattle.std.proofs.Common.{map, arith}
use Rattle.stream_session.specs.inside.Planning.{table_cost}
use Rattle.stream_session.proofs.Above.{above_from_start}
use Rattle.stream_session.proofs.total.first_too_large.Goals as goal

pub loop-group-init : goal.loop-group-init
loop-group-init c =
    record {
      rest = above_from_start c.args.limit (map (table_cost c.args.word) c.args.tables.now);
      fits = omega arith;
      most = c.requires.limit;
      each = omega arith;
      word = c.requires.word;
    }
