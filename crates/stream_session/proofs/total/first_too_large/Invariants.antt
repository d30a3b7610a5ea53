use Rattle.std.proofs.Common.{◌≡◌, ◌≤◌, drop, map}
use Rattle.pet_base.specs.declared.limits.TheConstants.{MAX_SESSION}
use Rattle.stream_session.specs.Refusals.{first_above}
use Rattle.stream_session.specs.inside.Planning.{table_cost, above_from}
use Rattle.stream_session.proofs.total.first_too_large.Given as goal

-- the first group is looked for behind those so far, which are not too large together
abbrev pub invariant-loop-group : goal.invariant-loop-group
invariant-loop-group l = record {
  rest : first_above l.limit 0 (map (table_cost l.word) l.tables)
      ≡ above_from l.group l.limit l.total (map (table_cost l.word) (drop l.group l.tables));
  fits : l.total ≤ l.limit;
  most : l.limit ≤ MAX_SESSION;
  each : l.group ≤ l.total;
  word : l.word ≤ 2;
}
