-- The last run takes the row in, or the row stands behind the runs.
use Rattle.std.proofs.Common.{◌≡◌, ◌-◌, ◌∙◌, length, set, sym, ap, not, rules, arith}
use Rattle.std.proofs.lemmas.Bool.{eq-eqb, ne_eqb}
use Rattle.layer_split.proofs.Running.{same_last, other_last, begins_last, last_le}
use Rattle.layer_split.proofs.runs.add_run.Goals as goal

pub returns-then-run-last-clause-begun : goal.returns-then-run-last-clause-begun
returns-then-run-last-clause-begun c =
    let l : length c.args.runs.now.items ≡ c.len-count.result = search rules in
    sym (begins_last c.args.runs.now.items c.args.run.layer c.index-last.result.now (c.len-count.result - 1)
    (omega arith) c.index-last.ensures
    ∙ ap not (eq-eqb _ _ c.if-run-last.true))

pub returns-then-run-last-clause-ok : goal.returns-then-run-last-clause-ok
returns-then-run-last-clause-ok c fits =
    let l : length c.args.runs.now.items ≡ c.len-count.result = search rules in
    let short = last_le c.args.runs.now.items c.index-last.result.now (c.len-count.result - 1)
    (omega arith) c.index-last.ensures in
    ap (λ n. set c.args.runs.now.items (c.len-count.result - 1)
    (record { layer = c.index-last.result.now.layer; at = c.index-last.result.now.at; len = n }))
    (omega (arith, c.saturating_add.ensures, short, fits, c.requires))
    ∙ same_last c.args.runs.now.items c.args.run c.index-last.result.now (c.len-count.result - 1)
    (omega arith) c.index-last.ensures c.if-run-last.true

pub returns-clause-begun : goal.returns-clause-begun
returns-clause-begun c =
    let l : length c.args.runs.now.items ≡ c.len-count.result = search rules in
    sym (begins_last c.args.runs.now.items c.args.run.layer c.index-last.result.now (c.len-count.result - 1)
    (omega arith) c.index-last.ensures
    ∙ ap not (ne_eqb _ _ c.if-run-last.false))

pub returns-clause-ok : goal.returns-clause-ok
returns-clause-ok c fits =
    let l : length c.args.runs.now.items ≡ c.len-count.result = search rules in
    c.in_ok-push-2.ensures.items
    ∙ other_last c.args.runs.now.items c.args.run c.index-last.result.now (c.len-count.result - 1)
    (omega arith) c.index-last.ensures c.if-run-last.false
