-- The entries so far, and one more.
use Rattle.std.proofs.Common.{◌++◌, length, take, sym, ap, ◌∙◌, rules}
use Rattle.std.proofs.lemmas.List.{append-nil, take_all}
use Rattle.std.specs.List.{flat_map}
use Rattle.std.specs.Int.{to_be_bytes, w32}
use Rattle.layer_split.specs.Layers.{run_entry}
use Rattle.layer_split.proofs.Beginning.{begins_more, begins_after, part_after, entry_more, table_of_first}
use Rattle.layer_split.proofs.Beginning.{table_of_other}
use Rattle.layer_split.proofs.bytes.append_table.Goals as goal

pub returns-in_err-append_entry-clause-begins : goal.returns-in_err-append_entry-clause-begins
returns-in_err-append_entry-clause-begins c =
    begins_after c.args.into.now.items c.loop-run.into.items c.append_entry.new.into.items
    (to_be_bytes w32 (length c.args.runs.now) ++ flat_map run_entry (take c.loop-run.run-index c.args.runs.now))
    c.loop-run.invariant c.append_entry.ensures.begins

-- a body that leaves out the count is refused here
pub loop-run-init : goal.loop-run-init
loop-run-init c = search rules

pub loop-run-preserved : goal.loop-run-preserved
loop-run-preserved c =
    part_after c.args.into.now.items
    (to_be_bytes w32 (length c.args.runs.now)) _ _ _ _ _ c.loop-run.invariant c.in_ok-append_entry.ensures.ok
    (entry_more c.args.runs.now c.loop-run.run-index _ c.loop-run-test.true)

pub returns-then-layer-ne0-clause-ok : goal.returns-then-layer-ne0-clause-ok
returns-then-layer-ne0-clause-ok c =
    sym (ap (λ l. c.args.into.now.items ++ l) (table_of_other c.args.runs.now c.args.layer c.if-layer-ne0.true)
    ∙ append-nil c.args.into.now.items)

pub returns-clause-ok : goal.returns-clause-ok
returns-clause-ok c =
    c.loop-run.invariant
    ∙ (ap (λ rs. c.args.into.now.items ++ (to_be_bytes w32 (length c.args.runs.now) ++ flat_map run_entry rs))
    (take_all c.loop-run.run-index c.args.runs.now c.loop-run-test.false)
    ∙ ap (λ l. c.args.into.now.items ++ l) (sym (table_of_first c.args.runs.now c.args.layer c.if-layer-ne0.false)))

pub returns-clause-begins : goal.returns-clause-begins
returns-clause-begins c = begins_more c.args.into.now.items c.loop-run.into.items _ c.loop-run.invariant
