-- The run table, the runs so far, and one more.
use Rattle.std.proofs.Common.{◌++◌, sym, ap, ◌∙◌}
use Rattle.std.specs.List.{flat_map}
use Rattle.std.proofs.lemmas.List.{append-nil, take_all}
use Rattle.layer_split.specs.Layers.{runs_in, bytes_of_run}
use Rattle.layer_split.specs.Bytes.{table_of}
use Rattle.layer_split.proofs.Beginning.{begins_more, part_after, part_more}
use Rattle.layer_split.proofs.bytes.append_layer.Goals as goal

pub loop-run-init : goal.loop-run-init
loop-run-init c =
    c.in_ok-append_table.ensures.ok
    ∙ ap (λ l. c.args.into.now.items ++ l) (sym (append-nil (table_of c.args.runs.now c.args.layer)))

pub append_run-requires : goal.append_run-requires
append_run-requires c = c.requires.inside c.loop-run.run-index _ c.loop-run-test.true

pub returns-in_err-append_run-clause-begins : goal.returns-in_err-append_run-clause-begins
returns-in_err-append_run-clause-begins c =
    begins_more c.args.into.now.items c.append_run.new.into.items _
    (c.in_err-append_run.ensures.kept ∙ c.loop-run.invariant)

pub loop-run-preserved : goal.loop-run-preserved
loop-run-preserved c =
    part_after c.args.into.now.items
    (table_of c.args.runs.now c.args.layer) _ _ _ _ _ c.loop-run.invariant c.in_ok-append_run.ensures.ok
    (part_more c.args.stream.now c.args.layer c.args.runs.now c.loop-run.run-index _ c.loop-run-test.true)

pub returns-clause-ok : goal.returns-clause-ok
returns-clause-ok c =
    c.loop-run.invariant
    ∙ ap (λ rs. c.args.into.now.items
    ++ (table_of c.args.runs.now c.args.layer ++ flat_map (bytes_of_run c.args.stream.now) (runs_in c.args.layer rs)))
    (take_all c.loop-run.run-index c.args.runs.now c.loop-run-test.false)

pub returns-clause-begins : goal.returns-clause-begins
returns-clause-begins c = begins_more c.args.into.now.items c.loop-run.into.items _ c.loop-run.invariant
