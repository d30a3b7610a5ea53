use Rattle.priority_file.specs.Draft.{layer_of}
use Rattle.priority_file.proofs.EachRead.{HasRead}
use Rattle.priority_file.proofs.draft.layers_of.Given as goal

abbrev pub invariant-loop-table : goal.invariant-loop-table
invariant-loop-table l = HasRead layer_of l.tables l.table-index l.layers.items
