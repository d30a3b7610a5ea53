use Rattle.std.proofs.Common.{sym, ap, ◌∙◌}
use Rattle.std.specs.List.{list_any}
use Rattle.priority_file.specs.Document.{layer_misses_key}
use Rattle.priority_file.proofs.Tables.{any_table}
use Rattle.priority_file.proofs.keys.layers_miss_key.Goals as goal

pub returns : goal.returns
returns c =
    c.any_misses_key.ensures ∙ sym (any_table layer_misses_key c.layers_of.result.now)
    ∙ ap (list_any layer_misses_key) c.layers_of.ensures
