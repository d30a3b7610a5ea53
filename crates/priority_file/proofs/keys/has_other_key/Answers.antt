use Rattle.std.proofs.Common.{◌∙◌}
use Rattle.priority_file.proofs.Tables.{other_key}
use Rattle.priority_file.proofs.keys.has_other_key.Goals as goal

pub returns : goal.returns
returns c = c.any_other_key.ensures ∙ other_key c.args.known.now c.args.table.now.entries
