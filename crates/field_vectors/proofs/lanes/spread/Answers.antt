use Rattle.field_vectors.proofs.LaneMaps.{spread_is}
use Rattle.field_vectors.proofs.lanes.spread.Goals as goal

pub returns : goal.returns
returns c = spread_is c.args.table.now c.told-table
