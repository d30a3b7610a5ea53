use Rattle.std.proofs.Common.{◌*◌, refl}
use Rattle.field_values.proofs.CosetRows.{copied_at, before_at}
use Rattle.field_values.proofs.cosets.copy_rows.Goals as goal

pub returns-clause-copied : goal.returns-clause-copied
returns-clause-copied g c d p i l m =
    let w = c.args.width in
    copied_at w c.args.from c.args.to c.args.count (c.args.from * w) (c.args.to * w)
    (c.args.count * w) c.args.rows.now c.args.into.now c.copy_from_slice.new.self c.requires.source c.requires.target
    refl refl refl c.copy_from_slice.ensures.after d p i l m

pub returns-clause-before : goal.returns-clause-before
returns-clause-before g c =
    let w = c.args.width in
    before_at w c.args.from c.args.to c.args.count (c.args.from * w) (c.args.to * w)
    (c.args.count * w) c.args.rows.now c.args.into.now c.copy_from_slice.new.self c.requires.source c.requires.target
    refl refl refl c.copy_from_slice.ensures.after
