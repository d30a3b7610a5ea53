use Rattle.std.proofs.Common.{List, ℕ, take, refl, subst}
use Rattle.outside_files.specs.Outputs.{Puts}
use Rattle.outside_files.specs.laws.OutputLaws.{on_err, puts_nothing}
use Rattle.outside_files.specs.laws.PartLaws.{part_of_take}
use Rattle.store_text.proofs.Bytes.{no_bytes}
use Rattle.store_text.proofs.put.put_hashed.Goals as goal

pub returns-then-is_empty-clause-puts : goal.returns-then-is_empty-clause-puts
returns-then-is_empty-clause-puts g c =
    let s = g.P.Place.seen c.args.place.now in
    subst (λ (bytes : List ℕ). Puts bytes s s) (no_bytes c.args.bytes.now c.if-is_empty.ensures) (puts_nothing s s refl)

pub returns-clause-part : goal.returns-clause-part
returns-clause-part g c =
    let old = g.P.Place.seen c.args.place.now in
    let new = g.P.Place.seen c.put.new.self in
    on_err c.put.result
    (λ (part : (k : ℕ) × Puts (take k c.args.bytes.now) old new).
    part_of_take part.0 c.args.bytes.now old new part.1)
    c.put.ensures.part
