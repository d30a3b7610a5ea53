use Rattle.std.specs.Prelude.{OnOk, OnErr}
use Rattle.std.proofs.Common.{◌++◌, refl}
use Rattle.pet_base.specs.laws.Through.{on_any_err}
use Rattle.outside_files.specs.Outputs.{Puts, PutsPart}
use Rattle.outside_files.specs.laws.PartLaws.{part_within}
use Rattle.store_text.specs.laws.PuttingLaws.{ends_then}
use Rattle.store_union.proofs.put.put_both.Given.{Over}
use Rattle.store_union.proofs.put.put_both.Goals as goal
use Rattle.store_union.proofs.put.put_both.Goals.{After-put_hashed-2}

pub returns-in_err-put_hashed-clause-part : goal.returns-in_err-put_hashed-clause-part
returns-in_err-put_hashed-clause-part g c =
    on_any_err c.from_residual.result
    (part_within c.args.first.now (c.args.first.now ++ c.args.second.now) (g.P.Place.seen c.args.place.now)
    (g.P.Place.seen c.put_hashed.new.place) (c.args.second.now, refl) c.in_err-put_hashed.ensures.part)

-- what stands there once both are put, or a part of them
ended : (g : Over) (c : After-put_hashed-2 g)
    → OnOk c.put_hashed-2.result (Puts (c.args.first.now ++ c.args.second.now) (g.P.Place.seen c.args.place.now)
    (g.P.Place.seen c.put_hashed-2.new.place))
    × OnErr c.put_hashed-2.result (PutsPart (c.args.first.now ++ c.args.second.now) (g.P.Place.seen c.args.place.now)
    (g.P.Place.seen c.put_hashed-2.new.place))
ended g c =
    ends_then c.put_hashed-2.result c.args.first.now c.args.second.now (g.P.Place.seen c.args.place.now)
    (g.P.Place.seen c.put_hashed.new.place) (g.P.Place.seen c.put_hashed-2.new.place) c.put_hashed.ensures.others.target
    c.in_ok-put_hashed.ensures.puts c.put_hashed-2.ensures.puts c.put_hashed-2.ensures.part

pub returns-clause-puts : goal.returns-clause-puts
returns-clause-puts g c = (ended g (goal.at.returns-clause-puts g c).After-put_hashed-2).0

pub returns-clause-part : goal.returns-clause-part
returns-clause-part g c = (ended g (goal.at.returns-clause-part g c).After-put_hashed-2).1
