use Rattle.std.specs.Prelude.{OnOk, OnErr}
use Rattle.std.proofs.Common.{◌<◌, refl}
use Rattle.std.proofs.lemmas.List.Elements.{All-from_get_or}
use Rattle.pet_base.specs.laws.Through.{on_any_err}
use Rattle.outside_files.specs.Outputs.{Puts, PutsPart}
use Rattle.store_union.specs.inside.Merging.{frames_of, merged, both_text}
use Rattle.store_union.proofs.Joining.{packets_are}
use Rattle.store_text.specs.laws.PuttingLaws.{head_part, entries_part, tag_ends}
use Rattle.store_union.proofs.put.put_union.Given.{Over}
use Rattle.store_union.proofs.put.put_union.Goals as goal
use Rattle.store_union.proofs.put.put_union.Goals.{After-put_tag}

pub put_entries-requires-clause-mine : goal.put_entries-requires-clause-mine
put_entries-requires-clause-mine g c = (packets_are c.args.mine.now c.requires.mine.0 c.requires.mine.1).stands

pub put_entries-requires-clause-theirs : goal.put_entries-requires-clause-theirs
put_entries-requires-clause-theirs g c = (packets_are c.args.theirs.now c.requires.theirs.0 c.requires.theirs.1).stands

pub put_entries-requires-clause-spelled : goal.put_entries-requires-clause-spelled
put_entries-requires-clause-spelled g c =
    (packets_are c.args.mine.now c.requires.mine.0 c.requires.mine.1).spelled
    (All-from_get_or (λ byte. byte < 256) c.args.mine.now.entries.now 0 (λ i l. c.known.ensures i))

pub returns-in_err-put_head-clause-part : goal.returns-in_err-put_head-clause-part
returns-in_err-put_head-clause-part g c =
    let frames = merged (frames_of c.args.mine.now) (frames_of c.args.theirs.now) in
    on_any_err c.from_residual.result
    (head_part c.args.mine.now.session frames c.args.mine.now.session c.args.count refl c.requires.count
    (g.P.Place.seen c.args.place.now) (g.P.Place.seen c.put_head.new.place) c.in_err-put_head.ensures.part)

pub returns-in_err-put_entries-clause-part : goal.returns-in_err-put_entries-clause-part
returns-in_err-put_entries-clause-part g c =
    let frames = merged (frames_of c.args.mine.now) (frames_of c.args.theirs.now) in
    on_any_err c.from_residual-in_err-put_entries.result
    (entries_part c.args.mine.now.session frames c.args.mine.now.session c.args.count refl c.requires.count
    (g.P.Place.seen c.args.place.now) (g.P.Place.seen c.put_head.new.place) c.put_head.ensures.others.target
    c.in_ok-put_head.ensures.puts (g.P.Place.seen c.put_entries.new.place) c.in_err-put_entries.ensures.part)

-- what stands there once the tag is put, or a part of it
ended : (g : Over) (c : After-put_tag g)
    → OnOk c.put_tag.result (Puts (both_text c.args.mine.now c.args.theirs.now) (g.P.Place.seen c.args.place.now)
    (g.P.Place.seen c.put_tag.new.place))
    × OnErr c.put_tag.result (PutsPart (both_text c.args.mine.now c.args.theirs.now) (g.P.Place.seen c.args.place.now)
    (g.P.Place.seen c.put_tag.new.place))
ended g c =
    tag_ends c.args.mine.now.session (merged (frames_of c.args.mine.now) (frames_of c.args.theirs.now))
    c.args.mine.now.session c.args.count refl c.requires.count (g.P.Place.seen c.args.place.now)
    (g.P.Place.seen c.put_head.new.place) c.put_head.ensures.others.target c.in_ok-put_head.ensures.puts
    c.new-hasher.result c.put_head.new.hasher c.put_entries.new.hasher c.new-hasher.ensures
    c.in_ok-put_head.ensures.hashed c.in_ok-put_entries.ensures.hashed (g.P.Place.seen c.put_entries.new.place)
    c.put_entries.ensures.others.target c.in_ok-put_entries.ensures.puts c.put_tag.result
    (g.P.Place.seen c.put_tag.new.place) c.put_tag.ensures.puts c.put_tag.ensures.part

pub returns-clause-puts : goal.returns-clause-puts
returns-clause-puts g c = (ended g (goal.at.returns-clause-puts g c).After-put_tag).0

pub returns-clause-part : goal.returns-clause-part
returns-clause-part g c = (ended g (goal.at.returns-clause-part g c).After-put_tag).1
