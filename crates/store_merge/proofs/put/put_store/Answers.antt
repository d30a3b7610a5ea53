use Rattle.std.specs.Prelude.{OnOk, OnErr}
use Rattle.std.proofs.Common.{◌∙◌, sym}
use Rattle.pet_base.specs.laws.Through.{on_any_err}
use Rattle.outside_files.specs.Outputs.{Puts, PutsPart}
use Rattle.packet_verdicts.specs.Union.{frames_in}
use Rattle.packet_verdicts.specs.laws.FramesLaws.{frames_many}
use Rattle.pet_receive.specs.Arrivals.{kept_set}
use Rattle.store_text.specs.Store.{store_text}
use Rattle.store_text.specs.laws.PuttingLaws.{head_part, entries_part, tag_ends}
use Rattle.store_merge.proofs.put.put_store.Given.{Over}
use Rattle.store_merge.proofs.put.put_store.Goals as goal
use Rattle.store_merge.proofs.put.put_store.Goals.{After-put_tag}

pub returns-in_err-put_head-clause-part : goal.returns-in_err-put_head-clause-part
returns-in_err-put_head-clause-part g c =
    let set = kept_set c.args.receiver.now in
    on_any_err c.from_residual.result
    (head_part set.session (frames_in set) c.session.result c.kept.result c.session.ensures
    (c.kept.ensures ∙ sym (frames_many set)) (g.P.Place.seen c.args.place.now) (g.P.Place.seen c.put_head.new.place)
    c.in_err-put_head.ensures.part)

pub returns-in_err-put_groups-clause-part : goal.returns-in_err-put_groups-clause-part
returns-in_err-put_groups-clause-part g c =
    let set = kept_set c.args.receiver.now in
    on_any_err c.from_residual-in_err-put_groups.result
    (entries_part set.session (frames_in set) c.session.result c.kept.result c.session.ensures
    (c.kept.ensures ∙ sym (frames_many set)) (g.P.Place.seen c.args.place.now) (g.P.Place.seen c.put_head.new.place)
    c.put_head.ensures.others.target c.in_ok-put_head.ensures.puts (g.P.Place.seen c.put_groups.new.place)
    c.in_err-put_groups.ensures.part)

-- what stands there once the tag is put, or a part of it
ended : (g : Over) (c : After-put_tag g)
    → OnOk c.put_tag.result (Puts (store_text (kept_set c.args.receiver.now)) (g.P.Place.seen c.args.place.now)
    (g.P.Place.seen c.put_tag.new.place))
    × OnErr c.put_tag.result (PutsPart (store_text (kept_set c.args.receiver.now)) (g.P.Place.seen c.args.place.now)
    (g.P.Place.seen c.put_tag.new.place))
ended g c =
    let set = kept_set c.args.receiver.now in
    tag_ends set.session (frames_in set) c.session.result c.kept.result c.session.ensures
    (c.kept.ensures ∙ sym (frames_many set)) (g.P.Place.seen c.args.place.now) (g.P.Place.seen c.put_head.new.place)
    c.put_head.ensures.others.target c.in_ok-put_head.ensures.puts c.new-hasher.result c.put_head.new.hasher
    c.put_groups.new.hasher c.new-hasher.ensures c.in_ok-put_head.ensures.hashed c.in_ok-put_groups.ensures.hashed
    (g.P.Place.seen c.put_groups.new.place) c.put_groups.ensures.others.target c.in_ok-put_groups.ensures.puts
    c.put_tag.result (g.P.Place.seen c.put_tag.new.place) c.put_tag.ensures.puts c.put_tag.ensures.part

pub returns-clause-puts : goal.returns-clause-puts
returns-clause-puts g c = (ended g (goal.at.returns-clause-puts g c).After-put_tag).0

pub returns-clause-part : goal.returns-clause-part
returns-clause-part g c = (ended g (goal.at.returns-clause-part g c).After-put_tag).1
