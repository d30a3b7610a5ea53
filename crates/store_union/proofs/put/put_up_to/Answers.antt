use Rattle.std.proofs.Common.{List, ℕ, subst}
use Rattle.pet_base.specs.laws.Through.{on_any_err}
use Rattle.outside_files.specs.Outputs.{Puts, PutsPart}
use Rattle.store_text.specs.declared.format.TheConstants.{STORE_FORM}
use Rattle.store_packets.specs.inside.Reading.{frame_of}
use Rattle.store_union.specs.inside.Merging.{left_at, passed}
use Rattle.store_text.specs.laws.PuttingLaws.{Hashes}
use Rattle.store_union.proofs.Putting.{up_to_text, left_spelled}
use Rattle.store_union.proofs.put.put_up_to.Goals as goal

pub returns-in_err-put_both-clause-part : goal.returns-in_err-put_both-clause-part
returns-in_err-put_both-clause-part g c =
    let next = frame_of STORE_FORM c.args.next.now in
    let is = up_to_text (passed next (left_at c.args.at)) next c.before-2.result.now c.args.entry.now
    (c.before-2.ensures _ c.pass-from.ensures.front) c.requires.entry in
    on_any_err c.from_residual.result
    (subst (λ (t : List ℕ). PutsPart t (g.P.Place.seen c.args.place.now) (g.P.Place.seen c.put_both.new.place)) is
    c.in_err-put_both.ensures.part)

pub returns-clause-spelled : goal.returns-clause-spelled
returns-clause-spelled g c =
    c.skip.ensures.spelled
    (left_spelled (frame_of STORE_FORM c.args.next.now) (left_at c.args.at) (left_at c.pass-from.result)
    c.args.at.rest.now c.pass-from.result.rest.now c.requires.spelled c.pass-from.ensures.front c.pass-from.ensures.left)

pub returns-clause-puts : goal.returns-clause-puts
returns-clause-puts g c =
    let next = frame_of STORE_FORM c.args.next.now in
    let is = up_to_text (passed next (left_at c.args.at)) next c.before-2.result.now c.args.entry.now
    (c.before-2.ensures _ c.pass-from.ensures.front) c.requires.entry in
    subst (λ (t : List ℕ). Puts t (g.P.Place.seen c.args.place.now) (g.P.Place.seen c.put_both.new.place)) is
    c.in_ok-put_both.ensures.puts

pub returns-clause-hashed : goal.returns-clause-hashed
returns-clause-hashed g c =
    let next = frame_of STORE_FORM c.args.next.now in
    let is = up_to_text (passed next (left_at c.args.at)) next c.before-2.result.now c.args.entry.now
    (c.before-2.ensures _ c.pass-from.ensures.front) c.requires.entry in
    subst (λ (t : List ℕ). Hashes t c.args.hasher.now c.put_both.new.hasher) is c.in_ok-put_both.ensures.hashed
