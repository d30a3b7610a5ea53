use Rattle.std.proofs.Common.{◌≡◌, refl, subst, sym}
use Rattle.pet_base.specs.laws.Through.{on_any_err}
use Rattle.std.specs.Prelude.{OnErr}
use Rattle.stripe_plan.specs.declared.bounds.TheConstants.{BOUNDS}
use Rattle.packet_frame.specs.Format.{IsFormat}
use Rattle.packet_encoder.specs.CodedGroup.{CodedGroup}
use Rattle.packet_session.specs.Datagrams.{group_datagrams_in}
use Rattle.outside_routes.specs.Sending.{SendsPart, routes}
use Rattle.outside_routes.specs.laws.SendingLaws.{part_nothing}
use Rattle.outside_routes.specs.Way.{way_of}
use Rattle.command_send.specs.inside.Job.{job_of, lent}
use Rattle.command_send.specs.inside.Second.{datagrams_of}
use Rattle.command_send.proofs.sent_group.put_packets.Goals as goal

pub returns-in_err-encoder-clause-part : goal.returns-in_err-encoder-clause-part
returns-in_err-encoder-clause-part g c =
    on_any_err c.from_residual.result (part_nothing (way_of c.args.job.now.to)
    (datagrams_of (job_of g.F.Field.coding c.args.job.now) c.args.number c.args.group.now)
    (lent c.args.outside.now) (lent c.args.outside.now) refl refl)

pub returns-clause-part : goal.returns-clause-part
returns-clause-part g c =
    subst (λ (e : CodedGroup). OnErr c.put_group.result
    (SendsPart (way_of c.args.job.now.to) (group_datagrams_in e.format g.F.Field.coding e.encoding)
    (lent c.args.outside.now)
    (routes g.P.Place g.K.Link c.put_group.new.place c.put_group.new.link))) c.in_ok-encoder.ensures
    c.put_group.ensures.part

pub put_group-requires-clause-format : goal.put_group-requires-clause-format
put_group-requires-clause-format g c =
    subst (λ (e : CodedGroup). IsFormat e.format) (sym c.in_ok-encoder.ensures) c.requires.coded.format.format

pub put_group-requires-clause-bare : goal.put_group-requires-clause-bare
put_group-requires-clause-bare g c =
    subst (λ (e : CodedGroup). e.format.bounds.bare ≡ BOUNDS.bare) (sym c.in_ok-encoder.ensures)
    c.requires.coded.format.plan.bare
