use Rattle.std.proofs.Common.{ap, inl, subst, sym, refl}
use Rattle.packet_frame.specs.declared.format.Format.{Format}
use Rattle.command_send.specs.inside.Coded.{IsCodedIn}
use Rattle.outside_files.specs.laws.WroteLaws.{Wrote-nothing}
use Rattle.pet_base.specs.laws.Through.{on_any_err}
use Rattle.outside_routes.specs.Sending.{routes}
use Rattle.outside_routes.specs.Way.{Way, way_of}
use Rattle.command_send.specs.inside.Job.{job_of, lent}
use Rattle.command_send.proofs.SessionRead.{left_to, sent_to, stops_to, costs_to, keeps_same}
use Rattle.command_send.proofs.SessionRead.{leaves_nothing}
use Rattle.command_send.proofs.Passes.{handed_on}
use Rattle.command_send.specs.declared.fault.SendFault.TheVariants.{Source}
use Rattle.command_send.specs.inside.SendParts.{IsSendFault}
use Rattle.command_send.specs.Sends.{KeepsLink}
use Rattle.command_send.proofs.session.send_all.Goals as goal

pub returns-in_err-job-clause-left : goal.returns-in_err-job-clause-left
returns-in_err-job-clause-left g c =
    on_any_err c.from_residual.result
    (leaves_nothing c.args.format g.F.Field.coding c.args.stream.now c.args.priority.now (way_of c.args.to)
    (lent c.args.outside.now)
    (routes g.P.Place g.K.Link c.read_first.new.place c.args.outside.now.link.now) c.read_first.ensures.others.files refl)

pub returns-in_err-job-clause-cause : goal.returns-in_err-job-clause-cause
returns-in_err-job-clause-cause g c =
    let old = lent c.args.outside.now in
    let new = routes g.P.Place g.K.Link c.read_first.new.place c.args.outside.now.link.now in
    handed_on (IsSendFault c.args.format g.F.Field.coding old new c.args.stream.now c.args.priority.now (way_of c.args.to)) c.from_residual.result
    (Source c.in_err-job.field-0.0) c.from_residual.ensures.1
    (c.in_err-job.ensures.cause, (Wrote-nothing old.place new.place c.read_first.ensures.others.files, refl))

pub returns-in_err-job-clause-costs : goal.returns-in_err-job-clause-costs
returns-in_err-job-clause-costs g c = inl refl

pub returns-in_err-job-clause-link : goal.returns-in_err-job-clause-link
returns-in_err-job-clause-link g c = keeps_same (way_of c.args.to) (g.K.Link.seen c.args.outside.now.link.now)

pub returns-in_err-send_session-clause-left : goal.returns-in_err-send_session-clause-left
returns-in_err-send_session-clause-left g c =
    let old = lent c.args.outside.now in
    let mid = routes g.P.Place g.K.Link c.read_first.new.place c.args.outside.now.link.now in
    let new = lent c.send_session.new.outside in
    on_any_err c.from_residual-in_err-send_session.result
    (left_to (job_of g.F.Field.coding c.in_ok-job.job) old mid new c.in_ok-job.ensures.read c.read_first.ensures.others.files refl
    (ap way_of c.in_ok-job.ensures.to) c.in_ok-job.ensures.format c.in_err-send_session.ensures.left)

pub returns-in_err-send_session-clause-link : goal.returns-in_err-send_session-clause-link
returns-in_err-send_session-clause-link g c =
    subst (λ (w : Way). KeepsLink w (g.K.Link.seen c.args.outside.now.link.now) (g.K.Link.seen c.send_session.new.outside.link.now))
    (ap way_of c.in_ok-job.ensures.to) c.send_session.ensures.link

pub returns-in_err-send_session-clause-cause : goal.returns-in_err-send_session-clause-cause
returns-in_err-send_session-clause-cause g c =
    let old = lent c.args.outside.now in
    let mid = routes g.P.Place g.K.Link c.read_first.new.place c.args.outside.now.link.now in
    let new = lent c.send_session.new.outside in
    handed_on (IsSendFault c.args.format g.F.Field.coding old new c.args.stream.now c.args.priority.now (way_of c.args.to))
    c.from_residual-in_err-send_session.result c.in_err-send_session.field-0.0
    c.from_residual-in_err-send_session.ensures.1
    (stops_to (job_of g.F.Field.coding c.in_ok-job.job) old mid new c.in_ok-job.ensures.read c.read_first.ensures.others.files refl
    (ap way_of c.in_ok-job.ensures.to) c.in_ok-job.ensures.format c.read_first.ensures.later c.in_err-send_session.field-0.0
    c.in_err-send_session.ensures.cause)

pub returns-in_err-send_session-clause-costs : goal.returns-in_err-send_session-clause-costs
returns-in_err-send_session-clause-costs g c =
    costs_to (job_of g.F.Field.coding c.in_ok-job.job) c.in_ok-job.ensures.read c.in_ok-job.ensures.format
    c.args.outside.now.steps.now c.send_session.new.outside.steps.now c.send_session.ensures.cost

pub returns-clause-sent : goal.returns-clause-sent
returns-clause-sent g c =
    let old = lent c.args.outside.now in
    let mid = routes g.P.Place g.K.Link c.read_first.new.place c.args.outside.now.link.now in
    let new = lent c.send_session.new.outside in
    sent_to (job_of g.F.Field.coding c.in_ok-job.job) old mid new c.in_ok-job.ensures.read c.read_first.ensures.others.files refl
    (ap way_of c.in_ok-job.ensures.to) c.in_ok-job.ensures.format c.sent_of.result c.in_ok-send_session.ensures.sent
    c.sent_of.ensures.session c.sent_of.ensures.groups c.sent_of.ensures.datagrams

pub returns-clause-link : goal.returns-clause-link
returns-clause-link g c =
    subst (λ (w : Way). KeepsLink w (g.K.Link.seen c.args.outside.now.link.now) (g.K.Link.seen c.send_session.new.outside.link.now))
    (ap way_of c.in_ok-job.ensures.to) c.send_session.ensures.link

pub returns-clause-costs : goal.returns-clause-costs
returns-clause-costs g c =
    costs_to (job_of g.F.Field.coding c.in_ok-job.job) c.in_ok-job.ensures.read c.in_ok-job.ensures.format
    c.args.outside.now.steps.now c.send_session.new.outside.steps.now c.send_session.ensures.cost

pub send_session-requires-clause-coded : goal.send_session-requires-clause-coded
send_session-requires-clause-coded g c =
    subst (λ (t : Format). IsCodedIn g.F.Field.COUNT g.F.Field.coding t) (sym c.in_ok-job.ensures.format) c.requires.coded
