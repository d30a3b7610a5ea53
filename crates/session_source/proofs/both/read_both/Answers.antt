use Rattle.std.proofs.Common.{◌∙◌, ℕ, subst, ap, sym}
use Rattle.std.proofs.lemmas.Result.{err_from_is_err_and}
use Rattle.priority_file.specs.Refusals.{refusal_of}
use Rattle.outside_files.specs.Inputs.{IsFrontOf}
use Rattle.session_source.proofs.Sourced.{judged, priority_at, rules_failed, stream_at, stream_failed, answer_at}
use Rattle.session_source.proofs.both.read_both.Goals as goal

pub returns-in_err-file-clause-cause : goal.returns-in_err-file-clause-cause
returns-in_err-file-clause-cause g c =
    let r = err_from_is_err_and c.from_residual.result c.from_residual.ensures.1 in
    rw (r.1, r.2) (rules_failed c.args.format.now g.R.StreamReader.limit c.args.stream.now c.args.priority.now (g.P.Place.seen c.args.place.now)
    (g.P.Place.seen c.read_file.new.place) c.in_err-file.field-0.0 c.in_err-file.ensures.cause)

pub returns-in_err-rules-clause-cause : goal.returns-in_err-rules-clause-cause
returns-in_err-rules-clause-cause g c =
    let r = err_from_is_err_and c.from_residual-in_err-rules.result c.from_residual-in_err-rules.ensures.1 in
    let bytes = c.in_ok-file.file.items in
    let front = subst (λ (limit : ℕ). IsFrontOf limit bytes
    (g.P.Place.seen c.args.place.now).files c.args.priority.now) c.from.ensures c.in_ok-file.ensures.read in
    rw (r.1, r.2) (priority_at c.args.format.now g.R.StreamReader.limit _ _ _ (g.P.Place.seen c.args.place.now)
    (g.P.Place.seen c.read_file.new.place) c.in_err-rules.field-0.0 front
    (λ ne. ap refusal_of (sym c.deref.ensures.value) ∙ c.in_err-rules.ensures.refused ne))

pub returns-in_err-reader-clause-cause : goal.returns-in_err-reader-clause-cause
returns-in_err-reader-clause-cause g c =
    let r = err_from_is_err_and c.from_residual-in_err-reader.result c.from_residual-in_err-reader.ensures.1 in
    let is = judged _ _ _ _ _ _ c.from.ensures c.deref.ensures.value c.in_ok-file.ensures.read
    c.in_ok-rules.ensures.accepted c.in_ok-rules.ensures.stands_for in
    rw (r.1, r.2) (stream_failed c.args.format.now g.R.StreamReader.limit c.args.stream.now c.args.priority.now _ _ (g.P.Place.seen c.args.place.now)
    (g.P.Place.seen c.read_file.new.place) (g.P.Place.seen c.read_through.new.place)
    c.in_err-reader.field-0.0 is c.read_file.ensures.later c.in_err-reader.ensures.cause)

pub returns-in_err-answer-clause-cause : goal.returns-in_err-answer-clause-cause
returns-in_err-answer-clause-cause g c =
    let r = err_from_is_err_and c.from_residual-in_err-answer.result c.from_residual-in_err-answer.ensures.1 in
    let is = judged _ _ _ _ _ _ c.from.ensures c.deref.ensures.value c.in_ok-file.ensures.read
    c.in_ok-rules.ensures.accepted c.in_ok-rules.ensures.stands_for in
    let read = c.in_ok-reader.ensures.read in
    rw (r.1, r.2) (stream_at c.args.format.now g.R.StreamReader.limit _ _ _ _ _ (g.P.Place.seen c.args.place.now) (g.P.Place.seen c.read_file.new.place)
    (g.P.Place.seen c.read_through.new.place) c.in_err-answer.field-0.0
    is c.read_file.ensures.others.files read.1 (c.in_err-answer.ensures.refused c.in_ok-rules.rules _ read.0 read.2))

pub returns-clause-read : goal.returns-clause-read
returns-clause-read g c =
    let is = judged _ _ _ _ _ _ c.from.ensures c.deref.ensures.value c.in_ok-file.ensures.read
    c.in_ok-rules.ensures.accepted c.in_ok-rules.ensures.stands_for in
    let read = c.in_ok-reader.ensures.read in
    answer_at _ _ _ _ _ _ (g.P.Place.seen c.args.place.now) (g.P.Place.seen c.read_file.new.place)
    (g.R.StreamReader.answers c.args.format.now c.in_ok-answer.answer)
    is c.read_file.ensures.others.files c.deref-2.ensures.value read.1
    (c.in_ok-answer.ensures.answer c.in_ok-rules.rules _ read.0 read.2)
