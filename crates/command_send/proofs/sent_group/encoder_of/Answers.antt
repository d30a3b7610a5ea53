use Rattle.std.proofs.Common.{◌≡◌, ◌∙◌, length, ap, subst, sym, rules}
use Rattle.stripe_plan.specs.Sizes.{Sizes}
use Rattle.layer_split.specs.Layers.{message_by}
use Rattle.packet_frame.specs.Planned.{IsPlanTableIn}
use Rattle.stream_session.specs.Tables.{table_of_in}
use Rattle.command_send.proofs.EncodedGroup.{ok_same, there_at, all_at, words_are, encoder_is, header_is, head}
use Rattle.command_send.proofs.sent_group.encoder_of.Goals as goal

pub message_of-requires-clause-whole : goal.message_of-requires-clause-whole
message_of-requires-clause-whole g c = (length c.args.job.now.found.source.priority.layers, c.requires.whole)

pub new-requires-clause-table : goal.new-requires-clause-table
new-requires-clause-table g c =
    let job = c.args.job.now in
    let table : c.in_ok-clone.field-0 ≡ table_of_in job.format job.found.source.priority c.args.group.now.cut =
    ok_same c.in_ok-clone.field-0 c.index.result.now c.clone.result c.in_ok-clone.was c.clone.ensures ∙ c.index.ensures
    ∙ there_at job.found.source.tables.items c.args.number _ _ c.requires.there in
    subst (λ (s : Sizes). IsPlanTableIn job.format.bounds s.packets s.layers) (sym table)
    (all_at (λ (s : Sizes). IsPlanTableIn job.format.bounds s.packets s.layers) job.found.source.tables.items
    c.args.number _ c.requires.there job.planned)

pub new-requires-clause-message : goal.new-requires-clause-message
new-requires-clause-message g c =
    let job = c.args.job.now in
    let group = c.args.group.now in
    let bytes : c.deref.result.now ≡ message_by job.format.word group.bytes group.cut.runs (length group.cut.lengths) =
    c.deref.ensures.value ∙ c.in_ok-bytes.ensures in
    let table : c.in_ok-clone.field-0 ≡ table_of_in job.format job.found.source.priority group.cut =
    ok_same c.in_ok-clone.field-0 c.index.result.now c.clone.result c.in_ok-clone.was c.clone.ensures ∙ c.index.ensures
    ∙ there_at job.found.source.tables.items c.args.number _ _ c.requires.there in
    words_are job.format job.found.source.priority group _ c.deref.result.now c.in_ok-clone.field-0
    c.requires.coded.format.word c.requires.whole bytes table c.requires.coded.word

pub returns : goal.returns
returns g c =
    let job = c.args.job.now in
    let group = c.args.group.now in
    let source = job.found.source in
    let bytes : c.deref.result.now ≡ message_by job.format.word group.bytes group.cut.runs (length group.cut.lengths) =
    c.deref.ensures.value ∙ c.in_ok-bytes.ensures in
    let table : c.in_ok-clone.field-0 ≡ table_of_in job.format source.priority group.cut =
    ok_same c.in_ok-clone.field-0 c.index.result.now c.clone.result c.in_ok-clone.was c.clone.ensures ∙ c.index.ensures
    ∙ there_at source.tables.items c.args.number _ _ c.requires.there in
    let many : c.len.result ≡ length source.tables.items = search rules in
    encoder_is c.new.result job.format source c.args.number group
    (head source.number c.len.result c.args.number c.in_ok-clone.field-0) c.deref.result.now c.new.ensures.format
    c.new.ensures.header c.new.ensures.message
    (header_is source.number c.len.result (length source.tables.items) c.args.number c.in_ok-clone.field-0
    (table_of_in job.format source.priority group.cut) many table)
    (bytes ∙ ap (λ k. message_by job.format.word group.bytes group.cut.runs k) c.requires.whole.count)
