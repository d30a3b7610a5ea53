use Rattle.std.proofs.Common.{◌≡◌, ◌∙◌, ap, sym, refl, rules, inr}
use Rattle.std.specs.Prelude.{true, false, Some}
use Rattle.pet_base.specs.laws.Through.{on_any_err}
use Rattle.stream_groups.specs.CutGroups.{CutGroup}
use Rattle.stream_session.specs.laws.MarkLaws.{mark_found}
use Rattle.stream_session.specs.Marks.{mark_of}
use Rattle.stream_session.specs.Tables.{table_of_in}
use Rattle.command_send.specs.inside.Job.{lent}
use Rattle.command_send.proofs.sent_group.send_group.Goals as goal

not_both : true ≡ false → ⊥
not_both e = cc

pub returns-then-not-has_table-clause-sends : goal.returns-then-not-has_table-clause-sends
returns-then-not-has_table-clause-sends g c =
    let group = c.args.group.now in
    let same : c.first_mark-first.result ≡ c.of-second.result = search rules in
    let second : c.of-second.result ≡ mark_of group.bytes =
    c.of-second.ensures ∙ ap mark_of (c.deref.ensures.value ∙ ap (λ (x : CutGroup). x.bytes) c.group.view_is) in
    record {
      group = refl;
      first_is = c.first_mark-first.ensures;
      marked =
          inr (
            c.none.ensures,
            sym c.first_mark-first.ensures ∙ same ∙ second,
            λ e. not_both (sym (c.has_table.ensures.1
                (e ∙ ap (λ (x : CutGroup). Some (table_of_in c.args.job.now.format c.args.job.now.found.source.priority x.cut))
                (sym c.group.view_is))) ∙ c.if-not-has_table.true),
          );
      differ = λ e. mark_found group.bytes c.requires.filled (sym second ∙ sym same ∙ e ∙ c.none.ensures);
      still = refl {a = lent c.args.outside.now};
    }

pub returns-in_err-put_packets-clause-part : goal.returns-in_err-put_packets-clause-part
returns-in_err-put_packets-clause-part g c =
    let group = c.args.group.now in
    let same : c.first_mark-first.result ≡ c.of-second.result = search rules in
    let second : c.of-second.result ≡ mark_of group.bytes =
    c.of-second.ensures ∙ ap mark_of (c.deref.ensures.value ∙ ap (λ (x : CutGroup). x.bytes) c.group.view_is) in
    on_any_err c.from_residual.result (
      record {
        mark = sym c.first_mark-first.ensures ∙ same ∙ second;
        table =
            c.has_table.ensures.0 c.if-not-has_table.false
            ∙ ap (λ (x : CutGroup). Some (table_of_in c.args.job.now.format c.args.job.now.found.source.priority x.cut)) c.group.view_is;
      },
      c.in_err-put_packets.ensures.part,
    )

pub returns-clause-sends : goal.returns-clause-sends
returns-clause-sends g c =
    let group = c.args.group.now in
    let same : c.first_mark-first.result ≡ c.of-second.result = search rules in
    let second : c.of-second.result ≡ mark_of group.bytes =
    c.of-second.ensures ∙ ap mark_of (c.deref.ensures.value ∙ ap (λ (x : CutGroup). x.bytes) c.group.view_is) in (
      record {
        mark = sym c.first_mark-first.ensures ∙ same ∙ second;
        table =
            c.has_table.ensures.0 c.if-not-has_table.false
            ∙ ap (λ (x : CutGroup). Some (table_of_in c.args.job.now.format c.args.job.now.found.source.priority x.cut)) c.group.view_is;
      },
      c.in_ok-put_packets.ensures.sends,
    )

-- a body that answers a change here is refused at once
pub returns-clause-idle : goal.returns-clause-idle
returns-clause-idle g c = tt
