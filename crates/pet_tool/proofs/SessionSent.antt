-- What a command that sends a session completes follows from what it does, in any format and coding.
use Rattle.std.proofs.Common.{None, [], ◌∷◌, ◌≡◌, ℕ, ◌++◌, List, length, Option, sym, ap, subst, ◌∙◌}
use Rattle.std.specs.Io.KnownBytes.{append_known}
use Rattle.pet_base.specs.LinkSeen.{LinkSeen}
use Rattle.pet_base.specs.OutsideSeen.{OutsideSeen}
use Rattle.pet_base.specs.Seen.{Seen}
use Rattle.pet_base.specs.declared.limits.TheConstants.{MAX_SESSION}
use Rattle.field_elements.specs.Field.{Coding}
use Rattle.packet_frame.specs.declared.format.Format.{Format}
use Rattle.outside_files.specs.Wrote.{Wrote}
use Rattle.outside_routes.specs.RouteFaults.{AimedFailed}
use Rattle.outside_routes.specs.Sending.{Sent}
use Rattle.outside_routes.specs.Way.{Way, OnFile, OnLink}
use Rattle.stream_session.specs.Number.{session_number}
use Rattle.stream_session.specs.Sessions.{IsGivenIn, tables_in}
use Rattle.text_plan.specs.PlanLines.{send_text}
use Rattle.command_send.specs.Sends.{IsAimedAt, IsSentOf, SendsIn, packets_file_in, packets_sent_in, sent_line_text}
use Rattle.command_send.specs.SendsSession.{SendsAllIn, uses}
use Rattle.command_send.specs.declared.command.SendEnd.{SendEnd}
use Rattle.command_send.specs.declared.session.Sent.{Sent as SentNumbers}
use Rattle.command_send.specs.laws.EndLaws.{sends_session_in}
use Rattle.text_status.specs.Statuses.{fault_text}
use Rattle.text_status.specs.declared.status.Status.{Status}
use Rattle.text_status.specs.declared.status.Status.TheVariants.{Done}
use Rattle.pet_tool.specs.Commands.Streams.{line_of_send, status_of_send}
use Rattle.pet_tool.specs.Told.{Tells}
use Rattle.pet_tool.specs.Undisturbed.{IsUndisturbedOn, EndsWith}
use Rattle.pet_tool.proofs.LinesTold.{ends_with}
use Rattle.pet_tool.proofs.Telling.{told_calm, place_calm}

-- the line of what was sent
sent_text : (p b : List ℕ) (sent : SentNumbers) → IsSentOf p b sent
    → send_text sent.session sent.groups sent.datagrams ≡ sent_line_text p b
sent_text p b sent is =
    ap (λ (n : List ℕ). send_text n sent.groups sent.datagrams) is.session
    ∙ ap (λ (g : ℕ). send_text (session_number p b) g sent.datagrams) is.groups
    ∙ ap (λ (d : ℕ). send_text (session_number p b) (length (tables_in p b)) d) is.datagrams

module _ {E : Type 0} (t : Format) (c : Coding E) where
  -- it stays sent, whatever is printed behind
  still_sent : (to : Way) (p b : List ℕ) (before between after : OutsideSeen) → after.place ≡ between.place
      → after.link ≡ between.link → SendsAllIn t c to p b before between → SendsAllIn t c to p b before after
  still_sent (OnFile name) p b before between after place link sent =
      subst (λ (s : Seen). Wrote (packets_file_in t c name p b ∷ []) None before.place s) (sym place) sent
  still_sent (OnLink address) p b before between after place link sent = (
    subst (λ (l : LinkSeen). Sent (packets_sent_in t c p b) before.link l) (sym link) sent.0,
    subst (λ (l : LinkSeen). IsAimedAt address before.link l) (sym link) sent.1,
    ap (λ (s : Seen). s.files) place ∙ sent.2,
  )

  pub session_completes : (stream priority : List ℕ) (to : Way) (before after : OutsideSeen) (status : Status)
      (between : OutsideSeen) (end : SendEnd) → SendsIn t c stream priority to before between end
      → Tells (line_of_send end) (status_of_send end) between after status → (p b : List ℕ)
      → IsUndisturbedOn (AimedFailed to) (uses stream priority to) before after status
      → IsGivenIn t MAX_SESSION before.place stream priority p b
      → SendsAllIn t c to p b before after × EndsWith Done (sent_line_text p b) before after status
  session_completes stream priority to before after status between end did tells p b calm given =
      let said = told_calm before did.out_faults calm.calm.well.out tells in
      let sent = sends_session_in t c stream priority to before between end did p b (record {
        memory = λ none. calm.calm.memory (said.ended ∙ ap status_of_send none);
        well = place_calm said calm.calm.well;
        link = λ had. calm.link (subst (λ (l : LinkSeen). AimedFailed to before.link l) (sym said.link) had);
        given = given;
      }) in (
        still_sent to p b before between after said.place said.link sent.packets,
        ends_with Done status (sent_line_text p b) before after (said.ended ∙ ap status_of_send sent.ended)
            (said.printed
            ∙ ap (λ (o : Option (List ℕ)). append_known o (line_of_send end ++ fault_text status)) did.written
            ∙ ap (λ (l : List ℕ). append_known before.written (l ++ fault_text status))
            (ap line_of_send sent.ended ∙ sent_text p b sent.sent sent.is)),
      )
