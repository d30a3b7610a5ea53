-- The commands that read a stream and its priorities, or make a stream: what the ends of each tell of failures, what it completes, and that it may
-- end for want of memory.
use Rattle.std.proofs.Common.{◌≡◌, ℕ, true, false, List, refl, sym, ap, subst, ◌∙◌}
use Rattle.pet_base.specs.OutsideSeen.{OutsideSeen}
use Rattle.field_elements.specs.Gf16.{gf16_coding}
use Rattle.command_plan.specs.laws.CheckLaws.{checks_session}
use Rattle.command_plan.specs.laws.PlanLaws.{plans_session}
use Rattle.command_replay.specs.laws.ReplayLaws.{replays_session}
use Rattle.command_sample.specs.declared.command.SampleEnd.{SampleEnd}
use Rattle.command_sample.specs.declared.command.SampleEnd.TheVariants as sample
use Rattle.command_sample.specs.Samples.{SampleEnds, Samples}
use Rattle.text_status.specs.declared.status.Status.{Status}
use Rattle.text_status.specs.declared.status.Status.TheVariants.{Done, NoMemory}
use Rattle.gf8.specs.Gf8.{gf8_coding}
use Rattle.packet_frame.specs.declared.format.TheConstants.{FORMAT, BYTE_FORMAT}
use Rattle.pet_tool.proofs.SessionSent.{session_completes}
use Rattle.outside_routes.specs.Way.{Way}
use Rattle.pet_text.specs.Ends.{way_in}
use Rattle.pet_tool.specs.Commands.Streams.{CompletesPlan, CompletesCheck, CompletesReplay, CompletesSample}
use Rattle.pet_tool.specs.Commands.Streams.{line_of_plan, line_of_check, line_of_replay, line_of_sample, status_of_plan}
use Rattle.pet_tool.specs.Commands.Streams.{status_of_check, status_of_replay, status_of_sample, line_of_send}
use Rattle.pet_tool.specs.Commands.Streams.{status_of_send, RunsPlan, RunsCheck, RunsSend, CompletesSend, RunsBsend}
use Rattle.pet_tool.specs.Commands.Streams.{CompletesBsend, RunsReplay, RunsSample}
use Rattle.pet_text.specs.declared.end.End.{End}
use Rattle.command_plan.specs.Ends.{plan_failed, check_failed}
use Rattle.command_plan.specs.declared.checking.CheckEnd.{CheckEnd}
use Rattle.command_plan.specs.declared.checking.CheckEnd.TheVariants as check
use Rattle.command_plan.specs.declared.planning.PlanEnd.{PlanEnd}
use Rattle.command_plan.specs.declared.planning.PlanEnd.TheVariants as plan
use Rattle.command_replay.specs.Ends.{replay_failed}
use Rattle.command_replay.specs.declared.command.ReplayEnd.{ReplayEnd}
use Rattle.command_replay.specs.declared.command.ReplayEnd.TheVariants as replay
use Rattle.command_send.specs.Failures.{end_of_place as send_place, end_of_link as send_link}
use Rattle.command_send.specs.declared.command.SendEnd.{SendEnd}
use Rattle.command_send.specs.declared.command.SendEnd.TheVariants as send
use Rattle.command_send.specs.Sends.{IsOther}
use Rattle.pet_text.specs.declared.end.End.TheVariants.{File, Udp}
use Rattle.pet_text.specs.Words.{has_form, send_apart, other_end}
use Rattle.pet_text.specs.declared.words.Command.TheVariants as words
use Rattle.pet_tool.proofs.Ends.{Agrees, lined, unlined, of_session}
use Rattle.pet_tool.proofs.LinesTold.{ended_with}
use Rattle.pet_text.specs.laws.WordLaws.{others, end_differs}
use Rattle.std.proofs.lemmas.Bool.{and_parts}
use Rattle.pet_tool.proofs.Telling.{told_calm, place_calm}

-- `plan`
pub plan_agrees : (end : PlanEnd) → Agrees (plan_failed end) false (line_of_plan end) (status_of_plan end)
plan_agrees (plan.Done text) = lined text.items
plan_agrees plan.NoMemory = unlined refl refl
plan_agrees plan.PlaceFault = unlined refl refl
plan_agrees (plan.BadPriority fault) = unlined refl refl
plan_agrees (plan.BadStream scan) = unlined refl refl
plan_agrees (plan.BadPlan fault) = of_session fault

pub plan_completes : (stream priority : List ℕ) (before after : OutsideSeen) (status : Status)
    → RunsPlan stream priority before after status
    → CompletesPlan stream priority before after status
plan_completes stream priority before after status runs = λ p b calm given.
    let only = runs.did.only in
    let said = told_calm before only.out_faults calm.well.out runs.tells in
    let planned = plans_session stream priority before.place runs.between.place runs.end only.did p b (record {
      memory = λ none. calm.memory (said.ended ∙ ap status_of_plan none);
      well = place_calm said calm.well;
      given = given;
    }) in
    ended_with before runs.between after status _ _ _ _ only.written said (ap status_of_plan planned.ended)
    (ap line_of_plan planned.ended ∙ planned.is)

-- `check`
pub check_agrees : (end : CheckEnd) → Agrees (check_failed end) false (line_of_check end) (status_of_check end)
check_agrees (check.Done groups) = lined (line_of_check (check.Done groups))
check_agrees check.NoMemory = unlined refl refl
check_agrees check.PlaceFault = unlined refl refl
check_agrees (check.BadPriority fault) = unlined refl refl
check_agrees (check.BadStream scan) = unlined refl refl
check_agrees (check.BadPlan fault) = of_session fault
check_agrees check.PlanLong = unlined refl refl
check_agrees (check.Text line) = unlined refl refl
check_agrees (check.Lines lines) = unlined refl refl
check_agrees (check.NotLeast group) = unlined refl refl

pub check_completes : (stream priority plan : List ℕ) (before after : OutsideSeen) (status : Status)
    → RunsCheck stream priority plan before after status
    → CompletesCheck stream priority plan before after status
check_completes stream priority plan before after status runs = λ p b calm given there.
    let only = runs.did.only in
    let said = told_calm before only.out_faults calm.well.out runs.tells in
    let ended = checks_session stream priority plan before.place runs.between.place runs.end only.did p b (record {
      memory = λ none. calm.memory (said.ended ∙ ap status_of_check none);
      well = place_calm said calm.well;
      given = given;
      plan_there = there;
    }) in
    ended_with before runs.between after status _ _ _ _ only.written said (ap status_of_check ended)
    (ap line_of_check ended)

-- `send`
pub send_agrees : (end : SendEnd) → Agrees (send_place end) (send_link end) (line_of_send end) (status_of_send end)
send_agrees (send.Done sent) = lined (line_of_send (send.Done sent))
send_agrees send.NoMemory = unlined refl refl
send_agrees send.PlaceFault = unlined refl refl
send_agrees send.LinkFault = unlined refl refl
send_agrees (send.BadPriority fault) = unlined refl refl
send_agrees (send.BadStream scan) = unlined refl refl
send_agrees (send.BadPlan fault) = of_session fault
send_agrees (send.Changed change) = unlined refl refl

pub send_completes : (stream priority : List ℕ) (to : Way) (before after : OutsideSeen) (status : Status)
    → RunsSend stream priority to before after status → CompletesSend stream priority to before after status
send_completes stream priority to before after status runs =
    session_completes FORMAT gf16_coding stream priority to before after status runs.between runs.end runs.did
    runs.tells

-- a file that the datagrams go to is another than the stream
is_other : (stream priority : List ℕ) (to : End) → send_apart stream priority to ≡ true → IsOther (way_in to) stream
is_other stream priority (File name) apart =
    end_differs stream name
    (and_parts (other_end stream (File name)) (other_end priority (File name)) apart).0
is_other stream priority (Udp address) apart = tt

-- so it is of the name and the way that are handed on
handed : (stream name : List ℕ) (way : Way) (to : End) → IsOther (way_in to) stream → name ≡ stream → way ≡ way_in to
    → IsOther way name
handed stream name way to other name_is way_is =
    subst (λ (w : Way). IsOther w name) (sym way_is)
    (subst (λ (s : List ℕ). IsOther (way_in to) s) (sym name_is) other)

pub send_differs : (stream priority name : List ℕ) (to : End) (way : Way)
    → has_form (words.Send stream priority to) ≡ true → name ≡ stream → way ≡ way_in to → IsOther way name
send_differs stream priority name to way form =
    handed stream name way to (is_other stream priority to (others (words.Send stream priority to) form))

-- `bsend`
pub bsend_completes : (stream priority : List ℕ) (to : Way) (before after : OutsideSeen) (status : Status)
    → RunsBsend stream priority to before after status → CompletesBsend stream priority to before after status
bsend_completes stream priority to before after status runs =
    session_completes BYTE_FORMAT gf8_coding stream priority to before after status runs.between runs.end runs.did
    runs.tells

pub bsend_differs : (stream priority name : List ℕ) (to : End) (way : Way)
    → has_form (words.Bsend stream priority to) ≡ true → name ≡ stream → way ≡ way_in to → IsOther way name
bsend_differs stream priority name to way form =
    handed stream name way to (is_other stream priority to (others (words.Bsend stream priority to) form))

-- `replay`
pub replay_agrees : (end : ReplayEnd) → Agrees (replay_failed end) false (line_of_replay end) (status_of_replay end)
replay_agrees (replay.Done text) = lined text.items
replay_agrees replay.NoMemory = unlined refl refl
replay_agrees replay.PlaceFault = unlined refl refl
replay_agrees (replay.BadPriority fault) = unlined refl refl
replay_agrees (replay.BadStream scan) = unlined refl refl
replay_agrees (replay.BadPlan fault) = of_session fault
replay_agrees (replay.BadScript line) = unlined refl refl

pub replay_completes : (stream priority script : List ℕ) (before after : OutsideSeen) (status : Status)
    → RunsReplay stream priority script before after status
    → CompletesReplay stream priority script before after status
replay_completes stream priority script before after status runs = λ p b t events calm given there read.
    let only = runs.did.only in
    let said = told_calm before only.out_faults calm.well.out runs.tells in
    let replayed = replays_session stream priority script before.place runs.between.place runs.end only.did p b t events
    (record {
      memory = λ none. calm.memory (said.ended ∙ ap status_of_replay none);
      well = place_calm said calm.well;
      given = given;
      script_there = there;
      read = read;
    }) in
    ended_with before runs.between after status _ _ _ _ only.written said (ap status_of_replay replayed.ended)
    (ap line_of_replay replayed.ended ∙ replayed.is)

-- `sample`
pub sample_agrees : (end : SampleEnd) → Agrees false false (line_of_sample end) (status_of_sample end)
sample_agrees (sample.Done text) = lined text.items
sample_agrees sample.NoMemory = unlined refl refl

-- the text of an end of `sample` that is not want of memory
sampled : (seed groups : ℕ) (end : SampleEnd) → (end ≡ sample.NoMemory → ⊥) → SampleEnds seed groups end
    → Samples seed groups (line_of_sample end) × (status_of_sample end ≡ Done)
sampled seed groups (sample.Done text) memory is = (is, refl)
sampled seed groups sample.NoMemory memory is = absurd (memory refl)

pub sample_completes : (seed groups : ℕ) (before after : OutsideSeen) (status : Status)
    → RunsSample seed groups before after status
    → CompletesSample seed groups before after status
sample_completes seed groups before after status runs = λ calm.
    let said = told_calm before runs.did.out_faults calm.well.out runs.tells in
    let made = sampled seed groups runs.end (λ none. calm.memory (said.ended ∙ ap status_of_sample none)) runs.did.did
    in (
      line_of_sample runs.end,
      made.0,
      ended_with before runs.between after status _ _ _ _ runs.did.written said made.1 refl,
    )
