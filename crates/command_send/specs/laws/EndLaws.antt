-- Laws of the ends of a command that sends a session: it is done where no cause of another end holds.
use Rattle.std.proofs.Common.{◌≡◌, ◌≢◌, ℕ, List, [], ◌∷◌, Option, None, Some, refl, ap, subst, ◌∙◌, inl, inr, arith}
use Rattle.std.specs.Prelude.{IfSome}
use Rattle.pet_base.specs.Seen.{Blame, Files}
use Rattle.pet_base.specs.laws.SeenLaws.{HadFault-since}
use Rattle.pet_base.specs.OutsideSeen.{OutsideSeen}
use Rattle.outside_files.specs.Uses.{IsOneOf}
use Rattle.outside_files.specs.Wrote.{File, Wrote}
use Rattle.outside_files.specs.laws.WroteLaws.{Wrote-nothing}
use Rattle.command_send.specs.declared.command.SendEnd.{SendEnd}
use Rattle.command_send.specs.declared.session.Sent.{Sent as SentNumbers}
use Rattle.command_send.specs.declared.command.SendEnd.TheVariants.{Done, NoMemory, PlaceFault, LinkFault, BadPriority}
use Rattle.command_send.specs.declared.command.SendEnd.TheVariants.{BadStream, BadPlan, Changed}
use Rattle.command_send.specs.Sends.{packets_file_in, packets_sent_in, routes_in, HasPackets, IsSentOf, LinkSentAll}
use Rattle.command_send.specs.Sends.{MayBlameIn, SendTellsIn, SendsIn, Sends, KeepsLink, LeavesSentFront}
use Rattle.command_send.specs.SendsSession.{uses, CanSendIn, SendsAllIn, HasSentIn, SendsSessionIn, SendsSession}
use Rattle.field_elements.specs.Field.{Coding}
use Rattle.field_elements.specs.Gf16.{gf16_coding}
use Rattle.packet_frame.specs.declared.format.Format.{Format}
use Rattle.packet_frame.specs.declared.format.TheConstants.{FORMAT}
use Rattle.pet_base.specs.declared.limits.TheConstants.{MAX_SESSION}
use Rattle.outside_routes.specs.Sending.{Sent}
use Rattle.outside_routes.specs.Way.{Way, OnFile, OnLink}
use Rattle.stream_session.specs.Sessions.{HasSessionIn}
use Rattle.session_source.specs.laws.SourceLaws.{priority_is, stream_is, none_refused}
use Rattle.session_source.specs.Sources.{IsSourceFaultIn}
use Rattle.session_source.specs.declared.source.SourceFault.{SourceFault}
use Rattle.session_source.specs.declared.source.SourceFault.TheVariants as source

-- where no memory was found before anything was done, nothing was
pub nothing_sent : {E : Type 0} (t : Format) (c : Coding E) (stream priority : List ℕ) (way : Way) (now : OutsideSeen)
    → SendsIn t c stream priority way now now NoMemory
nothing_sent t c stream priority way now = record {
  link = keeps way;
  written = refl;
  out_faults = refl;
  costs = inl refl;
  tells = left way;
}
  where
    keeps : (w : Way) → KeepsLink w now.link now.link
    keeps (OnFile to) = refl
    keeps (OnLink address) = record { feed = refl; port = refl; bound = refl; later = omega arith }

    left : (w : Way) → LeavesSentFront t c stream priority w (routes_in now) (routes_in now)
    left (OnFile to) = inl (Wrote-nothing now.place now.place refl)
    left (OnLink address) = (inl refl, refl)

module _ {E : Type 0} (t : Format) (c : Coding E) (stream priority : List ℕ) (way : Way) (before after : OutsideSeen) where
  module _ (p b : List ℕ) (end : SendEnd) (can : CanSendIn t stream priority way p b before after end) where
    none_some : {A : Type 0} (o : Option A) (x : A) → o ≡ None → o ≡ Some x → ⊥
    none_some o x p q = cc

    -- a file that a failure may be at is one of those that are used
    used : (w : Way) (blame : Blame) → MayBlameIn t stream priority w before.place blame
        → IsOneOf (uses stream priority w) blame
    used (OnFile to) blame (inl (inl is)) = inr (inl is)
    used (OnFile to) blame (inl (inr is)) = inl is.0
    used (OnFile to) blame (inr is) = inr (inr is.0)
    used (OnLink address) blame (inl is) = inr is
    used (OnLink address) blame (inr is) = inl is.0

    -- the two files are the given ones
    file_of : (to : List ℕ) (s : HasSessionIn t before.place stream priority)
        → packets_file_in t c to s.priority_bytes s.stream_bytes ≡ packets_file_in t c to p b
    file_of to s =
        ap (λ (x : List ℕ). packets_file_in t c to x s.stream_bytes)
        (priority_is before.place after.place stream priority p b can.given s.priority_bytes s.priority_file)
        ∙ ap (λ (x : List ℕ). packets_file_in t c to p x)
        (stream_is before.place after.place stream priority p b can.given s.stream_bytes s.stream_file)

    packets_of : (s : HasSessionIn t before.place stream priority)
        → packets_sent_in t c s.priority_bytes s.stream_bytes ≡ packets_sent_in t c p b
    packets_of s =
        ap (λ (x : List ℕ). packets_sent_in t c x s.stream_bytes)
        (priority_is before.place after.place stream priority p b can.given s.priority_bytes s.priority_file)
        ∙ ap (λ (x : List ℕ). packets_sent_in t c p x)
        (stream_is before.place after.place stream priority p b can.given s.stream_bytes s.stream_file)

    -- by a link that has sent all, these were sent, since the files are told
    sent_told : (address : List ℕ) (s : HasSessionIn t before.place stream priority)
        → LinkSentAll t c address s.priority_bytes s.stream_bytes before.place.files before.link after.link
        → Sent (packets_sent_in t c p b) before.link after.link
    sent_told address s all =
        let same : all.datagrams ≡ packets_sent_in t c s.priority_bytes s.stream_bytes =
        subst (λ (o : Option Files). IfSome o (λ _. all.datagrams ≡ packets_sent_in t c s.priority_bytes s.stream_bytes))
        can.given.told all.told in
        subst (λ (ds : List (List ℕ)). Sent ds before.link after.link) (same ∙ packets_of s) all.sent

    packets_sent : (w : Way) (s : HasSessionIn t before.place stream priority)
        → HasPackets t c (routes_in before) s w (routes_in after) → SendsAllIn t c w p b before after
    packets_sent (OnFile to) s has =
        subst (λ (f : File). Wrote (f ∷ []) None before.place after.place) (file_of to s) has
    packets_sent (OnLink address) s has = (sent_told address s has.0, has.0.aimed, has.1)

    numbers_of : (s : HasSessionIn t before.place stream priority) (sent : SentNumbers)
        → IsSentOf s.priority_bytes s.stream_bytes sent → IsSentOf p b sent
    numbers_of s sent is =
        subst (λ (x : List ℕ). IsSentOf p x sent)
        (stream_is before.place after.place stream priority p b can.given s.stream_bytes s.stream_file)
        (subst (λ (x : List ℕ). IsSentOf x s.stream_bytes sent)
        (priority_is before.place after.place stream priority p b can.given s.priority_bytes s.priority_file) is)

    no_refusal : (fault : SourceFault) → fault ≢ source.NoMemory → fault ≢ source.Failed
        → IsSourceFaultIn t MAX_SESSION before.place after.place stream priority fault → ⊥
    no_refusal = none_refused before.place after.place stream priority p b can.given

    done : (told : SendEnd) → end ≡ told → SendTellsIn t c stream priority way before after told
        → HasSentIn t c way p b before after told
    done (Done sent) same tells = record {
      sent = sent;
      ended = refl;
      packets = packets_sent way tells.0 tells.1;
      is = numbers_of tells.0 sent tells.2;
    }
    done NoMemory same tells = absurd (can.memory same)
    done PlaceFault same tells =
        absurd (can.well (HadFault-since before.place before.place after.place _ _ (omega arith) (used way) tells.0))
    done LinkFault same tells = absurd (can.link tells.0)
    done (BadPriority fault) same tells = absurd (no_refusal (source.Priority fault) (λ is. cc) (λ is. cc) tells.0)
    done (BadStream scan) same tells = absurd (no_refusal (source.Stream scan) (λ is. cc) (λ is. cc) tells.0)
    done (BadPlan fault) same tells = absurd (no_refusal (source.Plan fault) (λ is. cc) (λ is. cc) tells.0)
    done (Changed change) same tells =
        absurd (none_some before.place.files can.given.files tells.0.untold can.given.told)

  pub sends_session_in : (end : SendEnd) → SendsIn t c stream priority way before after end
      → SendsSessionIn t c stream priority way before after end
  sends_session_in end sends p b can = done p b end can end refl sends.tells

-- so is `send`
pub sends_session : (stream priority : List ℕ) (way : Way) (before after : OutsideSeen) (end : SendEnd)
    → Sends stream priority way before after end → SendsSession stream priority way before after end
sends_session stream priority way before after end sends =
    sends_session_in FORMAT gf16_coding stream priority way before after end sends
