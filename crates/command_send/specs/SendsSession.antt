-- When a command that sends a session is done, in any format and coding, and when `send` is. This project's own.
use Rattle.std.specs.Prelude.{◌≡◌, ◌≢◌, ℕ, List, [], ◌∷◌, None}
use Rattle.pet_base.specs.Seen.{Blame}
use Rattle.pet_base.specs.OutsideSeen.{OutsideSeen}
use Rattle.outside_files.specs.Uses.{reading, writing, Failed}
use Rattle.outside_files.specs.Wrote.{Wrote}
use Rattle.outside_routes.specs.RouteFaults.{AimedFailed}
use Rattle.outside_routes.specs.Sending.{Sent}
use Rattle.outside_routes.specs.Way.{Way, OnFile, OnLink}
use Rattle.command_send.specs.declared.command.SendEnd.{SendEnd}
use Rattle.command_send.specs.declared.command.SendEnd.TheVariants.{Done, NoMemory}
use Rattle.command_send.specs.declared.session.Sent.{Sent as SentNumbers}
use Rattle.command_send.specs.Sends.{packets_file_in, packets_sent_in, IsAimedAt, IsSentOf}
use Rattle.field_elements.specs.Field.{Coding}
use Rattle.field_elements.specs.Gf16.{gf16_coding}
use Rattle.packet_frame.specs.declared.format.Format.{Format}
use Rattle.packet_frame.specs.declared.format.TheConstants.{FORMAT}
use Rattle.pet_base.specs.declared.limits.TheConstants.{MAX_SESSION}
use Rattle.stream_session.specs.Sessions.{IsGivenIn}

-- the files that are used: two are read, and TO is written where it is one
abbrev pub uses : List ℕ → List ℕ → Way → List Blame
uses stream priority (OnFile to) = reading stream ∷ reading priority ∷ writing to ∷ []
uses stream priority (OnLink address) = reading stream ∷ reading priority ∷ []

-- Memory was found, neither the place nor the link had a fault of this call, and the two files are told and a session of the
-- format.
pub record CanSendIn (t : Format) (stream priority : List ℕ) (way : Way) (p b : List ℕ) (before after : OutsideSeen)
    (end : SendEnd) : Type 0 where
  pub memory : end ≢ NoMemory
  pub well : Failed (uses stream priority way) before.place after.place → ⊥
  pub link : AimedFailed way before.link after.link → ⊥
  pub given : IsGivenIn t MAX_SESSION before.place stream priority p b

module _ {E : Type 0} (t : Format) (c : Coding E) where
  -- the file TO has the session's packets, or the link has sent them to the address TO and no file has changed
  abbrev pub SendsAllIn : Way → List ℕ → List ℕ → OutsideSeen → OutsideSeen → Type 0
  SendsAllIn (OnFile to) p b before after = Wrote (packets_file_in t c to p b ∷ []) None before.place after.place
  SendsAllIn (OnLink address) p b before after =
      Sent (packets_sent_in t c p b) before.link after.link × IsAimedAt address before.link after.link
      × (after.place.files ≡ before.place.files)

  -- and it is done, with their numbers
  pub record HasSentIn (way : Way) (p b : List ℕ) (before after : OutsideSeen) (end : SendEnd) : Type 0 where
    pub sent : SentNumbers
    pub ended : end ≡ Done sent
    pub packets : SendsAllIn way p b before after
    pub is : IsSentOf p b sent

  -- then it is done
  abbrev pub SendsSessionIn : List ℕ → List ℕ → Way → OutsideSeen → OutsideSeen → SendEnd → Type 0
  SendsSessionIn stream priority way before after end =
      (p b : List ℕ) → CanSendIn t stream priority way p b before after end → HasSentIn way p b before after end

-- and so is `send`
abbrev pub SendsAll : Way → List ℕ → List ℕ → OutsideSeen → OutsideSeen → Type 0
SendsAll way p b before after = SendsAllIn FORMAT gf16_coding way p b before after

abbrev pub SendsSession : List ℕ → List ℕ → Way → OutsideSeen → OutsideSeen → SendEnd → Type 0
SendsSession stream priority way before after end = SendsSessionIn FORMAT gf16_coding stream priority way before after end
