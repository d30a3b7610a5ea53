-- What `sample` has made of a seed, and the session that it is of. This project's own.
use Rattle.std.specs.Prelude.{◌≡◌, ◌<◌, ℕ, suc, length}
use Rattle.pet_base.specs.declared.limits.TheConstants.{MAX_SAMPLE_GROUPS}
use Rattle.packet_session.specs.Session.{Session, SessionGroup}
use Rattle.priority_file.specs.Refusals.{priorities_of}
use Rattle.stream_sample.specs.SampleStream.{sample_text}
use Rattle.stream_session.specs.Accepted.{session_of}
use Rattle.stream_session.specs.Number.{session_number}
use Rattle.stream_session.specs.Sessions.{tables_in}
use Rattle.stream_session.specs.Tables.{cuts_of_stream}
use Rattle.command_sample.specs.declared.made.Made.{Made}
use Rattle.command_sample.specs.declared.printed.Contents.{Contents}
use Rattle.command_sample.specs.declared.printed.Figures.{Figures}
use Rattle.command_sample.specs.Samples.{figures_of}
use Rattle.command_sample.specs.SamplePriority.{sample_priority}

-- the session of the stream
abbrev pub session_made : Made → Session
session_made made = session_of sample_priority made.stream.items

-- the stream is that of some seed, and the plan and the cuts are those of the stream
pub record IsMade (made : Made) : Type 0 where
  pub seed : ℕ
  -- the groups but the last
  pub before : ℕ
  pub few : before < MAX_SAMPLE_GROUPS
  pub stream_is : made.stream.items ≡ sample_text seed (suc before)
  pub number : made.plan.number ≡ session_number sample_priority made.stream.items
  pub tables : made.plan.tables.items ≡ tables_in sample_priority made.stream.items
  pub cuts : made.cuts.items ≡ cuts_of_stream (priorities_of sample_priority) made.stream.items

-- what is told of it, where the store and the video have these
abbrev pub figures_made : Made → SessionGroup → SessionGroup → Contents → Contents → Figures
figures_made made first last store video =
    record (figures_of (length made.cuts.items) made.stream.items (session_made made) first last) {
      store = store;
      video = video;
    }
