-- What `sample` tells of the stream of a seed. This project's own.
use Rattle.std.specs.Prelude.{◌≡◌, ℕ, ◌-◌, true, List, length, take, slice_get, Some}
use Rattle.sha2.specs.Sha256.{sha256}
use Rattle.stripe_plan.specs.Sizes.{datagram_length_of}
use Rattle.packet_session.specs.Session.{Session, SessionGroup}
use Rattle.packet_met.specs.Met.{all_shown}
use Rattle.packet_met.specs.MetStore.{pairs_store}
use Rattle.stream_sample.specs.SampleStream.{sample_text}
use Rattle.stream_session.specs.Accepted.{IsAcceptedSession}
use Rattle.command_sample.specs.declared.command.SampleEnd.{SampleEnd}
use Rattle.command_sample.specs.declared.command.SampleEnd.TheVariants.{Done, NoMemory}
use Rattle.command_sample.specs.declared.printed.Contents.{Contents}
use Rattle.command_sample.specs.declared.printed.Figures.{Figures}
use Rattle.command_sample.specs.declared.printed.Showing.{Showing}
use Rattle.command_sample.specs.Arrivals.{arrivals_of}
use Rattle.command_sample.specs.SamplePriority.{sample_priority}
use Rattle.command_sample.specs.SampleSession.{sample_session, whole_session_video}
use Rattle.command_sample.specs.Showings.{shown_after}
use Rattle.command_sample.specs.Summary.{summary_of}

-- how many bytes there are, and the first eight of their digest
abbrev pub contents_of : List ℕ → Contents
contents_of bytes = record { bytes = length bytes; digest = take 8 (sha256 bytes) }

-- the first and the last group of a session of so many
pub record AreEnds (groups : ℕ) (s : Session) (first last : SessionGroup) : Type 0 where
  pub many : length s.groups ≡ groups
  pub first_there : slice_get s.groups 0 ≡ Some first
  pub last_there : slice_get s.groups (groups - 1) ≡ Some last

-- when a layer of these two is shown
abbrev pub showing_of : ℕ → SessionGroup → SessionGroup → ℕ → Showing
showing_of groups first last layer = record {
  first = shown_after (arrivals_of groups) 0 first layer;
  last = shown_after (arrivals_of groups) (groups - 1) last layer;
}

-- what is told of a stream and its session, of which these are the first and the last group
abbrev pub figures_of : ℕ → List ℕ → Session → SessionGroup → SessionGroup → Figures
figures_of groups stream s first last = record {
  stream = contents_of stream;
  session = s.number;
  datagram = datagram_length_of first.layers;
  arrivals = length (arrivals_of groups);
  base = showing_of groups first last 0;
  predicted = showing_of groups first last 1;
  between = showing_of groups first last 2;
  store = contents_of (pairs_store s (arrivals_of groups));
  video = contents_of (whole_session_video s);
}

-- The stream and the priority file are an accepted session, every layer of which is shown by the packets that arrive;
-- the video of it is the stream again; and the text is that of its figures.
pub record Samples (seed groups : ℕ) (text : List ℕ) : Type 0 where
  pub accepted : IsAcceptedSession sample_priority (sample_text seed groups)
  pub complete : all_shown (sample_session seed groups) (arrivals_of groups) ≡ true
  pub again : whole_session_video (sample_session seed groups) ≡ sample_text seed groups
  pub first : SessionGroup
  pub last : SessionGroup
  pub ends : AreEnds groups (sample_session seed groups) first last
  pub text_is : text
      ≡ summary_of (figures_of groups (sample_text seed groups) (sample_session seed groups) first last)

-- by its end
abbrev pub SampleEnds : ℕ → ℕ → SampleEnd → Type 0
SampleEnds seed groups (Done text) = Samples seed groups text.items
SampleEnds seed groups NoMemory = Unit {0}
