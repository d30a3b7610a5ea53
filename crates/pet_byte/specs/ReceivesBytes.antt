-- What `breceive` leaves at each of its ends. This project's own.
use Rattle.std.specs.Prelude.{◌≡◌, ◌⊎◌, ℕ, ◌<◌, ◌≤◌, List, [], ◌∷◌, length}
use Rattle.pet_base.specs.declared.limits.TheConstants.{MAX_DATAGRAMS}
use Rattle.pet_base.specs.LinkSeen.{LinkSeen}
use Rattle.pet_base.specs.OutsideSeen.{OutsideSeen}
use Rattle.pet_base.specs.Seen.{Blame}
use Rattle.outside_files.specs.Uses.{reading, writing}
use Rattle.outside_routes.specs.Coming.{KeepsFeed}
use Rattle.outside_routes.specs.Way.{Way, OnFile, OnLink}
use Rattle.outside_routes.specs.declared.fault.RouteStop.{RouteStop}
use Rattle.outside_routes.specs.declared.fault.RouteStop.TheVariants as stop
use Rattle.gf8.specs.Gf8.{gf8_coding}
use Rattle.packet_frame.specs.declared.format.TheConstants.{BYTE_FORMAT}
use Rattle.packet_receiver.specs.ShownBytes.{IsComplete}
use Rattle.packet_verdicts.specs.KeptSet.{KeptSet}
use Rattle.packet_met.specs.Kept.{kept_of_in}
use Rattle.packet_reading.specs.Begun.{OutStops}
use Rattle.packet_reading.specs.Layers.{AreTotalsIn, ReadsLayersIn, StopsReadingIn}
use Rattle.packet_reading.specs.Opened.{IsBoundTo, KeepsLink, PrintedPort}
use Rattle.pet_byte.specs.Failures.{byte_of_output}
use Rattle.pet_byte.specs.declared.breceive.ByteEnd.{ByteEnd}
use Rattle.pet_byte.specs.declared.breceive.ByteEnd.TheVariants.{Done, NoMemory, PlaceFault, LinkFault}
use Rattle.pet_byte.specs.declared.breceive.ByteEnd.TheVariants.{OutFault, Incomplete, TurnsSpent}

-- The datagrams of FROM were read, and LAYERS has their layers text, as frames of the byte profile.
abbrev pub ReadsBytes : Way → List ℕ → List ℕ → OutsideSeen → OutsideSeen → Type 0
ReadsBytes from session layers before after =
    ReadsLayersIn BYTE_FORMAT (λ a. a < 256) gf8_coding from session layers before after

-- what such a command leaves where it stops before that
abbrev pub StopsReadingBytes : Way → List ℕ → List ℕ → OutsideSeen → OutsideSeen → RouteStop → Type 0
StopsReadingBytes from session layers before after why =
    StopsReadingIn BYTE_FORMAT (λ a. a < 256) gf8_coding from session layers before after why

-- what is kept of a session after these datagrams
abbrev pub kept_bytes : List ℕ → List (List ℕ) → KeptSet
kept_bytes session read = kept_of_in BYTE_FORMAT session read

-- the numbers of these datagrams: how many they are, how many packets of them are kept, and how many layers are shown
abbrev pub AreByteTotals : List ℕ → List (List ℕ) → ℕ → ℕ → ℕ → Type 0
AreByteTotals session read many kept shown =
    AreTotalsIn BYTE_FORMAT session read (record { read = many; kept = kept; shown = shown })

-- the files that are read and written
abbrev pub byte_uses_of : Way → List ℕ → List Blame
byte_uses_of (OnFile name) layers = reading name ∷ writing layers ∷ []
byte_uses_of (OnLink address) layers = writing layers ∷ []

-- At an end with numbers the datagrams were read, LAYERS is whole, and these are the numbers of what was read. At the
-- other ends LAYERS has at most a front; where FROM failed it has the whole text of what came. Nothing is printed
-- but the line of the port of a link, before LAYERS is made; where the output failed there, no file was made.
abbrev pub EndsBytes : Way → List ℕ → List ℕ → OutsideSeen → OutsideSeen → ByteEnd → Type 0
EndsBytes from session layers before after (Done read kept shown) =
    (r : ReadsBytes from session layers before after)
    × (length r.read < MAX_DATAGRAMS) × IsComplete (kept_bytes session r.read)
    × AreByteTotals session r.read read kept shown × PrintedPort from before after
EndsBytes from session layers before after (Incomplete read kept shown) =
    (r : ReadsBytes from session layers before after)
    × (length r.read < MAX_DATAGRAMS) × (IsComplete (kept_bytes session r.read) → ⊥)
    × AreByteTotals session r.read read kept shown × PrintedPort from before after
EndsBytes from session layers before after (TurnsSpent read kept shown) =
    (r : ReadsBytes from session layers before after)
    × (length r.read ≡ MAX_DATAGRAMS) × AreByteTotals session r.read read kept shown × PrintedPort from before after
EndsBytes from session layers before after OutFault = StopsReadingBytes from session layers before after stop.Out
EndsBytes from session layers before after NoMemory = StopsReadingBytes from session layers before after stop.NoMemory
EndsBytes from session layers before after PlaceFault = StopsReadingBytes from session layers before after stop.Place
EndsBytes from session layers before after LinkFault = StopsReadingBytes from session layers before after stop.Link

-- The link receives at FROM, at each end that tells of what came or comes behind the making of LAYERS. Want of memory,
-- and a failure of the link, may come before, and then nothing has left it.
abbrev pub IsBoundAtByteEnd : Way → LinkSeen → LinkSeen → ByteEnd → Type 0
IsBoundAtByteEnd from old new (Done read kept shown) = IsBoundTo from old new
IsBoundAtByteEnd from old new (Incomplete read kept shown) = IsBoundTo from old new
IsBoundAtByteEnd from old new (TurnsSpent read kept shown) = IsBoundTo from old new
IsBoundAtByteEnd from old new OutFault = IsBoundTo from old new
IsBoundAtByteEnd from old new PlaceFault = IsBoundTo from old new
IsBoundAtByteEnd from old new NoMemory = KeepsFeed from old new ⊎ IsBoundTo from old new
IsBoundAtByteEnd from old new LinkFault = KeepsFeed from old new ⊎ IsBoundTo from old new

-- what `breceive` does: it sends nothing, the link receives at FROM, the faults of the link and of the output do not
-- fall, and the output fails once at OutFault and at no other end
pub record ReceivesBytes (from : Way) (session layers : List ℕ) (before after : OutsideSeen)
    (end : ByteEnd) : Type 0 where
  pub link : KeepsLink from before.link after.link
  pub bound : IsBoundAtByteEnd from before.link after.link end
  pub later : before.out_faults ≤ after.out_faults
  pub out : OutStops (byte_of_output end) before after
  pub ends : EndsBytes from session layers before after end
