-- What `receive` leaves at each of its ends. This project's own.
use Rattle.std.specs.Prelude.{◌≡◌, ◌⊎◌, ℕ, ◌+◌, ◌<◌, ◌≤◌, List, [], ◌∷◌, length, None, Some}
use Rattle.pet_base.specs.declared.limits.TheConstants.{MAX_DATAGRAMS}
use Rattle.pet_base.specs.LinkSeen.{LinkSeen}
use Rattle.pet_base.specs.OutsideSeen.{OutsideSeen}
use Rattle.pet_base.specs.Seen.{Blame, HadFault}
use Rattle.outside_files.specs.Printed.{Unprinted}
use Rattle.outside_files.specs.Uses.{reading, writing}
use Rattle.outside_files.specs.Wrote.{File, Wrote}
use Rattle.outside_routes.specs.Way.{Way, OnFile, OnLink}
use Rattle.outside_routes.specs.Coming.{KeepsFeed}
use Rattle.outside_routes.specs.RouteFaults.{BoundFailed}
use Rattle.field_elements.specs.Gf16.{gf16_coding}
use Rattle.packet_frame.specs.declared.format.TheConstants.{FORMAT}
use Rattle.pet_receive.specs.ShownBytes.{IsComplete}
use Rattle.store_text.specs.Files.{store_file}
use Rattle.packet_met.specs.Kept.{nothing_of, kept_of}
use Rattle.packet_met.specs.Gf16.{IsLayersText}
use Rattle.packet_met.specs.Steps.{steps_of_all}
use Rattle.command_receive.specs.Failures.{end_of_output}
use Rattle.command_receive.specs.Opened.{IsBoundTo, IsUntouched, IsUnused, KeepsLink, PortFailed, PrintedPort}
use Rattle.packet_reading.specs.Begun.{OutStops}
use Rattle.packet_reading.specs.Layers.{AreTotalsIn, ReadsFrontIn, ReadsUntilFaultIn, StopsAtFileIn}
-- what was read of FROM, and LAYERS, are those of every reading
pub use Rattle.packet_reading.specs.Layers.{AreRead, HaveLeft, IsRead, IsReadFirst, layers_file, port_line}
use Rattle.packet_reading.specs.declared.reading.Totals.{Totals}
use Rattle.command_receive.specs.declared.command.ReceiveEnd.{ReceiveEnd}
use Rattle.command_receive.specs.declared.command.ReceiveEnd.TheVariants.{Done, NoMemory, PlaceFault, LinkFault}
use Rattle.command_receive.specs.declared.command.ReceiveEnd.TheVariants.{OutFault, Incomplete, TurnsSpent}

-- the file of the store of what is kept after these datagrams
abbrev pub kept_file : List ℕ → List ℕ → List (List ℕ) → File
kept_file store session read = store_file store (kept_of session read)

-- The datagrams of FROM were read, LAYERS has their layers text and STORE the store of what is kept of them, and the
-- field
-- steps that were counted are no more than the bound over the datagrams that were kept.
pub record Reads (from : Way) (session layers store : List ℕ) (before after : OutsideSeen) : Type 0 where
  pub read : List (List ℕ)
  pub text : List ℕ
  pub few : length read ≤ MAX_DATAGRAMS
  pub input : IsRead from read before after
  pub is_text : IsLayersText (nothing_of session) [] 1 read text
  pub files : Wrote (layers_file layers text ∷ kept_file store session read ∷ []) None before.place after.place
  pub steps : after.steps ≤ before.steps + steps_of_all (nothing_of session) read

-- LAYERS has a front of the layers text of the first datagrams of FROM.
abbrev pub ReadsFront : Way → List ℕ → List ℕ → OutsideSeen → OutsideSeen → Type 0
ReadsFront from session layers before after =
    ReadsFrontIn FORMAT (λ a. a < 65536) gf16_coding from session layers before after

-- The datagrams of FROM were read, LAYERS has their layers text, and STORE was not made, or has a front of the store of
-- what is kept of them.
pub record StoresFront (from : Way) (session layers store : List ℕ) (before after : OutsideSeen) : Type 0 where
  pub read : List (List ℕ)
  pub text : List ℕ
  pub few : length read ≤ MAX_DATAGRAMS
  pub input : IsRead from read before after
  pub is_text : IsLayersText (nothing_of session) [] 1 read text
  pub files :
      Wrote (layers_file layers text ∷ []) None before.place after.place
      ⊎ Wrote (layers_file layers text ∷ []) (Some (kept_file store session read)) before.place after.place

-- FROM failed while datagrams were to come: LAYERS has the whole layers text of those that came before.
abbrev pub ReadsUntilFault : Way → List ℕ → List ℕ → OutsideSeen → OutsideSeen → Type 0
ReadsUntilFault from session layers before after =
    ReadsUntilFaultIn FORMAT (λ a. a < 65536) gf16_coding from session layers before after

-- Where the place failed while FROM was opened and read, and LAYERS written.
abbrev pub StopsAtFile : Way → List ℕ → List ℕ → OutsideSeen → OutsideSeen → Type 0
StopsAtFile from session layers before after =
    StopsAtFileIn FORMAT (λ a. a < 65536) gf16_coding from session layers before after

-- LAYERS has such a front, or LAYERS is whole and STORE has one
abbrev pub LeavesLayersFront : Way → List ℕ → List ℕ → List ℕ → OutsideSeen → OutsideSeen → Type 0
LeavesLayersFront from session layers store before after =
    ReadsFront from session layers before after ⊎ StoresFront from session layers store before after

-- the numbers of these datagrams: how many they are, how many packets of them are kept, and how many layers are shown
abbrev pub AreTotals : List ℕ → List (List ℕ) → Totals → Type 0
AreTotals session read totals = AreTotalsIn FORMAT session read totals

-- the files that are read and written
abbrev pub uses_of : Way → List ℕ → List ℕ → List Blame
uses_of (OnFile name) layers store = reading name ∷ writing layers ∷ writing store ∷ []
uses_of (OnLink address) layers store = writing layers ∷ writing store ∷ []

-- Where the place failed: at FROM or at LAYERS; or at STORE, once the datagrams were read and LAYERS is whole.
abbrev pub StopsAtFileOrStore : Way → List ℕ → List ℕ → List ℕ → OutsideSeen → OutsideSeen → Type 0
StopsAtFileOrStore from session layers store before after =
    StopsAtFile from session layers before after
    ⊎ (HadFault before.place after.place (λ blame. blame ≡ writing store)
    × StoresFront from session layers store before after)

-- At an end with numbers the datagrams were read, LAYERS and STORE are whole, and these are the numbers of what was read.
-- Where memory failed LAYERS, or then STORE, has at most a front; where FROM failed, a file or the link, LAYERS has the
-- whole text of what came. Nothing is printed but the line of the port of a link, before LAYERS is made; where the
-- output failed there, no file was made.
abbrev pub EndsReceive : Way → List ℕ → List ℕ → List ℕ → OutsideSeen → OutsideSeen → ReceiveEnd → Type 0
EndsReceive from session layers store before after (Done totals) =
    (r : Reads from session layers store before after)
    × (length r.read < MAX_DATAGRAMS) × IsComplete (kept_of session r.read)
    × AreTotals session r.read totals × PrintedPort from before after
EndsReceive from session layers store before after (Incomplete totals) =
    (r : Reads from session layers store before after)
    × (length r.read < MAX_DATAGRAMS) × (IsComplete (kept_of session r.read) → ⊥)
    × AreTotals session r.read totals × PrintedPort from before after
EndsReceive from session layers store before after (TurnsSpent totals) =
    (r : Reads from session layers store before after)
    × (length r.read ≡ MAX_DATAGRAMS) × AreTotals session r.read totals × PrintedPort from before after
EndsReceive from session layers store before after OutFault =
    IsUntouched from before after × PortFailed from before after
EndsReceive from session layers store before after NoMemory =
    IsUnused from before after
    ⊎ (LeavesLayersFront from session layers store before after × PrintedPort from before after)
EndsReceive from session layers store before after PlaceFault =
    StopsAtFileOrStore from session layers store before after × PrintedPort from before after
EndsReceive from session layers store before after LinkFault =
    BoundFailed from before.link after.link
    × ((IsUntouched from before after × Unprinted before after)
    ⊎ (ReadsUntilFault from session layers before after × PrintedPort from before after))

-- The link receives at FROM, at each end that tells of what came or comes behind the making of LAYERS. Want of memory,
-- and a failure of
-- the link, may come before, and then nothing has left it.
abbrev pub IsBoundAtEnd : Way → LinkSeen → LinkSeen → ReceiveEnd → Type 0
IsBoundAtEnd from old new (Done totals) = IsBoundTo from old new
IsBoundAtEnd from old new (Incomplete totals) = IsBoundTo from old new
IsBoundAtEnd from old new (TurnsSpent totals) = IsBoundTo from old new
IsBoundAtEnd from old new OutFault = IsBoundTo from old new
IsBoundAtEnd from old new PlaceFault = IsBoundTo from old new
IsBoundAtEnd from old new NoMemory = KeepsFeed from old new ⊎ IsBoundTo from old new
IsBoundAtEnd from old new LinkFault = KeepsFeed from old new ⊎ IsBoundTo from old new

-- what `receive` does: it sends nothing, the link receives at FROM, the faults of the link and of the output do not
-- fall, and the output fails once at OutFault and at no other end
pub record Receives (from : Way) (session layers store : List ℕ) (before after : OutsideSeen)
    (end : ReceiveEnd) : Type 0 where
  pub link : KeepsLink from before.link after.link
  pub bound : IsBoundAtEnd from before.link after.link end
  pub later : before.out_faults ≤ after.out_faults
  pub out : OutStops (end_of_output end) before after
  pub ends : EndsReceive from session layers store before after end
