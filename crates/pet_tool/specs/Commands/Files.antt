-- The commands that read files and write one: `merge`, `video`, `migrate`, `unwrap` and `wrap`. For each the line and the status of
-- each of its ends, what a run of it does, and when it is done. This project's own.
use Rattle.std.specs.Prelude.{true, ℕ, List, [], ◌≡◌, ◌<◌, ◌≤◌, ◌∷◌, ◌++◌, length, None, Some}
use Rattle.command_merge.specs.declared.command.MergeEnd.{MergeEnd}
use Rattle.command_merge.specs.declared.command.MergeEnd.TheVariants as merge
use Rattle.command_video.specs.declared.command.VideoEnd.{VideoEnd}
use Rattle.command_video.specs.declared.command.VideoEnd.TheVariants as video
use Rattle.mpeg_system.specs.declared.unwrap_files.UnwrapEnd.{UnwrapEnd}
use Rattle.mpeg_system.specs.declared.unwrap_files.UnwrapEnd.TheVariants as unwrap
use Rattle.mpeg_system.specs.declared.wrap_files.WrapEnd.{WrapEnd}
use Rattle.mpeg_system.specs.declared.wrap_files.WrapEnd.TheVariants as wrap
use Rattle.command_migrate.specs.declared.command.MigrateEnd.{MigrateEnd}
use Rattle.command_migrate.specs.declared.command.MigrateEnd.TheVariants as migrate
use Rattle.text_status.specs.declared.status.Status.{Status}
use Rattle.text_status.specs.declared.status.Status.TheVariants.{Done, NoMemory, PlaceFault, BadStore, OtherSession}
use Rattle.text_status.specs.declared.status.Status.TheVariants.{Clash, BadTable, Full, BadSystem, AlreadyNew, TooWide}
use Rattle.pet_text.specs.Lines.{merged_text, video_text, unwrapped_text, wrapped_text, migrated_text}
use Rattle.pet_base.specs.declared.limits.TheConstants.{MAX_STREAM}
use Rattle.pet_base.specs.OutsideSeen.{OutsideSeen}
use Rattle.outside_files.specs.Uses.{reading, writing}
use Rattle.pet_base.specs.Seen.{Files, with_file}
use Rattle.packet_session.specs.Session.{Session}
use Rattle.packet_met.specs.Gf16.{met_frames}
use Rattle.packet_met.specs.Met.{Pair, all_shown}
use Rattle.packet_met.specs.MetStore.{pairs_store}
use Rattle.command_merge.specs.MergesSession.{HasStoresOf}
use Rattle.command_migrate.specs.MigratesSession.{HasOldStoreOf}
use Rattle.command_video.specs.StreamVideo.{stream_video}
use Rattle.command_video.specs.VideosSession.{HasStoreOf}
use Rattle.stream_session.specs.Accepted.{session_of}
use Rattle.mpeg_system.specs.declared.refusal.System.{System}
use Rattle.mpeg_system.specs.declared.refusal.System.TheVariants.{TooLong}
use Rattle.mpeg_system.specs.Completes.{HasFile}
use Rattle.mpeg_system.specs.Videos.{refusal_of, video_of}
use Rattle.mpeg_system.specs.Wrapped.{wrapped}
use Rattle.pet_tool.specs.Undisturbed.{IsUndisturbed, EndsWith}
use Rattle.command_merge.specs.Merges.{Merges}
use Rattle.command_migrate.specs.Migrates.{Migrates}
use Rattle.command_video.specs.Videos.{Videos}
use Rattle.mpeg_system.specs.Unwraps.{Unwraps}
use Rattle.mpeg_system.specs.Wraps.{Wraps}
use Rattle.pet_tool.specs.Runs.{Runs, OnFiles}

-- `merge`
abbrev pub line_of_merge : MergeEnd → List ℕ
line_of_merge (merge.Done packets) = merged_text packets
line_of_merge merge.NoMemory = []
line_of_merge merge.PlaceFault = []
line_of_merge (merge.BadFirst at kind) = []
line_of_merge (merge.BadSecond at kind) = []
line_of_merge merge.OtherSession = []
line_of_merge (merge.Clash group number) = []
line_of_merge (merge.Full group) = []

-- a store is told by its place among the words
abbrev pub status_of_merge : MergeEnd → Status
status_of_merge (merge.Done packets) = Done
status_of_merge merge.NoMemory = NoMemory
status_of_merge merge.PlaceFault = PlaceFault
status_of_merge (merge.BadFirst at kind) = BadStore 1 at kind
status_of_merge (merge.BadSecond at kind) = BadStore 2 at kind
status_of_merge merge.OtherSession = OtherSession
status_of_merge (merge.Clash group number) = Clash group number
status_of_merge (merge.Full group) = Full group

abbrev pub RunsMerge : List ℕ → List ℕ → List ℕ → OutsideSeen → OutsideSeen → Status → Type 0
RunsMerge first second out before after status =
    Runs line_of_merge status_of_merge (OnFiles (Merges first second out)) before after status

-- two stores of one session are merged into the store of the packets that the one or the other has
abbrev pub CompletesMerge : List ℕ → List ℕ → List ℕ → OutsideSeen → OutsideSeen → Status → Type 0
CompletesMerge first second out before after status =
    (s : Session) (files : Files) (a b : List Pair)
    → IsUndisturbed (reading first ∷ reading second ∷ writing out ∷ []) before after status
    → HasStoresOf s first second files a b before.place
    → (after.place.files ≡ Some (with_file out (pairs_store s (a ++ b)) files))
    × EndsWith Done (merged_text (length (met_frames s (a ++ b)))) before after status

-- `video`
abbrev pub line_of_video : VideoEnd → List ℕ
line_of_video (video.Done bytes) = video_text bytes
line_of_video video.NoMemory = []
line_of_video video.PlaceFault = []
line_of_video (video.BadStore at kind) = []
line_of_video (video.BadTable group) = []

-- the one store is the first
abbrev pub status_of_video : VideoEnd → Status
status_of_video (video.Done bytes) = Done
status_of_video video.NoMemory = NoMemory
status_of_video video.PlaceFault = PlaceFault
status_of_video (video.BadStore at kind) = BadStore 1 at kind
status_of_video (video.BadTable group) = BadTable group

abbrev pub RunsVideo : List ℕ → List ℕ → OutsideSeen → OutsideSeen → Status → Type 0
RunsVideo store out before after status =
    Runs line_of_video status_of_video (OnFiles (Videos store out)) before after status

-- of a store of a session of a stream the bytes of the stream are written that are shown
abbrev pub ShowsStream : List ℕ → List ℕ → OutsideSeen → OutsideSeen → Status → Type 0
ShowsStream store out before after status =
    (p b : List ℕ) (files : Files) (pairs : List Pair)
    → IsUndisturbed (reading store ∷ writing out ∷ []) before after status
    → HasStoreOf p b store files pairs before.place
    → (after.place.files ≡ Some (with_file out (stream_video p b pairs) files))
    × EndsWith Done (video_text (length (stream_video p b pairs))) before after status

-- and where every layer of every group is shown, as after a `receive` that was Done, the stream itself
abbrev pub GivesStream : List ℕ → List ℕ → OutsideSeen → OutsideSeen → Status → Type 0
GivesStream store out before after status =
    (p b : List ℕ) (files : Files) (pairs : List Pair)
    → IsUndisturbed (reading store ∷ writing out ∷ []) before after status
    → HasStoreOf p b store files pairs before.place
    → all_shown (session_of p b) pairs ≡ true
    → (after.place.files ≡ Some (with_file out b files)) × EndsWith Done (video_text (length b)) before after status

-- both
pub record CompletesVideo (store out : List ℕ) (before after : OutsideSeen) (status : Status) : Type 0 where
  pub shown : ShowsStream store out before after status
  pub whole : GivesStream store out before after status

-- `migrate`
abbrev pub line_of_migrate : MigrateEnd → List ℕ
line_of_migrate (migrate.Done packets) = migrated_text packets
line_of_migrate migrate.NoMemory = []
line_of_migrate migrate.PlaceFault = []
line_of_migrate migrate.AlreadyNew = []
line_of_migrate (migrate.BadStore at kind) = []
line_of_migrate (migrate.TooWide group) = []
line_of_migrate (migrate.Full group) = []

abbrev pub status_of_migrate : MigrateEnd → Status
status_of_migrate (migrate.Done packets) = Done
status_of_migrate migrate.NoMemory = NoMemory
status_of_migrate migrate.PlaceFault = PlaceFault
status_of_migrate migrate.AlreadyNew = AlreadyNew
status_of_migrate (migrate.BadStore at kind) = BadStore 1 at kind
status_of_migrate (migrate.TooWide group) = TooWide group
status_of_migrate (migrate.Full group) = Full group

abbrev pub RunsMigrate : List ℕ → List ℕ → OutsideSeen → OutsideSeen → Status → Type 0
RunsMigrate store out before after status =
    Runs line_of_migrate status_of_migrate (OnFiles (Migrates store out)) before after status

-- the old store of some packets of a session that can be sent today is taken into the store that `receive` writes of
-- them
abbrev pub CompletesMigrate : List ℕ → List ℕ → OutsideSeen → OutsideSeen → Status → Type 0
CompletesMigrate store out before after status =
    (s : Session) (files : Files) (pairs : List Pair)
    → IsUndisturbed (reading store ∷ writing out ∷ []) before after status
    → HasOldStoreOf s store files pairs before.place
    → (after.place.files ≡ Some (with_file out (pairs_store s pairs) files))
    × EndsWith Done (migrated_text (length (met_frames s pairs))) before after status

-- `unwrap`
abbrev pub line_of_unwrap : UnwrapEnd → List ℕ
line_of_unwrap (unwrap.Done bytes) = unwrapped_text bytes
line_of_unwrap unwrap.NoMemory = []
line_of_unwrap unwrap.PlaceFault = []
line_of_unwrap (unwrap.BadSystem fault) = []

abbrev pub status_of_unwrap : UnwrapEnd → Status
status_of_unwrap (unwrap.Done bytes) = Done
status_of_unwrap unwrap.NoMemory = NoMemory
status_of_unwrap unwrap.PlaceFault = PlaceFault
status_of_unwrap (unwrap.BadSystem fault) = BadSystem fault

abbrev pub RunsUnwrap : List ℕ → ℕ → List ℕ → OutsideSeen → OutsideSeen → Status → Type 0
RunsUnwrap file id out before after status =
    Runs line_of_unwrap status_of_unwrap (OnFiles (Unwraps file id out)) before after status

-- Of a system stream that is told and has no refusal the video of the id is written, and of another the video up to its
-- refusal,
-- with which the run then ends.
pub record CompletesUnwrap (file : List ℕ) (id : ℕ) (out : List ℕ) (before after : OutsideSeen)
    (status : Status) : Type 0 where
  pub accepted : (b : List ℕ) (files : Files) → IsUndisturbed (reading file ∷ writing out ∷ []) before after status
      → HasFile file b files before.place → refusal_of id b ≡ None
      → (after.place.files ≡ Some (with_file out (video_of id b) files))
      × EndsWith Done (unwrapped_text (length (video_of id b))) before after status
  pub refused : (b : List ℕ) (files : Files) → IsUndisturbed (reading file ∷ writing out ∷ []) before after status
      → HasFile file b files before.place → (system : System) → refusal_of id b ≡ Some system
      → (after.place.files ≡ Some (with_file out (video_of id b) files))
      × EndsWith (BadSystem system) [] before after status

-- `wrap`
abbrev pub line_of_wrap : WrapEnd → List ℕ
line_of_wrap (wrap.Done bytes) = wrapped_text bytes
line_of_wrap wrap.NoMemory = []
line_of_wrap wrap.PlaceFault = []
line_of_wrap (wrap.BadSystem fault) = []

abbrev pub status_of_wrap : WrapEnd → Status
status_of_wrap (wrap.Done bytes) = Done
status_of_wrap wrap.NoMemory = NoMemory
status_of_wrap wrap.PlaceFault = PlaceFault
status_of_wrap (wrap.BadSystem fault) = BadSystem fault

abbrev pub RunsWrap : List ℕ → List ℕ → OutsideSeen → OutsideSeen → Status → Type 0
RunsWrap file out before after status = Runs line_of_wrap status_of_wrap (OnFiles (Wraps file out)) before after status

-- Of a video that is told and not too long the wrapped form is written, and of a longer one no file.
pub record CompletesWrap (file out : List ℕ) (before after : OutsideSeen) (status : Status) : Type 0 where
  pub accepted : (b : List ℕ) (files : Files) → IsUndisturbed (reading file ∷ writing out ∷ []) before after status
      → HasFile file b files before.place → length b ≤ MAX_STREAM
      → (after.place.files ≡ Some (with_file out (wrapped b) files))
      × EndsWith Done (wrapped_text (length (wrapped b))) before after status
  pub refused : (b : List ℕ) (files : Files) → IsUndisturbed (reading file ∷ writing out ∷ []) before after status
      → HasFile file b files before.place → MAX_STREAM < length b
      → (after.place.files ≡ Some files) × EndsWith (BadSystem TooLong) [] before after status
