-- The commands that read files and write one: what the ends of each tell of failures, what it completes, and that it may
-- end for want of memory.
use Rattle.std.proofs.Common.{◌≡◌, ℕ, true, false, List, [], ◌∷◌, length, Option, None, Some, refl, ap, subst, ◌∙◌}
use Rattle.std.proofs.Common.{◌<◌, ◌≤◌}
use Rattle.pet_base.specs.OutsideSeen.{OutsideSeen}
use Rattle.pet_base.specs.Seen.{Files, with_file}
use Rattle.outside_files.specs.Uses.{reading, writing}
use Rattle.stream_session.specs.Accepted.{session_of}
use Rattle.command_merge.specs.laws.SessionMerged.{completes_merge}
use Rattle.command_migrate.specs.laws.SessionMigrated.{completes_migrate}
use Rattle.command_video.specs.VideosSession.{HasStoreOf, VideosSession}
use Rattle.command_video.specs.laws.SessionVideo.{completes_video}
use Rattle.command_video.specs.StreamVideo.{stream_video}
use Rattle.packet_met.specs.Met.{Pair, all_shown}
use Rattle.text_status.specs.declared.status.Status.{Status}
use Rattle.text_status.specs.declared.status.Status.TheVariants.{Done, NoMemory, BadSystem}
use Rattle.pet_text.specs.Lines.{video_text, wrapped_text}
use Rattle.pet_tool.specs.Commands.Files.{CompletesMerge, CompletesMigrate, line_of_merge, line_of_video}
use Rattle.pet_tool.specs.Commands.Files.{line_of_migrate, status_of_merge, status_of_video, status_of_migrate}
use Rattle.pet_tool.specs.Commands.Files.{line_of_unwrap, line_of_wrap, status_of_unwrap, status_of_wrap}
use Rattle.pet_tool.specs.Commands.Files.{CompletesUnwrap, CompletesWrap, RunsMerge, RunsVideo, CompletesVideo}
use Rattle.pet_tool.specs.Commands.Files.{RunsMigrate, RunsUnwrap, RunsWrap}
use Rattle.pet_tool.proofs.Telling.{told_calm, place_calm, Told}
use Rattle.pet_tool.specs.Undisturbed.{IsUndisturbed, EndsWith}
use Rattle.command_merge.specs.Ends.{has_failed as merge_failed}
use Rattle.command_merge.specs.declared.command.MergeEnd.{MergeEnd}
use Rattle.command_merge.specs.declared.command.MergeEnd.TheVariants as merge
use Rattle.command_video.specs.Ends.{has_failed as video_failed}
use Rattle.command_video.specs.declared.command.VideoEnd.{VideoEnd}
use Rattle.command_video.specs.declared.command.VideoEnd.TheVariants as video
use Rattle.mpeg_system.specs.Ends.{unwrap_failed, wrap_failed}
use Rattle.mpeg_system.specs.declared.unwrap_files.UnwrapEnd.{UnwrapEnd}
use Rattle.mpeg_system.specs.declared.unwrap_files.UnwrapEnd.TheVariants as unwrap
use Rattle.mpeg_system.specs.declared.wrap_files.WrapEnd.{WrapEnd}
use Rattle.mpeg_system.specs.declared.wrap_files.WrapEnd.TheVariants as wrap
use Rattle.command_migrate.specs.Ends.{has_failed as migrate_failed}
use Rattle.command_migrate.specs.declared.command.MigrateEnd.{MigrateEnd}
use Rattle.command_migrate.specs.declared.command.MigrateEnd.TheVariants as migrate
use Rattle.pet_base.specs.declared.limits.TheConstants.{MAX_STREAM}
use Rattle.mpeg_system.specs.declared.refusal.System.{System}
use Rattle.mpeg_system.specs.declared.refusal.System.TheVariants.{TooLong}
use Rattle.mpeg_system.specs.Completes.{HasFile, UnwrapsStream, WrapsVideo, unwrap_end}
use Rattle.mpeg_system.specs.Videos.{refusal_of, video_of}
use Rattle.mpeg_system.specs.Wrapped.{wrapped}
use Rattle.mpeg_system.specs.laws.Completed.{completes_unwrap, completes_wrap}
use Rattle.pet_tool.proofs.Ends.{Agrees, lined, unlined}
use Rattle.pet_tool.proofs.LinesTold.{file_left}

-- `merge`
pub merge_agrees : (end : MergeEnd) → Agrees (merge_failed end) false (line_of_merge end) (status_of_merge end)
merge_agrees (merge.Done packets) = lined (line_of_merge (merge.Done packets))
merge_agrees merge.NoMemory = unlined refl refl
merge_agrees merge.PlaceFault = unlined refl refl
merge_agrees (merge.BadFirst at kind) = unlined refl refl
merge_agrees (merge.BadSecond at kind) = unlined refl refl
merge_agrees merge.OtherSession = unlined refl refl
merge_agrees (merge.Clash group number) = unlined refl refl
merge_agrees (merge.Full group) = unlined refl refl

pub merge_completes : (first second out : List ℕ) (before after : OutsideSeen) (status : Status)
    → RunsMerge first second out before after status
    → CompletesMerge first second out before after status
merge_completes first second out before after status runs = λ s files a b calm given.
    let only = runs.did in
    let said = told_calm before only.out_faults calm.well.out runs.tells in
    let merged = completes_merge first second out before.place runs.between.place runs.end only.did s files a b
    (record {
      memory = λ none. calm.memory (said.ended ∙ ap status_of_merge none);
      well = place_calm said calm.well;
      given = given;
    }) in
    file_left only.written said merged.file (ap status_of_merge merged.ended) (ap line_of_merge merged.ended)

-- `video`
pub video_agrees : (end : VideoEnd) → Agrees (video_failed end) false (line_of_video end) (status_of_video end)
video_agrees (video.Done bytes) = lined (line_of_video (video.Done bytes))
video_agrees video.NoMemory = unlined refl refl
video_agrees video.PlaceFault = unlined refl refl
video_agrees (video.BadStore at kind) = unlined refl refl
video_agrees (video.BadTable group) = unlined refl refl

-- what `video` completed, and what was told of it
module _ (store out : List ℕ) (before after : OutsideSeen) (status : Status)
    (runs : RunsVideo store out before after status) (p b : List ℕ) (files : Files)
    (pairs : List Pair)
    (calm : IsUndisturbed (reading store ∷ writing out ∷ []) before after status)
    (given : HasStoreOf p b store files pairs before.place) where
  video_told : Told (line_of_video runs.end) (status_of_video runs.end) runs.between after status
  video_told =
      told_calm before runs.did.out_faults calm.well.out runs.tells

  video_done : VideosSession p b out files pairs runs.between.place runs.end
  video_done = completes_video store out before.place runs.between.place runs.end runs.did.did p b files pairs (record {
    memory = λ none. calm.memory (video_told.ended ∙ ap status_of_video none);
    well = place_calm video_told calm.well;
    given = given;
  })

  video_shown : (after.place.files ≡ Some (with_file out (stream_video p b pairs) files))
      × EndsWith Done (video_text (length (stream_video p b pairs))) before after status
  video_shown =
      file_left runs.did.written video_told video_done.file (ap status_of_video video_done.ended)
      (ap line_of_video video_done.ended)

  video_whole : all_shown (session_of p b) pairs ≡ true
      → (after.place.files ≡ Some (with_file out b files)) × EndsWith Done (video_text (length b)) before after status
  video_whole all =
      let same = video_done.whole all in (
        video_shown.0 ∙ ap (λ (bytes : List ℕ). Some (with_file out bytes files)) same,
        subst (λ (bytes : List ℕ). EndsWith Done (video_text (length bytes)) before after status) same video_shown.1,
      )

pub video_completes : (store out : List ℕ) (before after : OutsideSeen) (status : Status)
    → RunsVideo store out before after status → CompletesVideo store out before after status
video_completes store out before after status runs = record {
  shown = video_shown store out before after status runs;
  whole = video_whole store out before after status runs;
}

-- `migrate`
pub migrate_agrees : (end : MigrateEnd)
    → Agrees (migrate_failed end) false (line_of_migrate end) (status_of_migrate end)
migrate_agrees (migrate.Done packets) = lined (line_of_migrate (migrate.Done packets))
migrate_agrees migrate.NoMemory = unlined refl refl
migrate_agrees migrate.PlaceFault = unlined refl refl
migrate_agrees migrate.AlreadyNew = unlined refl refl
migrate_agrees (migrate.BadStore at kind) = unlined refl refl
migrate_agrees (migrate.TooWide group) = unlined refl refl
migrate_agrees (migrate.Full group) = unlined refl refl

pub migrate_completes : (store out : List ℕ) (before after : OutsideSeen) (status : Status)
    → RunsMigrate store out before after status
    → CompletesMigrate store out before after status
migrate_completes store out before after status runs = λ s files pairs calm given.
    let only = runs.did in
    let said = told_calm before only.out_faults calm.well.out runs.tells in
    let migrated = completes_migrate store out before.place runs.between.place runs.end only.did s files pairs (record {
      memory = λ none. calm.memory (said.ended ∙ ap status_of_migrate none);
      well = place_calm said calm.well;
      given = given;
    }) in
    file_left only.written said migrated.file (ap status_of_migrate migrated.ended) (ap line_of_migrate migrated.ended)

-- `unwrap`
pub unwrap_agrees : (end : UnwrapEnd) → Agrees (unwrap_failed end) false (line_of_unwrap end) (status_of_unwrap end)
unwrap_agrees (unwrap.Done bytes) = lined (line_of_unwrap (unwrap.Done bytes))
unwrap_agrees unwrap.NoMemory = unlined refl refl
unwrap_agrees unwrap.PlaceFault = unlined refl refl
unwrap_agrees (unwrap.BadSystem fault) = unlined refl refl

module _ (file : List ℕ) (id : ℕ) (out : List ℕ) (before after : OutsideSeen) (status : Status)
    (runs : RunsUnwrap file id out before after status) (b : List ℕ) (files : Files)
    (calm : IsUndisturbed (reading file ∷ writing out ∷ []) before after status)
    (given : HasFile file b files before.place) where
  unwrap_told : Told (line_of_unwrap runs.end) (status_of_unwrap runs.end) runs.between after status
  unwrap_told =
      told_calm before runs.did.out_faults calm.well.out runs.tells

  unwrap_done : UnwrapsStream id out b files runs.between.place runs.end
  unwrap_done =
      completes_unwrap file id out before.place runs.between.place runs.end runs.did.did b files
      (λ none. calm.memory (unwrap_told.ended ∙ ap status_of_unwrap none))
      (place_calm unwrap_told calm.well)
      given

  unwrap_ends : (refusal : Option System) → refusal_of id b ≡ refusal
      → (after.place.files ≡ Some (with_file out (video_of id b) files))
      × EndsWith (status_of_unwrap (unwrap_end refusal (length (video_of id b))))
      (line_of_unwrap (unwrap_end refusal (length (video_of id b)))) before after status
  unwrap_ends refusal is =
      let ended : runs.end ≡ unwrap_end refusal (length (video_of id b)) =
      unwrap_done.ended ∙ ap (λ (r : Option System). unwrap_end r (length (video_of id b))) is in
      file_left runs.did.written unwrap_told unwrap_done.file (ap status_of_unwrap ended) (ap line_of_unwrap ended)

pub unwrap_completes : (file : List ℕ) (id : ℕ) (out : List ℕ) (before after : OutsideSeen) (status : Status)
    → RunsUnwrap file id out before after status
    → CompletesUnwrap file id out before after status
unwrap_completes file id out before after status runs = record {
  accepted = λ b files calm given is. unwrap_ends file id out before after status runs b files calm given None is;
  refused = λ b files calm given system is. unwrap_ends file id out before after status runs b files calm given
      (Some system) is;
}

-- `wrap`
pub wrap_agrees : (end : WrapEnd) → Agrees (wrap_failed end) false (line_of_wrap end) (status_of_wrap end)
wrap_agrees (wrap.Done bytes) = lined (line_of_wrap (wrap.Done bytes))
wrap_agrees wrap.NoMemory = unlined refl refl
wrap_agrees wrap.PlaceFault = unlined refl refl
wrap_agrees (wrap.BadSystem fault) = unlined refl refl

module _ (file out : List ℕ) (before after : OutsideSeen) (status : Status)
    (runs : RunsWrap file out before after status)
    (b : List ℕ) (files : Files) (calm : IsUndisturbed (reading file ∷ writing out ∷ []) before after status)
    (given : HasFile file b files before.place) where
  wrap_told : Told (line_of_wrap runs.end) (status_of_wrap runs.end) runs.between after status
  wrap_told =
      told_calm before runs.did.out_faults calm.well.out runs.tells

  wrap_done : WrapsVideo out b files runs.between.place runs.end
  wrap_done =
      completes_wrap file out before.place runs.between.place runs.end runs.did.did b files
      (λ none. calm.memory (wrap_told.ended ∙ ap status_of_wrap none))
      (place_calm wrap_told calm.well)
      given

  wrap_short : length b ≤ MAX_STREAM
      → (after.place.files ≡ Some (with_file out (wrapped b) files))
      × EndsWith Done (wrapped_text (length (wrapped b))) before after status
  wrap_short short =
      let done = wrap_done.short short in
      file_left runs.did.written wrap_told done.0 (ap status_of_wrap done.1) (ap line_of_wrap done.1)

  wrap_long : MAX_STREAM < length b
      → (after.place.files ≡ Some files) × EndsWith (BadSystem TooLong) [] before after status
  wrap_long long =
      let done = wrap_done.long long in
      file_left runs.did.written wrap_told done.0 (ap status_of_wrap done.1) (ap line_of_wrap done.1)

pub wrap_completes : (file out : List ℕ) (before after : OutsideSeen) (status : Status)
    → RunsWrap file out before after status → CompletesWrap file out before after status
wrap_completes file out before after status runs = record {
  accepted = λ b files calm given short. wrap_short file out before after status runs b files calm given short;
  refused = λ b files calm given long. wrap_long file out before after status runs b files calm given long;
}
