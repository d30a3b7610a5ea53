-- `video` of the store of a session of a stream. This project's own.
use Rattle.std.specs.Prelude.{◌≡◌, ◌≢◌, ℕ, ◌<◌, true, List, [], ◌∷◌, All, length, Some}
use Rattle.pet_base.specs.Seen.{Seen, Files, with_file}
use Rattle.outside_files.specs.Uses.{reading, writing, Failed}
use Rattle.packet_met.specs.Met.{Pair, all_shown}
use Rattle.packet_met.specs.MetStore.{pairs_store}
use Rattle.stream_session.specs.Accepted.{IsAcceptedSession, session_of}
use Rattle.command_video.specs.StreamVideo.{stream_video, stream_pieces}
use Rattle.command_video.specs.declared.command.VideoEnd.{VideoEnd}
use Rattle.command_video.specs.declared.command.VideoEnd.TheVariants.{Done, NoMemory}

-- the file is the store of the packets of these pairs, of the session that a priority file and a stream are
pub record HasStoreOf (priority stream store : List ℕ) (files : Files) (pairs : List Pair) (old : Seen) : Type 0 where
  pub session : IsAcceptedSession priority stream
  pub bytes : All (λ b. b < 256) stream
  pub told : old.files ≡ Some files
  pub store_is : files store ≡ Some (pairs_store (session_of priority stream) pairs)

-- memory was found, and the place had no fault of this call
pub record CanVideo (priority stream store out : List ℕ) (files : Files) (pairs : List Pair) (old new : Seen)
    (end : VideoEnd) : Type 0 where
  pub memory : end ≢ NoMemory
  pub well : Failed (reading store ∷ writing out ∷ []) old new → ⊥
  pub given : HasStoreOf priority stream store files pairs old

-- OUT has the bytes of the stream that are shown, and no other file has changed. These are the bytes of the pieces in
-- the leading
-- layers that are shown, and the stream where every layer of every group is shown.
pub record VideosSession (priority stream out : List ℕ) (files : Files) (pairs : List Pair) (new : Seen)
    (end : VideoEnd) : Type 0 where
  pub file : new.files ≡ Some (with_file out (stream_video priority stream pairs) files)
  pub pieces : stream_video priority stream pairs ≡ stream_pieces priority stream pairs
  pub whole : all_shown (session_of priority stream) pairs ≡ true → stream_video priority stream pairs ≡ stream
  pub ended : end ≡ Done (length (stream_video priority stream pairs))

-- so it is for every such store of every stream
abbrev pub CompletesVideo : List ℕ → List ℕ → Seen → Seen → VideoEnd → Type 0
CompletesVideo store out old new end =
    (priority stream : List ℕ) (files : Files) (pairs : List Pair)
    → CanVideo priority stream store out files pairs old new end
    → VideosSession priority stream out files pairs new end
