-- The store of a session of a stream gives the bytes of the stream that are shown, by what `video` does.
use Rattle.std.proofs.Common.{◌≡◌, ℕ, ◌<◌, List, [], ◌∷◌, length, Option, Some, refl, ap, subst, ◌∙◌, arith, inl, inr}
use Rattle.std.specs.Prelude.{option_map}
use Rattle.pet_base.specs.Seen.{Seen, Files, with_file}
use Rattle.pet_base.specs.laws.SeenLaws.{HadFault-since}
use Rattle.outside_files.specs.Uses.{reading, writing, Failed, IsOneOf}
use Rattle.outside_files.specs.Wrote.{with_files}
use Rattle.packet_session.specs.Session.{Session, IsSession}
use Rattle.packet_verdicts.specs.KeptSet.{KeptSet}
use Rattle.pet_receive.specs.ShownBytes.{groups_told}
use Rattle.store_text.specs.Files.{HasStore}
use Rattle.store_text.specs.declared.fault.BadStore.TheVariants.{At}
use Rattle.packet_met.specs.Met.{Pair}
use Rattle.packet_met.specs.laws.StoreRead.{IsStoreOf, store_is, read_so, not_refused}
use Rattle.stream_session.specs.Accepted.{session_of}
use Rattle.stream_session.specs.laws.SessionOfLaws.{is_session, session_fits}
use Rattle.command_video.specs.StoreVideo.{AreVideos, HasBadTable}
use Rattle.command_video.specs.Videos.{FailedInTurn, WritesVideo, StopsAtTable, Videos, video_file}
use Rattle.command_video.specs.VideosSession.{HasStoreOf, CanVideo, VideosSession, CompletesVideo}
use Rattle.command_video.specs.laws.WholeStream.{whole_stream}
use Rattle.command_video.specs.laws.PiecesShown.{by_pieces}
use Rattle.command_video.specs.laws.VideosOfStream.{videos_are, no_table_bad}
use Rattle.command_video.specs.declared.command.VideoEnd.{VideoEnd}
use Rattle.command_video.specs.declared.command.VideoEnd.TheVariants.{Done, NoMemory, PlaceFault, BadStore, BadTable}

-- a fault of one of the files in its turn is a fault of the command's
in_turn : (store out : List ℕ) (old new : Seen) → FailedInTurn store out old new
    → Failed (reading store ∷ writing out ∷ []) old new
in_turn store out old new (inl f) =
    HadFault-since old old new (IsOneOf (reading store ∷ [])) (IsOneOf (reading store ∷ writing out ∷ []))
    (omega arith) (λ b is. inl is) f
in_turn store out old new (inr f) =
    HadFault-since old old new (IsOneOf (writing out ∷ [])) (IsOneOf (reading store ∷ writing out ∷ [])) (omega arith)
    (λ b is. inr is) f.1

module _ (priority stream store out : List ℕ) (files : Files) (pairs : List Pair) (old new : Seen)
    (given : HasStoreOf priority stream store files pairs old) where
  abbrev s : Session
  s = session_of priority stream

  session : IsSession 2 s
  session = is_session priority stream given.bytes given.session

  one : (set : KeptSet) × IsStoreOf s pairs set
  one = store_is s pairs session (session_fits priority stream given.session)

  set_so : (set : KeptSet) → HasStore old.files store set → set ≡ one.0
  set_so set is = read_so s files old.files store pairs one.0 set given.told given.store_is one.1 is

  -- what was written
  video_of_session : (w : WritesVideo store out old new) (n : ℕ) → n ≡ length w.video
      → VideosSession priority stream out files pairs new (Done n)
  video_of_session w n is =
      let videos : AreVideos one.0 (groups_told one.0) w.video =
      subst (λ (set : KeptSet). AreVideos set (groups_told set) w.video) (set_so w.set w.store_is) w.videos in
      let video = videos_are priority stream given.bytes given.session pairs one.0 one.1.is_met w.video videos in
      record {
        file =
            w.file ∙ ap (λ (o : Option Files). option_map (with_files (video_file out w.video ∷ [])) o) given.told
            ∙ ap (λ (bytes : List ℕ). Some (with_file out bytes files)) video;
        pieces = by_pieces priority stream pairs;
        whole = whole_stream priority stream pairs given.session;
        ended = ap (λ (k : ℕ). Done k) (is ∙ ap (λ (bytes : List ℕ). length bytes) video);
      }

  no_table : (group : ℕ) → StopsAtTable store out group old new → ⊥
  no_table group stops =
      let same = set_so stops.set stops.store_is in
      no_table_bad priority stream given.bytes given.session pairs one.0 one.1.is_met group
      (subst (λ (set : KeptSet). group < groups_told set) same stops.inside)
      (subst (λ (set : KeptSet). HasBadTable set group) same stops.bad)

  -- by the end
  pub ends_video : (end : VideoEnd) → CanVideo priority stream store out files pairs old new end
      → Videos store out old new end → VideosSession priority stream out files pairs new end
  ends_video (Done n) can videos = video_of_session videos.0 n videos.1
  ends_video NoMemory can videos = absurd (can.memory refl)
  ends_video PlaceFault can videos = absurd (can.well (in_turn store out old new videos.0))
  ends_video (BadStore at kind) can videos =
      not_refused s files old.files store pairs one.0 (At at kind) given.told given.store_is one.1 videos.0
  ends_video (BadTable group) can videos = absurd (no_table group videos)

-- the store of a session of a stream gives the bytes that are shown, by what `video` does
pub completes_video : (store out : List ℕ) (old new : Seen) (end : VideoEnd) → Videos store out old new end
    → CompletesVideo store out old new end
completes_video store out old new end videos = λ priority stream files pairs can. ends_video priority stream store out
    files pairs old new can.given end can videos
