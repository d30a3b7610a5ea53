-- What a keeper that was started is.
use Rattle.std.proofs.Common.{◌≡◌, ℕ, ◌≤◌, List, length, false, ap, subst, ◌∙◌}
use Rattle.outside_disk.specs.Disk.{DiskSeen, Between, IfTold}
use Rattle.packet_verdicts.specs.KeptSet.{KeptSet, IsKeptSet, empty_set, kept_in_all}
use Rattle.store_journal.specs.Text.{entries_text}
use Rattle.store_journal.specs.AtRest.{IsOpen}
use Rattle.store_journal.specs.Opening.{Reached, IsReadAs, LeavesSets}
use Rattle.store_keeper.specs.Journal.{keep_frame, frame_cost}
use Rattle.store_keeper.specs.Keeper.{Starts, IsKeeping}
use Rattle.store_keeper.specs.laws.KeepLaws.{IsReached, all_reached}
use Rattle.store_keeper.specs.laws.GateLaws.{reached_near, opened_for, now_stands}

module _ (session : List ℕ) (limit : ℕ) (first last : KeptSet) (gate before after : ℕ) (a b : DiskSeen)
    (is : first ≡ empty_set session limit) (sound : IsKeptSet first)
    (reached : Reached keep_frame frame_cost first gate last before after)
    (opened : Between (λ old new. IsOpen keep_frame first session gate last new) a b) where
  all : IsReached first last (length (entries_text reached.frames))
  all = all_reached reached.frames first last sound reached.keeps

  same_session : last.session ≡ session
  same_session = all.session_is ∙ ap (λ (s : KeptSet). s.session) is

  same_limit : last.limit ≡ limit
  same_limit = all.limit_is ∙ ap (λ (s : KeptSet). s.limit) is

  pub keeps_on : (room : ℕ) → 65538 ≤ room → IsKeeping last gate room false b
  keeps_on room room_is = record {
    room_is = room_is;
    sound = all.sound;
    near = reached_near first last gate (length (entries_text reached.frames)) (ap kept_in_all is) reached.place all.few;
    opened = λ going. opened_for session limit first last gate a b is same_session same_limit opened;
  }

  pub starts : IfTold a (IsReadAs keep_frame first session last)
      → Between (LeavesSets keep_frame first session) a b → Starts session limit a b last
  starts read images = record {
    session_is = same_session;
    limit_is = same_limit;
    sound = all.sound;
    read = subst (λ (e : KeptSet). IfTold a (IsReadAs keep_frame e session last)) is read;
    images = subst (λ (e : KeptSet). Between (LeavesSets keep_frame e session) a b) is images;
    stands = now_stands last gate b (opened_for session limit first last gate a b is same_session same_limit opened);
  }
