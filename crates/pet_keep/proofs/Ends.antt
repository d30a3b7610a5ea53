-- What a run leaves, by its end.
use Rattle.std.proofs.Common.{◌≡◌, ℕ, List, [], ◌∷◌, Option, None, Some, refl, sym, ap, subst, ◌∙◌}
use Rattle.std.specs.Prelude.{Result, Ok, Err}
use Rattle.outside_disk.specs.Disk.{Between, DiskSeen, IfTold, IsSound, LeavesOnly, Tells, Told, Untold, image}
use Rattle.outside_disk.specs.laws.DiskLaws.{between_weaker, only_same, only_then, only_weaker, since_has}
use Rattle.packet_verdicts.specs.KeptSet.{KeptSet}
use Rattle.packet_verdicts.specs.Verdicts.{after, after_all, after_all_in}
use Rattle.pet_base.specs.declared.limits.TheConstants.{MAX_SESSION}
use Rattle.pet_keep.specs.Journaled.{AreFirst, SinceBeginning, StandsSince, journal_in, with_datagrams}
use Rattle.pet_keep.specs.inside.SoFar.{StandsAfterFirst}
use Rattle.store_journal.specs.declared.fault.StartFault.{StartFault}
use Rattle.store_keeper.specs.Journal.{StandsFor, journal_of}
use Rattle.store_keeper.specs.laws.KeepLaws.{after_limit, after_session}
use Rattle.store_keeper.specs.Keeper.{ReadsAsBefore, Starts}

-- nothing was handed to what a text stands for
with_nothing : (r : Result KeptSet StartFault) → with_datagrams [] r ≡ r
unfolding after_all_in
with_nothing (Ok set) = refl
with_nothing (Err fault) = refl

none_first : (all : Option (List (List ℕ))) → AreFirst [] all
none_first None = tt
none_first (Some ds) = (ds, refl)

module _ (session : List ℕ) (all : Option (List (List ℕ))) where
  -- an image at the beginning stands for itself
  itself : (old : Told) (c : List ℕ) → image old c → StandsSince session all old c
  itself old c is = (c, is, [], none_first all, sym (with_nothing (journal_in session c)))

  -- what a crash leaves while the journal is opened
  opening_leaves : (old new : Told) → ReadsAsBefore session MAX_SESSION old new
      → LeavesOnly (StandsSince session all old) old new
  opening_leaves old new reads =
      only_weaker _ (StandsSince session all old) old new
      (λ c alike. (
        alike.0,
        alike.1,
        [],
        none_first all,
        alike.2 ∙ sym (with_nothing (journal_in session alike.0)),
      )) reads

  -- every image since the beginning, where the run has left only such
  since : (old new : Told) → LeavesOnly (StandsSince session all old) old new → SinceBeginning session all old new
  since old new only = since_has (StandsSince session all old) old new only (itself old)

  -- nothing was done
  pub since_same : (a : DiskSeen) → Between (SinceBeginning session all) a a
  since_same Untold = tt
  since_same (Tells d) = since d d (only_same (StandsSince session all d) d)

  -- the journal was not opened
  pub since_opening : (a b : DiskSeen) → Between (ReadsAsBefore session MAX_SESSION) a b
      → Between (SinceBeginning session all) a b
  since_opening a b = between_weaker (ReadsAsBefore session MAX_SESSION) (SinceBeginning session all)
      (λ x y reads. since x y (opening_leaves x y reads)) a b

stands_in : (session : List ℕ) (set : KeptSet) (c : List ℕ) → set.session ≡ session → set.limit ≡ MAX_SESSION
    → StandsFor set c → journal_in session c ≡ Ok set
stands_in session set c session_is limit_is stands =
    subst (λ (s : List ℕ). journal_of s MAX_SESSION c ≡ Ok set) session_is
    (subst (λ (l : ℕ). journal_of set.session l c ≡ Ok set) limit_is stands)

-- the session and the limit stay
all_session : (set : KeptSet) (read : List (List ℕ)) → (after_all set read).session ≡ set.session
unfolding after_all_in
all_session set [] = refl
all_session set (d ∷ read) = all_session (after set d) read ∙ after_session set d

all_limit : (set : KeptSet) (read : List (List ℕ)) → (after_all set read).limit ≡ set.limit
unfolding after_all_in
all_limit set [] = refl
all_limit set (d ∷ read) = all_limit (after set d) read ∙ after_limit set d

-- what a crash leaves since the beginning, where the journal was opened and then datagrams were kept
pub since_keeping : (session : List ℕ) (all : Option (List (List ℕ))) (set : KeptSet) (old mid new : DiskSeen)
    → IfTold old IsSound → Starts session MAX_SESSION old mid set
    → Between (LeavesOnly (StandsAfterFirst set all)) mid new → Between (SinceBeginning session all) old new
since_keeping session all set Untold Untold Untold sound starts keeps = tt
since_keeping session all set Untold Untold (Tells c) sound starts keeps = absurd keeps
since_keeping session all set Untold (Tells b) new sound starts keeps = absurd starts.images
since_keeping session all set (Tells a) Untold new sound starts keeps = absurd starts.images
since_keeping session all set (Tells a) (Tells b) Untold sound starts keeps = absurd keeps
since_keeping session all set (Tells a) (Tells b) (Tells c) sound starts keeps =
    let P = StandsSince session all a in
    since session all a c
    (only_then P a b c (opening_leaves session all a b starts.images)
    (only_weaker (StandsAfterFirst set all) P b c kept keeps))
  where
    kept : (t : List ℕ) → StandsAfterFirst set all t → StandsSince session all a t
    kept t is = (
      a.bytes,
      sound.reads,
      is.0,
      is.1,
      stands_in session (after_all set is.0) t (all_session set is.0 ∙ starts.session_is)
          (all_limit set is.0 ∙ starts.limit_is) is.2
          ∙ sym (ap (with_datagrams is.0) starts.read),
    )
