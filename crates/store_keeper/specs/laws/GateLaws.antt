-- What a keeper's calls leave, by what they have written.
use Rattle.std.proofs.Common.{◌≡◌, inl, inr, ℕ, ◌+◌, ◌*◌, ◌^◌, ◌<◌, ◌≤◌, true, List, [], ◌∷◌, ◌++◌, length, sym}
use Rattle.std.proofs.Common.{subst}
use Rattle.std.proofs.Common.{ap, ◌∙◌, length-append, arith}
use Rattle.std.specs.Prelude.{Ok}
use Rattle.outside_disk.specs.Disk.{Told, DiskSeen, Untold, Tells, IfTold, Between, LeavesOnly}
use Rattle.outside_disk.specs.laws.DiskLaws.{only_same, only_weaker, since_has}
use Rattle.packet_verdicts.specs.KeptSet.{KeptSet, IsKeptSet, empty_set, kept_in_all}
use Rattle.packet_verdicts.specs.Verdicts.{verdict_of, is_kept, after}
use Rattle.store_journal.specs.Text.{entries_text}
use Rattle.store_journal.specs.AtRest.{IsOpen, MayAdd, Adds}
use Rattle.store_journal.specs.AtRest.{StandsFor as AnyStands}
use Rattle.store_journal.specs.laws.KeepingLaws.{accept_leaves, accept_opens, open_stands}
use Rattle.store_keeper.specs.Journal.{keep_frame, StandsFor, StandsWith}
use Rattle.store_keeper.specs.Keeper.{EachSince, EachNow}
use Rattle.store_keeper.specs.laws.KeepLaws.{keep_is, keep_tells, kept_few, kept_more, after_session, after_limit}

-- the journal of a set is open, its gate there
abbrev pub OpenFor : KeptSet → ℕ → Told → Type 0
OpenFor set gate = IsOpen keep_frame (empty_set set.session set.limit) set.session gate set

-- no gate stands above 2 to the power 45
pub near : (set : KeptSet) (gate : ℕ) → IsKeptSet set → gate ≤ 12 + 65538 * kept_in_all set → gate < 2 ^ 45
near set gate sound le = omega (arith, kept_few set sound)

pub near_more : (set : KeptSet) (frame : List ℕ) (gate : ℕ) → IsKeptSet set → is_kept (verdict_of set frame) ≡ true
    → length frame < 65536 → gate ≤ 12 + 65538 * kept_in_all set
    → gate + (3 + length frame) ≤ 12 + 65538 * kept_in_all (after set frame)
near_more set frame gate sound kept short le = omega (arith, kept_more set frame sound kept)

-- the gate is the last byte
last_byte : (set : KeptSet) (gate : ℕ) (d : Told) → OpenFor set gate d → gate + 1 ≡ length d.bytes
last_byte set gate d open_now =
    omega (
      arith,
      open_now.rest.place,
      ap length open_now.rest.text,
      length-append (set.session ++ entries_text open_now.frames) (0 ∷ []),
    )

pub at_place : (set : KeptSet) (gate : ℕ) (a : DiskSeen) → IfTold a (OpenFor set gate)
    → IfTold a (λ d. gate + 1 ≡ length d.bytes)
at_place set gate Untold open_now = tt
at_place set gate (Tells d) open_now = last_byte set gate d open_now

-- each image stands for the set
pub now_stands : (set : KeptSet) (gate : ℕ) (a : DiskSeen) → IfTold a (OpenFor set gate)
    → IfTold a (EachNow (StandsFor set))
now_stands set gate Untold open_now = tt
now_stands set gate (Tells d) open_now =
    open_stands keep_frame (empty_set set.session set.limit) set.session gate set d open_now

-- a datagram that is not kept leaves the disk
pub same_leaves : (set : KeptSet) (datagram : List ℕ) (a : DiskSeen)
    → Between (LeavesOnly (StandsWith set datagram)) a a
same_leaves set datagram Untold = tt
same_leaves set datagram (Tells d) = only_same (StandsWith set datagram) d

pub same_since : (set : KeptSet) (datagram : List ℕ) (gate : ℕ) (a : DiskSeen) → IfTold a (OpenFor set gate)
    → Between (EachSince (StandsWith set datagram)) a a
same_since set datagram gate Untold open_now = tt
same_since set datagram gate (Tells d) open_now = λ c here. inl (now_stands set gate (Tells d) open_now c here)

-- a packet that is kept is added
module _ (set : KeptSet) (frame : List ℕ) (gate : ℕ) (short : length frame < 65536)
    (kept : is_kept (verdict_of set frame) ≡ true) where
  told_by : (c : List ℕ)
      → AnyStands keep_frame (empty_set set.session set.limit) set.session set frame c → StandsWith set frame c
  told_by c (inl before) = inl before
  told_by c (inr later) =
      inr (kept, later.2 ∙ ap (λ (s : KeptSet). Ok s) (sym (keep_tells set later.0 frame later.1).1))

  frame_leaves : (old new : Told) → OpenFor set gate old → MayAdd gate frame old new
      → LeavesOnly (StandsWith set frame) old new
  frame_leaves old new open_now adds =
      only_weaker _ _ old new (λ c stands. told_by c stands)
      (accept_leaves keep_frame set.session set (after set frame) frame short (keep_is set frame kept) gate
      (Tells old) (Tells new) adds (empty_set set.session set.limit) open_now)

  pub added_leaves : (a b : DiskSeen) → IfTold a (OpenFor set gate) → Between (MayAdd gate frame) a b
      → Between (LeavesOnly (StandsWith set frame)) a b
  added_leaves Untold Untold open_now adds = tt
  added_leaves Untold (Tells b) open_now adds = adds
  added_leaves (Tells a) Untold open_now adds = adds
  added_leaves (Tells a) (Tells b) open_now adds = frame_leaves a b open_now adds

  pub added_since : (a b : DiskSeen) → IfTold a (OpenFor set gate) → Between (MayAdd gate frame) a b
      → Between (EachSince (StandsWith set frame)) a b
  added_since Untold Untold open_now adds = tt
  added_since Untold (Tells b) open_now adds = adds
  added_since (Tells a) Untold open_now adds = adds
  added_since (Tells a) (Tells b) open_now adds =
      since_has (StandsWith set frame) a b (frame_leaves a b open_now adds)
      (λ c here. inl (now_stands set gate (Tells a) open_now c here))

  opens_again : (old new : Told) → OpenFor set gate old → Adds gate frame old new
      → OpenFor (after set frame) (gate + (3 + length frame)) new
  opens_again old new open_now adds =
      let opened =
      accept_opens keep_frame set.session set (after set frame) frame short (keep_is set frame kept) gate
      (gate + (3 + length frame)) (Tells old) (Tells new) (omega arith) adds (empty_set set.session set.limit)
      open_now in
      subst (λ (s : List ℕ). IsOpen keep_frame (empty_set s (after set frame).limit) s (gate + (3 + length frame))
      (after set frame) new) (sym (after_session set frame))
      (subst (λ (l : ℕ). IsOpen keep_frame (empty_set set.session l) set.session (gate + (3 + length frame))
      (after set frame) new) (sym (after_limit set frame)) opened)

  pub added_opens : (a b : DiskSeen) → IfTold a (OpenFor set gate) → Between (Adds gate frame) a b
      → IfTold b (OpenFor (after set frame) (gate + (3 + length frame)))
  added_opens Untold Untold open_now adds = tt
  added_opens Untold (Tells b) open_now adds = absurd adds
  added_opens (Tells a) Untold open_now adds = tt
  added_opens (Tells a) (Tells b) open_now adds = opens_again a b open_now adds

-- the journal that was opened
pub reached_near : (first last : KeptSet) (gate bytes : ℕ) → kept_in_all first ≡ 0 → gate ≡ 12 + bytes
    → bytes + 65538 * kept_in_all first ≤ 65538 * kept_in_all last → gate ≤ 12 + 65538 * kept_in_all last
reached_near first last gate bytes none place few = omega arith

opened_told : (session : List ℕ) (limit : ℕ) (last : KeptSet) (gate : ℕ) (d : Told) → last.session ≡ session
    → last.limit ≡ limit → IsOpen keep_frame (empty_set session limit) session gate last d → OpenFor last gate d
opened_told session limit last gate d same_session same_limit opened =
    subst (λ (s : List ℕ). IsOpen keep_frame (empty_set s last.limit) s gate last d) (sym same_session)
    (subst (λ (l : ℕ). IsOpen keep_frame (empty_set session l) session gate last d) (sym same_limit) opened)

pub opened_for : (session : List ℕ) (limit : ℕ) (first last : KeptSet) (gate : ℕ) (a b : DiskSeen)
    → first ≡ empty_set session limit → last.session ≡ session → last.limit ≡ limit
    → Between (λ old new. IsOpen keep_frame first session gate last new) a b → IfTold b (OpenFor last gate)
opened_for session limit first last gate Untold Untold is s l opened = tt
opened_for session limit first last gate Untold (Tells b) is s l opened = absurd opened
opened_for session limit first last gate (Tells a) Untold is s l opened = tt
opened_for session limit first last gate (Tells a) (Tells b) is s l opened =
    opened_told session limit last gate b s l
    (subst (λ (e : KeptSet). IsOpen keep_frame e session gate last b) is opened)
