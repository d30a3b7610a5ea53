-- What was repaired since the store was read and TO made ready, seen from before.
use Rattle.std.proofs.Common.{◌≡◌, ℕ, ◌≤◌, List, length, map, sym, ap, subst, ◌∙◌, arith, inl, inr}
use Rattle.std.specs.Prelude.{Result, Ok, Err, IfErr, IsErrAnd}
use Rattle.pet_base.specs.LinkSeen.{LinkSeen}
use Rattle.pet_base.specs.Seen.{Seen, Blame, HadFault}
use Rattle.pet_base.specs.laws.SeenLaws.{HadFault-since}
use Rattle.outside_files.specs.Uses.{reading}
use Rattle.outside_routes.specs.RouteFaults.{AimedFailed, IsFailure}
use Rattle.outside_routes.specs.Sending.{Routes, Sends, SendsPart, IsOpened, IsUnopened, OnlyOpens, OnlyGrows}
use Rattle.outside_routes.specs.Sending.{CreatingFailed}
use Rattle.outside_routes.specs.Way.{Way, OnFile, OnLink}
use Rattle.outside_routes.specs.declared.fault.RouteFailed.{RouteFailed}
use Rattle.outside_routes.specs.declared.fault.RouteFailed.TheVariants as failed
use Rattle.packet_met.specs.Gf16.{HasKeptIn}
use Rattle.packet_verdicts.specs.KeptSet.{IsKeptSet}
use Rattle.pet_receive.specs.Arrivals.{ReceiverState, kept_set}
use Rattle.pet_receive.specs.ShownBytes.{groups_told}
use Rattle.store_text.specs.Files.{HasStore}
use Rattle.store_merge.specs.Files.{IsStop}
use Rattle.store_merge.specs.Reading.{pairs_in}
use Rattle.store_merge.specs.declared.read_files.StoreStop.{StoreStop}
use Rattle.store_merge.specs.declared.read_files.StoreStop.TheVariants as unread
use Rattle.pet_repair.specs.Repaired.{count_whole, on_end}
use Rattle.pet_repair.specs.Repairs.{HasState, RepairsStore, Repairs, LeavesGroupsFront, MayBlame}
use Rattle.pet_repair.specs.SentTo.{SentTo, SentFront, SentNothing}
use Rattle.pet_repair.specs.declared.repair.RepairEnd.{RepairEnd}
use Rattle.pet_repair.specs.declared.repair.RepairEnd.TheVariants as end
use Rattle.pet_repair.specs.declared.repairing.Repaired.{Repaired}
use Rattle.pet_repair.specs.inside.Groups.{SendsGroups, PartOfGroups, StopsInGroups, end_of_failed, end_of_store}
use Rattle.pet_repair.proofs.HandedOn.{handed, handed_part, sent_to, sent_front, sent_since, front_since, aimed_failed}
use Rattle.pet_repair.proofs.HandedOn.{FailedAt, failed_at}

-- what the command ends with is what a step's error stands for
pub repair_end_is : {T : Type 0} (P : RepairEnd → Type 0) (result : Result T RepairEnd) (e : RepairEnd)
    → IsErrAnd result (λ x. x ≡ e) → P e → IfErr result P
repair_end_is P (Ok x) e is p = tt
repair_end_is P (Err x) e is p = subst P (sym is) p

-- the receiver that has read the store
abbrev pub state_read : (store : List ℕ) (old : Seen) (r : ReceiverState ℕ)
    → HasKeptIn r (pairs_in (kept_set r)) → IsKeptSet (kept_set r)
    → HasStore old.files store (kept_set r) → HasState store old
state_read store old r stands sound file = record {
  state = r;
  stands = stands;
  sound = sound;
  file = file;
}

-- the store may be blamed, and TO once it was read
blames_store : (way : Way) (store : List ℕ) (old : Seen) (b : Blame) → b ≡ reading store → MayBlame store way old b
blames_store (OnFile to) store old b is = inl is
blames_store (OnLink address) store old b is = is

blames_to : (way : Way) (store : List ℕ) (old : Seen) (now new : Seen) → HasState store old → old.faults ≤ now.faults
    → FailedAt way now new → HadFault old new (MayBlame store way old)
blames_to (OnFile to) store old now new h later had = HadFault-since old now new _ _ later (λ b is. inr (is, h)) had
blames_to (OnLink address) store old now new h later had = absurd had

-- the store was not read
pub not_read : (s : StoreStop) (store : List ℕ) (way : Way) (old new : Routes) → IsStop old.place new.place store s
    → new.place.files ≡ old.place.files → new.link ≡ old.link → Repairs store way old new (end_of_store s)
not_read unread.NoMemory store way old new is files link = inl (files, ap (λ (l : LinkSeen). l.sent) link)
not_read unread.Failed store way old new is files link = (
  HadFault-since old.place old.place new.place _ _ (omega arith) (blames_store way store old.place) is,
  inl (files, ap (λ (l : LinkSeen). l.sent) link),
)
not_read (unread.At at kind) store way old new is files link = (is, (files, ap (λ (l : LinkSeen). l.sent) link))

module _ (store : List ℕ) (way : Way) (old mid : Routes) (h : HasState store old.place)
    (files : mid.place.files ≡ old.place.files) (link : mid.link ≡ old.link)
    (later : old.place.faults ≤ mid.place.faults) where
  aimed_since : (new : Routes) → AimedFailed way mid.link new.link → AimedFailed way old.link new.link
  aimed_since new had = subst (λ (l : LinkSeen). AimedFailed way l new.link) link had

  -- TO could not be made ready
  pub not_opened : (f : RouteFailed) (new : Routes) → IsUnopened way mid new → OnlyOpens mid new
      → IsFailure (CreatingFailed way mid.place new.place) (AimedFailed way mid.link new.link) f
      → Repairs store way old new (end_of_failed f)
  not_opened f new unopened opens cause = by f cause
    where
      same : (w : Way) → IsUnopened w mid new → new.place.files ≡ mid.place.files
      same (OnFile name) un = un.0
      same (OnLink address) un = ap (λ (s : Seen). s.files) un.0

      nothing : SentNothing old new
      nothing = (same way unopened ∙ files, opens.link.sent ∙ ap (λ (l : LinkSeen). l.sent) link)

      created : (w : Way) → CreatingFailed w mid.place new.place → FailedAt w mid.place new.place
      created (OnFile name) had = had
      created (OnLink address) had = had

      by : (f : RouteFailed)
          → IsFailure (CreatingFailed way mid.place new.place) (AimedFailed way mid.link new.link) f
          → Repairs store way old new (end_of_failed f)
      by failed.Place had =
          (blames_to way store old.place mid.place new.place h later (created way had), inl nothing)
      by failed.Link had = (aimed_since new had, h, inl nothing)

  module _ (opened new : Routes) (o : IsOpened way mid opened) (opens : OnlyOpens mid opened)
      (grows : OnlyGrows opened new) where
    sent_all : (ds : List (List ℕ)) → Sends way ds opened new → SentTo way ds old new
    sent_all ds sends =
        let whole : SentTo way ds mid new = sent_to way ds mid opened new o grows.link.aimed (handed way ds opened new sends) in
        sent_since way ds old mid new files (ap (λ (l : LinkSeen). l.sent) link)
        (ap (λ (l : LinkSeen). l.aimed) link) whole

    sent_part : (ds : List (List ℕ)) → SendsPart way ds opened new → SentFront way ds old new
    sent_part ds part =
        front_since way ds old mid new files (ap (λ (l : LinkSeen). l.sent) link)
        (ap (λ (l : LinkSeen). l.aimed) link)
        (sent_front way ds mid opened new o grows.link.aimed (handed_part way ds opened new part))

    -- all groups were sent
    pub repaired_all : (n : Repaired) → SendsGroups way h.state (groups_told (kept_set h.state)) n opened new
        → (r : RepairsStore store way old new)
        × (n.groups ≡ count_whole (kept_set r.held.state) (groups_told (kept_set r.held.state)))
        × (n.datagrams ≡ length (on_end r.groups))
    repaired_all n sends = (
      record { held = h; groups = sends.groups; are = sends.are; sent = sent_all (on_end sends.groups) sends.sends },
      sends.whole,
      sends.many,
    )

    front : PartOfGroups way h.state opened new → LeavesGroupsFront store way old new
    front part = inr (h, part.0, part.1, part.2, sent_part (on_end part.1) part.3)

    -- or it stopped
    pub repair_stopped : (e : RepairEnd) → StopsInGroups way h.state opened new e → Repairs store way old new e
    repair_stopped (end.Done groups datagrams) stops = absurd stops
    repair_stopped end.NoMemory part = front part
    repair_stopped end.PlaceFault stops = (
      blames_to way store old.place mid.place new.place h later
          (failed_at way mid opened new o opens.place_later stops.0),
      front stops.1,
    )
    repair_stopped end.LinkFault stops =
        (aimed_since new (aimed_failed way mid opened new o opens.link_later stops.0), h, front stops.1)
    repair_stopped (end.BadStore at kind) stops = absurd stops
    repair_stopped (end.Unlike group number) stops = record {
      held = h;
      unlike = stops.0;
      groups = stops.1.0;
      are = stops.1.1;
      sent = sent_all (on_end stops.1.0) stops.1.2;
    }
