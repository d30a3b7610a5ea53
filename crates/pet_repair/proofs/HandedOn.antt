-- What was handed on since TO was made ready, seen from before.
use Rattle.std.proofs.Common.{◌≡◌, ℕ, ◌≤◌, List, [], ◌∷◌, ◌++◌, Option, None, Some, sym, ap, subst, ◌∙◌}
use Rattle.std.specs.Prelude.{option_map, IfSome}
use Rattle.pet_base.specs.Causes.{Blames}
use Rattle.pet_base.specs.LinkSeen.{LinkSeen, Blame as LinkBlame}
use Rattle.pet_base.specs.declared.link.LinkSide.TheVariants.{Aimed, Bound}
use Rattle.pet_base.specs.declared.place.Side.TheVariants.{Written}
use Rattle.pet_base.specs.Seen.{Seen, HadFault}
use Rattle.pet_base.specs.laws.SeenLaws.{Grows-named, Blames-named, HadFault-since}
use Rattle.outside_files.specs.Uses.{writing}
use Rattle.outside_files.specs.Wrote.{with_files}
use Rattle.outside_files.specs.laws.PrintedLaws.{Rose-since}
use Rattle.outside_files.specs.laws.WroteLaws.{Wrote-file}
use Rattle.outside_routes.specs.RouteFaults.{AimedFailed}
use Rattle.outside_routes.specs.Sending.{Routes, Sends, SendsPart, IsOpened, OutputFailed, SendingFailed}
use Rattle.outside_routes.specs.Way.{Way, OnFile, OnLink}
use Rattle.pet_repair.specs.SentTo.{SentTo, SentFront, entries_file}
use Rattle.pet_repair.specs.inside.Handed.{Handed, HandedPart}

pub handed : (way : Way) (ds : List (List ℕ)) (old new : Routes) → Sends way ds old new → Handed way ds old new
handed (OnFile name) ds old new sends = (sends.0, ap (λ (l : LinkSeen). l.sent) sends.1)
handed (OnLink address) ds old new sends = sends

pub handed_part : (way : Way) (ds : List (List ℕ)) (old new : Routes) → SendsPart way ds old new
    → HandedPart way ds old new
handed_part (OnFile name) ds old new part = (part.0, ap (λ (l : LinkSeen). l.sent) part.1)
handed_part (OnLink address) ds old new part = part

-- seen from before TO was made ready
pub sent_to : (way : Way) (ds : List (List ℕ)) (old mid new : Routes) → IsOpened way old mid
    → new.link.aimed ≡ mid.link.aimed → Handed way ds mid new → SentTo way ds old new
sent_to (OnFile to) ds old mid new opened aimed sends = (
  Wrote-file (entries_file to ds) mid.place.target old.place mid.place new.place opened.files opened.target sends.0,
  sends.1 ∙ ap (λ (l : LinkSeen). l.sent) opened.link,
)
sent_to (OnLink address) ds old mid new opened aimed sends = (
  aimed ∙ opened.aimed,
  sends.0 ∙ ap (option_map (λ (sent : List (List ℕ)). sent ++ ds)) opened.others.sent,
  sends.1 ∙ ap (λ (s : Seen). s.files) opened.place,
)

pub sent_front : (way : Way) (ds : List (List ℕ)) (old mid new : Routes) → IsOpened way old mid
    → new.link.aimed ≡ mid.link.aimed → HandedPart way ds mid new → SentFront way ds old new
sent_front (OnFile to) ds old mid new opened aimed part =
    let p = part.0 in (
      (
        p.0,
        p.1,
        Grows-named to p.0 mid.place.target old.place.files mid.place.files new.place.files opened.files opened.target
            p.2,
      ),
      part.1 ∙ ap (λ (l : LinkSeen). l.sent) opened.link,
    )
sent_front (OnLink address) ds old mid new opened aimed part =
    let p = part.0 in (
      aimed ∙ opened.aimed,
      (p.0, p.1, p.2 ∙ ap (option_map (λ (sent : List (List ℕ)). sent ++ p.0)) opened.others.sent),
      part.1 ∙ ap (λ (s : Seen). s.files) opened.place,
    )

-- from before an earlier part of the call, that sends nothing
pub sent_since : (way : Way) (ds : List (List ℕ)) (first old new : Routes) → old.place.files ≡ first.place.files
    → old.link.sent ≡ first.link.sent → old.link.aimed ≡ first.link.aimed → SentTo way ds old new
    → SentTo way ds first new
sent_since (OnFile to) ds first old new files sent aimed is = (
  is.0 ∙ ap (option_map (with_files (entries_file to ds ∷ []))) files,
  is.1 ∙ sent,
)
sent_since (OnLink address) ds first old new files sent aimed is = (
  is.0 ∙ ap (option_map (λ _. address)) aimed,
  is.1 ∙ ap (option_map (λ (s : List (List ℕ)). s ++ ds)) sent,
  is.2 ∙ files,
)

pub front_since : (way : Way) (ds : List (List ℕ)) (first old new : Routes) → old.place.files ≡ first.place.files
    → old.link.sent ≡ first.link.sent → old.link.aimed ≡ first.link.aimed → SentFront way ds old new
    → SentFront way ds first new
front_since (OnFile to) ds first old new files sent aimed is =
    let w = is.0 in (
      (
        w.0,
        w.1,
        w.2 ∙ ap (option_map (with_files ([] ++ record { name = to; bytes = w.0 } ∷ []))) files,
      ),
      is.1 ∙ sent,
    )
front_since (OnLink address) ds first old new files sent aimed is =
    let s = is.1 in (
      is.0 ∙ ap (option_map (λ _. address)) aimed,
      (s.0, s.1, s.2 ∙ ap (option_map (λ (t : List (List ℕ)). t ++ s.0)) sent),
      is.2 ∙ files,
    )

none_some : {A : Type 0} (x : A) → None ≡ Some x → ⊥
none_some x e = cc

some_same : {A : Type 0} (x y : A) → Some x ≡ Some y → x ≡ y
some_same x y e = cc

-- a blame on the address that the link was aimed at
blames_aimed : (address : List ℕ) (told aimed : Option (List ℕ)) (b : LinkBlame)
    → aimed ≡ option_map (λ _. address) told → Blames Aimed aimed b → b ≡ (Aimed, address)
blames_aimed address None aimed b is blames =
    absurd (none_some b (subst (λ (o : Option (List ℕ)). Blames Aimed o b) is blames))
blames_aimed address (Some a) aimed b is blames =
    sym (some_same (Aimed, address) b (subst (λ (o : Option (List ℕ)). Blames Aimed o b) is blames))

pub if_blamed : (o : Option LinkBlame) (P Q : LinkBlame → Type 0) → ((b : LinkBlame) → P b → Q b) → IfSome o P
    → IfSome o Q
if_blamed None P Q h p = p
if_blamed (Some b) P Q h p = h b p

-- or that it was bound to
pub blames_bound : (address : List ℕ) (told bound : Option (List ℕ)) (b : LinkBlame)
    → bound ≡ option_map (λ _. address) told → Blames Bound bound b → b ≡ (Bound, address)
blames_bound address None bound b is blames =
    absurd (none_some b (subst (λ (o : Option (List ℕ)). Blames Bound o b) is blames))
blames_bound address (Some a) bound b is blames =
    sym (some_same (Bound, address) b (subst (λ (o : Option (List ℕ)). Blames Bound o b) is blames))

-- the link failed where it was aimed
pub aimed_failed : (way : Way) (old mid new : Routes) → IsOpened way old mid → old.link.faults ≤ mid.link.faults
    → SendingFailed way mid.link new.link → AimedFailed way old.link new.link
aimed_failed (OnFile to) old mid new opened later had = had
aimed_failed (OnLink address) old mid new opened later had = record {
  rose = Rose-since old.link.faults mid.link.faults new.link.faults later had.rose;
  blame =
      if_blamed new.link.blamed _ _
      (λ b. blames_aimed address old.link.aimed mid.link.aimed b opened.aimed) had.blame;
}

-- the place failed at TO, where that is a file
abbrev pub FailedAt : Way → Seen → Seen → Type 0
FailedAt (OnFile to) old new = HadFault old new (λ b. b ≡ writing to)
FailedAt (OnLink address) old new = ⊥

pub failed_at : (way : Way) (old mid new : Routes) → IsOpened way old mid → old.place.faults ≤ mid.place.faults
    → OutputFailed way mid.place new.place → FailedAt way old.place new.place
failed_at (OnFile to) old mid new opened later had =
    HadFault-since old.place mid.place new.place _ _ later
    (λ b. Blames-named old.place.files mid.place.target to Written b opened.target) had
failed_at (OnLink address) old mid new opened later had = had
