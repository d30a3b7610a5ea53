-- What the second pass leaves as it was.
use Rattle.std.proofs.Common.{◌≡◌, ℕ, ◌≤◌, List, Option, inr, refl, sym, ap, subst, ◌∙◌, arith}
use Rattle.std.specs.Prelude.{◌⊎◌, IfSome, Result, Ok, Err, IfErr, IsErrAnd}
use Rattle.pet_base.specs.Seen.{OnlyReads}
use Rattle.pet_base.specs.Causes.{Blames}
use Rattle.pet_base.specs.declared.place.Side.TheVariants.{Read, Written}
use Rattle.pet_base.specs.declared.link.LinkSide.TheVariants.{Aimed}
use Rattle.pet_base.specs.laws.SeenLaws.{HadFault-since, KeepsNames-same, KeepsNames-then, OnlyReads-KeepsNames}
use Rattle.pet_base.specs.laws.SeenLaws.{OnlyWrites-KeepsNames}
use Rattle.pet_base.specs.LinkSeen.{LinkSeen, OnlySends}
use Rattle.outside_files.specs.laws.PrintedLaws.{Rose-since}
use Rattle.outside_routes.specs.declared.fault.RouteStop.{RouteStop}
use Rattle.outside_routes.specs.declared.fault.RouteStop.TheVariants as stop
use Rattle.outside_routes.specs.RouteFaults.{IsStop}
use Rattle.outside_routes.specs.Sending.{Routes, IsOpen, OnlyGrows, OutputFailed, SendingFailed}
use Rattle.outside_routes.specs.Way.{Way, OnFile, OnLink}
use Rattle.outside_routes.specs.laws.SendingLaws.{output_failed, sending_failed}
use Rattle.pet_base.specs.Lent.{AreSame}
use Rattle.pet_base.specs.declared.place.Place.{Ghosts as PlaceOf}
use Rattle.pet_base.specs.declared.link.Link.{Ghosts as LinkOf}
use Rattle.pet_base.specs.declared.sink.Sink.{Ghosts as SinkOf}
use Rattle.pet_base.specs.declared.outside.Outside.{Outside}
use Rattle.command_send.specs.inside.Second.{OnlyPasses}
use Rattle.command_send.specs.inside.Sending.{PassFailed}

sends_same : (old new : LinkSeen) → new ≡ old → OnlySends old new
sends_same old new same =
    record {
      feed = ap (λ l. l.feed) same;
      port = ap (λ l. l.port) same;
      bound = ap (λ l. l.bound) same;
      aimed = ap (λ l. l.aimed) same;
    }

sends_then : (first before after : LinkSeen) → OnlySends first before → OnlySends before after → OnlySends first after
sends_then first before after p q =
    record { feed = q.feed ∙ p.feed; port = q.port ∙ p.port; bound = q.bound ∙ p.bound; aimed = q.aimed ∙ p.aimed }

pub passes_same : (r : Routes) → OnlyPasses r r
passes_same r =
    record {
      names = KeepsNames-same r.place;
      link = sends_same r.link r.link refl;
      place_later = omega arith;
      link_later = omega arith;
    }

pub passes_then : (first before after : Routes) → OnlyPasses first before → OnlyPasses before after
    → OnlyPasses first after
passes_then first before after p q = record {
  names = KeepsNames-then first.place before.place after.place p.names q.names;
  link = sends_then first.link before.link after.link p.link q.link;
  place_later = omega (arith, p.place_later, q.place_later);
  link_later = omega (arith, p.link_later, q.link_later);
}

pub passes_reads : (old new : Routes) → OnlyReads old.place new.place → new.link ≡ old.link
    → old.place.faults ≤ new.place.faults → OnlyPasses old new
passes_reads old new reads same later = record {
  names = OnlyReads-KeepsNames old.place new.place reads;
  link = sends_same old.link new.link same;
  place_later = later;
  link_later = let e = ap (λ l. l.faults) same in omega (arith, e);
}

pub passes_grows : (old new : Routes) → OnlyGrows old new → OnlyPasses old new
passes_grows old new grows = record {
  names = OnlyWrites-KeepsNames old.place new.place grows.place;
  link = grows.link;
  place_later = grows.place_later;
  link_later = grows.link_later;
}

-- a way that is open stays so
pub passes_open : (way : Way) (old new : Routes) → OnlyPasses old new → IsOpen way old → IsOpen way new
passes_open (OnFile name) old new passes is = passes.names.has_output ∙ is
passes_open (OnLink address) old new passes is = tt

-- a stop stays one, by causes that follow from its own
stop_by : {P Q L M : Type 0} (why : RouteStop) → (P → Q) → (L → M) → IsStop P L ⊥ why → IsStop Q M ⊥ why
stop_by stop.NoMemory place link failed = tt
stop_by stop.Place place link failed = place failed
stop_by stop.Link place link failed = link failed
stop_by stop.Out place link failed = failed

-- through `?`, which hands the same fault on
pub handed_on : {A E : Type 0} (Q : E → Type 0) (result : Result A E) (why : E)
    → IsErrAnd result (λ answer. answer ≡ why) → Q why → IfErr result Q
handed_on Q (Ok x) why is q = tt
handed_on Q (Err answer) why is q = subst Q (sym is) q

-- a stop of a later part of the pass is one of the whole
pub stop_on : {A : Type 0} (way : Way) (first before after : Routes) (result : Result A RouteStop) (why : RouteStop)
    → IsErrAnd result (λ answer. answer ≡ why) → OnlyGrows first before
    → IsStop (OutputFailed way before.place after.place) (SendingFailed way before.link after.link) ⊥ why
    → IfErr result (IsStop (OutputFailed way first.place after.place) (SendingFailed way first.link after.link) ⊥)
stop_on way first before after result why is grows failed =
    handed_on (IsStop (OutputFailed way first.place after.place) (SendingFailed way first.link after.link) ⊥) result
    why is
    (stop_by why (output_failed way first before after grows) (sending_failed way first before after grows) failed)

-- and also of a pass that has read
place_failed : (way : Way) (first before after : Routes) → OnlyPasses first before
    → OutputFailed way before.place after.place → PassFailed way first.place after.place
place_failed (OnFile name) first before after passes failed =
    HadFault-since first.place before.place after.place (Blames Written before.place.target)
    (λ b. Blames Read first.place.source b ⊎ Blames Written first.place.target b) passes.place_later
    (λ b h. inr (subst (λ (o : Option (List ℕ)). Blames Written o b) passes.names.target h)) failed
place_failed (OnLink address) first before after passes failed = absurd failed

link_failed : (way : Way) (first before after : Routes) → OnlyPasses first before
    → SendingFailed way before.link after.link → SendingFailed way first.link after.link
link_failed (OnFile name) first before after passes failed = failed
link_failed (OnLink address) first before after passes failed = record {
  rose = Rose-since first.link.faults before.link.faults after.link.faults passes.link_later failed.rose;
  blame = subst (λ (o : Option (List ℕ)). IfSome after.link.blamed (Blames Aimed o)) passes.link.aimed failed.blame;
}

pub stop_after : {A : Type 0} (way : Way) (first before after : Routes) (result : Result A RouteStop) (why : RouteStop)
    → IsErrAnd result (λ answer. answer ≡ why) → OnlyPasses first before
    → IsStop (OutputFailed way before.place after.place) (SendingFailed way before.link after.link) ⊥ why
    → IfErr result (IsStop (PassFailed way first.place after.place) (SendingFailed way first.link after.link) ⊥)
stop_after way first before after result why is passes failed =
    handed_on (IsStop (PassFailed way first.place after.place) (SendingFailed way first.link after.link) ⊥) result why
    is
    (stop_by why (place_failed way first before after passes) (link_failed way first before after passes) failed)

-- no reference of a lent value is exchanged for another, over two steps and over none
module _ {P K S L : Type 0} {p : PlaceOf P} {k : LinkOf K} {s : SinkOf S} where
  pub same_still : (o : Outside P K S L p k s) → AreSame o o
  same_still o = record { place = refl; link = refl; out = refl; steps = refl }

  pub same_then : {first before after : Outside P K S L p k s} → AreSame first before → AreSame before after
      → AreSame first after
  same_then a b = record {
    place = b.place ∙ a.place;
    link = b.link ∙ a.link;
    out = b.out ∙ a.out;
    steps = b.steps ∙ a.steps;
  }
