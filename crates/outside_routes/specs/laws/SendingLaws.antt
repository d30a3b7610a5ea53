-- Laws of what is sent datagram after datagram, for the proofs of callers.
use Rattle.std.proofs.Common.{◌≡◌, ℕ, List, [], ◌++◌, drop, Option, None, Some, append_assoc, refl, sym, ap, subst, ◌∙◌}
use Rattle.std.proofs.Common.{arith}
use Rattle.std.proofs.lemmas.List.{append-nil}
use Rattle.std.proofs.lemmas.Grind.{flat_map-append}
use Rattle.std.specs.Prelude.{option_map, IfSome}
use Rattle.pet_base.specs.Causes.{Blames}
use Rattle.pet_base.specs.Seen.{Files, Grows}
use Rattle.pet_base.specs.declared.place.Side.TheVariants.{Written}
use Rattle.pet_base.specs.declared.link.LinkSide.TheVariants.{Aimed}
use Rattle.pet_base.specs.laws.SeenLaws.{OnlyWrites-then}
use Rattle.outside_files.specs.laws.PrintedLaws.{Rose-since}
use Rattle.outside_files.specs.Outputs.{IsPrefix, Puts, PutsPart}
use Rattle.outside_files.specs.laws.OutputLaws.{puts_then, puts_nothing}
use Rattle.outside_files.specs.laws.PartLaws.{part_after as put_after, part_within as put_within}
use Rattle.outside_files.specs.laws.PartLaws.{part_whole as put_whole}
use Rattle.outside_routes.specs.Way.{Way, OnFile, OnLink}
use Rattle.outside_routes.specs.Sending.{Routes, AreFirstDatagrams, Sends, SendsPart, IsOpen, OnlyGrows, OutputFailed}
use Rattle.outside_routes.specs.Sending.{SendingFailed}
use Rattle.pet_base.specs.Entries.{entry_text, entries_of}

entries_append : (a b : List (List ℕ)) → entries_of (a ++ b) ≡ entries_of a ++ entries_of b
entries_append a b = flat_map-append entry_text a b

sent_nothing : (o : Option (List (List ℕ))) → o ≡ option_map (λ sent. sent ++ []) o
sent_nothing None = refl
sent_nothing (Some sent) = ap (λ (t : List (List ℕ)). Some t) (sym (append-nil sent))

sent_then : (a b : List (List ℕ)) (first before after : Option (List (List ℕ)))
    → before ≡ option_map (λ sent. sent ++ a) first → after ≡ option_map (λ sent. sent ++ b) before
    → after ≡ option_map (λ sent. sent ++ (a ++ b)) first
sent_then a b None before after p q = q ∙ ap (option_map (λ (sent : List (List ℕ)). sent ++ b)) p
sent_then a b (Some sent) before after p q =
    q ∙ ap (option_map (λ (sent : List (List ℕ)). sent ++ b)) p
    ∙ ap (λ (t : List (List ℕ)). Some t) (append_assoc sent a b)

-- nothing was sent yet
pub sends_nothing : (way : Way) (old new : Routes) → new.place.files ≡ old.place.files → new.link ≡ old.link
    → Sends way [] old new
sends_nothing (OnFile name) old new files link = (puts_nothing old.place new.place files, link)
sends_nothing (OnLink address) old new files link = (ap (λ l. l.sent) link ∙ sent_nothing old.link.sent, files)

-- reading changes nothing that was sent
pub sends_read : (way : Way) (datagrams : List (List ℕ)) (first before after : Routes)
    → after.place.files ≡ before.place.files → after.link ≡ before.link → Sends way datagrams first before
    → Sends way datagrams first after
sends_read (OnFile name) datagrams first before after files link sends = (
  subst (λ (f : Option Files). Grows first.place.target (entries_of datagrams) first.place.files f) (sym files) sends.0,
  link ∙ sends.1,
)
sends_read (OnLink address) datagrams first before after files link sends =
    (ap (λ l. l.sent) link ∙ sends.0, files ∙ sends.1)

-- some datagrams after others
pub sends_then : (way : Way) (a b : List (List ℕ)) (first before after : Routes)
    → before.place.target ≡ first.place.target → Sends way a first before → Sends way b before after
    → Sends way (a ++ b) first after
sends_then (OnFile name) a b first before after same p q = (
  subst (λ (t : List ℕ). Puts t first.place after.place) (sym (entries_append a b))
      (puts_then (entries_of a) (entries_of b) first.place before.place after.place same p.0 q.0),
  q.1 ∙ p.1,
)
sends_then (OnLink address) a b first before after same p q =
    (sent_then a b first.link.sent before.link.sent after.link.sent p.0 q.0, q.1 ∙ p.1)

-- nothing, as a front of all
pub part_nothing : (way : Way) (datagrams : List (List ℕ)) (old new : Routes) → new.place.files ≡ old.place.files
    → new.link ≡ old.link → SendsPart way datagrams old new
part_nothing (OnFile name) datagrams old new files link =
    (([], (entries_of datagrams, refl), puts_nothing old.place new.place files), link)
part_nothing (OnLink address) datagrams old new files link =
    (([], (datagrams, refl), ap (λ l. l.sent) link ∙ sent_nothing old.link.sent), files)

-- all, as a front of all
pub part_whole : (way : Way) (datagrams : List (List ℕ)) (old new : Routes) → Sends way datagrams old new
    → SendsPart way datagrams old new
part_whole (OnFile name) datagrams old new sends =
    (put_whole (entries_of datagrams) old.place new.place sends.0, sends.1)
part_whole (OnLink address) datagrams old new sends = ((datagrams, ([], sym (append-nil datagrams)), sends.0), sends.1)

-- the entries of the first datagrams stand at the front of those of all
pub entries_front : (a whole : List (List ℕ)) → AreFirstDatagrams a whole → IsPrefix (entries_of a) (entries_of whole)
entries_front a whole first = (entries_of first.0, ap entries_of first.1 ∙ entries_append a first.0)

-- a front of the first of them
pub part_within : (way : Way) (a whole : List (List ℕ)) (old new : Routes) → AreFirstDatagrams a whole
    → SendsPart way a old new → SendsPart way whole old new
part_within (OnFile name) a whole old new within part =
    (put_within (entries_of a) (entries_of whole) old.place new.place (entries_front a whole within) part.0, part.1)
part_within (OnLink address) a whole old new within part =
    let sent = part.0 in (
      (
        sent.0,
        (
          sent.1.0 ++ within.0,
          within.1 ∙ ap (λ (t : List (List ℕ)). t ++ within.0) sent.1.1 ∙ append_assoc sent.0 sent.1.0 within.0,
        ),
        sent.2,
      ),
      part.1,
    )

-- some datagrams, and then a front of others
pub part_after : (way : Way) (a b : List (List ℕ)) (first before after : Routes)
    → before.place.target ≡ first.place.target → Sends way a first before → SendsPart way b before after
    → SendsPart way (a ++ b) first after
part_after (OnFile name) a b first before after same p part = (
  subst (λ (t : List ℕ). PutsPart t first.place after.place) (sym (entries_append a b))
      (put_after (entries_of a) (entries_of b) first.place before.place after.place same p.0 part.0),
  part.1 ∙ p.1,
)
part_after (OnLink address) a b first before after same p part =
    let sent = part.0 in (
      (
        a ++ sent.0,
        (sent.1.0, ap (λ (t : List (List ℕ)). a ++ t) sent.1.1 ∙ sym (append_assoc a sent.0 sent.1.0)),
        sent_then a sent.0 first.link.sent before.link.sent after.link.sent p.0 sent.2,
      ),
      part.1 ∙ p.1,
    )

-- what one part of a call leaves, and then another
pub grows_same : (r : Routes) → OnlyGrows r r
grows_same r = record {
  place = record { rest = refl; source = refl; target = refl; has_input = refl; has_output = refl };
  link = record { feed = refl; port = refl; bound = refl; aimed = refl };
  place_later = omega arith;
  link_later = omega arith;
}

pub grows_then : (first before after : Routes) → OnlyGrows first before → OnlyGrows before after → OnlyGrows first after
grows_then first before after p q = record {
  place = OnlyWrites-then first.place before.place after.place p.place q.place;
  link = record {
    feed = q.link.feed ∙ p.link.feed;
    port = q.link.port ∙ p.link.port;
    bound = q.link.bound ∙ p.link.bound;
    aimed = q.link.aimed ∙ p.link.aimed;
  };
  place_later = omega (arith, p.place_later, q.place_later);
  link_later = omega (arith, p.link_later, q.link_later);
}

-- what a loop that sends has left at each turn: only that, and no call has failed
pub record GrowsCalmly (first now : Routes) : Type 0 where
  pub others : OnlyGrows first now
  pub place : now.place.faults ≡ first.place.faults
  pub link : now.link.faults ≡ first.link.faults

pub calm_same : (r : Routes) → GrowsCalmly r r
calm_same r = record { others = grows_same r; place = refl; link = refl }

pub calm_then : (first before after : Routes) → GrowsCalmly first before → OnlyGrows before after
    → after.place.faults ≡ before.place.faults → after.link.faults ≡ before.link.faults → GrowsCalmly first after
calm_then first before after calm others place link = record {
  others = grows_then first before after calm.others others;
  place = place ∙ calm.place;
  link = link ∙ calm.link;
}

-- a way that is open stays so
pub grows_open : (way : Way) (old new : Routes) → OnlyGrows old new → IsOpen way old → IsOpen way new
grows_open (OnFile name) old new grows is = grows.place.has_output ∙ is
grows_open (OnLink address) old new grows is = tt

-- the datagram of an entry
pub datagram_of : (bytes datagram : List ℕ) → bytes ≡ entry_text datagram → drop 2 bytes ≡ datagram
datagram_of bytes datagram is = ap (drop 2) is

pub entry_again : (bytes datagram : List ℕ) → bytes ≡ entry_text datagram → bytes ≡ entry_text (drop 2 bytes)
entry_again bytes datagram is = is ∙ ap entry_text (sym (datagram_of bytes datagram is))

-- a failure of a later part of a call is one of the whole call
pub sending_failed : (way : Way) (first before after : Routes) → OnlyGrows first before
    → SendingFailed way before.link after.link → SendingFailed way first.link after.link
sending_failed (OnFile name) first before after grows failed = failed
sending_failed (OnLink address) first before after grows failed = record {
  rose = Rose-since first.link.faults before.link.faults after.link.faults grows.link_later failed.rose;
  blame = subst (λ (o : Option (List ℕ)). IfSome after.link.blamed (Blames Aimed o)) grows.link.aimed failed.blame;
}

pub output_failed : (way : Way) (first before after : Routes) → OnlyGrows first before
    → OutputFailed way before.place after.place → OutputFailed way first.place after.place
output_failed (OnFile name) first before after grows failed = record {
  rose = Rose-since first.place.faults before.place.faults after.place.faults grows.place_later failed.rose;
  blame = subst (λ (o : Option (List ℕ)). IfSome after.place.blamed (Blames Written o)) grows.place.target failed.blame;
}
output_failed (OnLink address) first before after grows failed = failed
