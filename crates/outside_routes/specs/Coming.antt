-- The datagrams that are to come on a way, and what receiving one does to them. This project's own.
use Rattle.std.specs.Prelude.{ℕ, ◌≡◌, ◌≤◌, List, [], ◌∷◌, ◌++◌, take, true, Option, option_map, IfSome}
use Rattle.pet_base.specs.declared.entry.Entry.{Entry}
use Rattle.pet_base.specs.declared.entry.Entry.TheVariants.{Datagram, End}
use Rattle.pet_base.specs.Entries.{datagrams, HasRead, HasLost, IsPartOfEntry}
use Rattle.pet_base.specs.Seen.{Seen, OnlyReads}
use Rattle.pet_base.specs.LinkSeen.{LinkSeen, OnlyReceives}
use Rattle.outside_routes.specs.Way.{Way, OnFile, OnLink}

-- those of the input's rest, or of the link, where they are told
abbrev pub coming : Way → Seen → LinkSeen → Option (List (List ℕ))
coming (OnFile name) place link = option_map datagrams place.rest
coming (OnLink address) place link = link.feed

-- these datagrams have come, and are no longer among them
abbrev pub HaveCome : List (List ℕ) → Option (List (List ℕ)) → Option (List (List ℕ)) → Type 0
HaveCome ds old new = old ≡ option_map (λ more. ds ++ more) new

-- What receiving did to them: a datagram has left them, or there are none and they stay so.
abbrev pub TakesDatagram : Option (List (List ℕ)) → Entry → List ℕ → Option (List (List ℕ)) → Type 0
TakesDatagram old (Datagram n) into new = HaveCome (take n into ∷ []) old new
TakesDatagram old End into new = (new ≡ old) × IfSome old (λ more. more ≡ [])

-- the place has an input, where datagrams are read of a file
abbrev pub HasInput : Way → Seen → Type 0
HasInput (OnFile name) place = place.has_input ≡ true
HasInput (OnLink address) place = Unit {0}

-- no datagram has left the link, where they come from it
abbrev pub KeepsFeed : Way → LinkSeen → LinkSeen → Type 0
KeepsFeed (OnFile name) old new = Unit {0}
KeepsFeed (OnLink address) old new = new.feed ≡ old.feed

-- no more than a part of an entry has left the input, where datagrams are read of a file
abbrev pub LosesPart : Way → Seen → Seen → Type 0
LosesPart (OnFile name) old new = HasLost IsPartOfEntry old.rest new.rest
LosesPart (OnLink address) old new = Unit {0}

-- these datagrams have left the rest of a file, and no more than a part of the entry behind them
abbrev pub HasReadUntil : List (List ℕ) → Option (List ℕ) → Option (List ℕ) → Type 0
HasReadUntil ds old new =
    (between : Option (List ℕ)) × HasRead ds old between × HasLost IsPartOfEntry between new

-- these datagrams came on a way and no others, by what is left to come
abbrev pub HaveComeUntil : Way → List (List ℕ) → Seen → LinkSeen → Seen → LinkSeen → Type 0
HaveComeUntil (OnFile name) ds place_old link_old place_new link_new = HasReadUntil ds place_old.rest place_new.rest
HaveComeUntil (OnLink address) ds place_old link_old place_new link_new = HaveCome ds link_old.feed link_new.feed

-- the object that the way does not use is as before
abbrev pub KeepsOther : Way → Seen → LinkSeen → Seen → LinkSeen → Type 0
KeepsOther (OnFile name) place_old link_old place_new link_new = link_new ≡ link_old
KeepsOther (OnLink address) place_old link_old place_new link_new = place_new ≡ place_old

-- only what is to come changes, and the counts of faults do not fall
pub record OnlyTakes (way : Way) (place_old : Seen) (link_old : LinkSeen) (place_new : Seen)
    (link_new : LinkSeen) : Type 0 where
  pub place : OnlyReads place_old place_new
  pub link : OnlyReceives link_old link_new
  pub other : KeepsOther way place_old link_old place_new link_new
  pub place_later : place_old.faults ≤ place_new.faults
  pub link_later : link_old.faults ≤ link_new.faults
