-- What was sent on a way: entries at the end of a datagram file, or datagrams of a link. This project's own.
use Rattle.std.specs.Prelude.{ℕ, ◌≡◌, ◌≤◌, Bool, true, List, [], ◌++◌, option_map, Result, IfErr}
use Rattle.pet_base.specs.Causes.{Blames, stops}
use Rattle.pet_base.specs.Seen.{Seen, Names, HasNoOutput, KeepsInput, OnlyWrites, PlaceStops, with_file, HadFault}
use Rattle.pet_base.specs.LinkSeen.{LinkSeen, LinkStops, OnlyAims, OnlySends, HadFault as LinkHadFault}
use Rattle.pet_base.specs.declared.place.Place.{Ghosts as PlaceOf}
use Rattle.pet_base.specs.declared.link.Link.{Ghosts as LinkOf}
use Rattle.pet_base.specs.declared.place.Side.TheVariants.{Written}
use Rattle.pet_base.specs.declared.link.LinkSide.TheVariants.{Aimed}
use Rattle.pet_base.specs.Entries.{entries_of}
use Rattle.outside_files.specs.Outputs.{Puts, PutsPart}
use Rattle.outside_routes.specs.RouteFaults.{IsStop, stop_of_a_place, stop_of_a_link}
use Rattle.outside_routes.specs.Way.{Way, OnFile, OnLink}
use Rattle.outside_routes.specs.declared.fault.RouteStop.{RouteStop}
use Rattle.outside_routes.specs.declared.fault.RouteStop.TheVariants.{NoMemory}

-- what the files and the link that a way may lead to are seen as
pub record Routes : Type 0 where
  pub place : Seen
  pub link : LinkSeen

-- the first two arguments are `P.Place K.Link` in a clause
abbrev pub routes : {P K : Type 0} → PlaceOf P → LinkOf K → P → K → Routes
routes p k place link = record { place = p.seen place; link = k.seen link }

-- these datagrams were sent by the link
abbrev pub Sent : List (List ℕ) → LinkSeen → LinkSeen → Type 0
Sent datagrams old new = new.sent ≡ option_map (λ sent. sent ++ datagrams) old.sent

-- the first ones of these
abbrev pub AreFirstDatagrams : List (List ℕ) → List (List ℕ) → Type 0
AreFirstDatagrams first datagrams = (more : List (List ℕ)) × (datagrams ≡ first ++ more)

abbrev pub SentFirst : List (List ℕ) → LinkSeen → LinkSeen → Type 0
SentFirst datagrams old new = (first : List (List ℕ)) × AreFirstDatagrams first datagrams × Sent first old new

-- The datagrams were sent: the output has grown by their entries and the link is as before, or the link has sent
-- them and no file has changed.
abbrev pub Sends : Way → List (List ℕ) → Routes → Routes → Type 0
Sends (OnFile name) datagrams old new = Puts (entries_of datagrams) old.place new.place × (new.link ≡ old.link)
Sends (OnLink address) datagrams old new = Sent datagrams old.link new.link × (new.place.files ≡ old.place.files)

-- or a front of their entries was put, or the first of them were sent
abbrev pub SendsPart : Way → List (List ℕ) → Routes → Routes → Type 0
SendsPart (OnFile name) datagrams old new = PutsPart (entries_of datagrams) old.place new.place × (new.link ≡ old.link)
SendsPart (OnLink address) datagrams old new =
    SentFirst datagrams old.link new.link × (new.place.files ≡ old.place.files)

-- a file that datagrams go to is the output
abbrev pub IsOpen : Way → Routes → Type 0
IsOpen (OnFile name) now = now.place.has_output ≡ true
IsOpen (OnLink address) now = Unit {0}

-- only files change, and what was sent; faults do not fall
pub record OnlyGrows (old new : Routes) : Type 0 where
  pub place : OnlyWrites old.place new.place
  pub link : OnlySends old.link new.link
  pub place_later : old.place.faults ≤ new.place.faults
  pub link_later : old.link.faults ≤ new.link.faults

-- the place had a fault at its output, or the link at the address that it sends to, where it is told at which
abbrev pub OutputFailed : Way → Seen → Seen → Type 0
OutputFailed (OnFile name) old new = HadFault old new (Blames Written old.target)
OutputFailed (OnLink address) old new = ⊥

abbrev pub SendingFailed : Way → LinkSeen → LinkSeen → Type 0
SendingFailed (OnFile name) old new = ⊥
SendingFailed (OnLink address) old new = LinkHadFault old new (Blames Aimed old.aimed)

-- want of memory comes with nothing sent
abbrev pub StopsUnsent : Routes → Routes → RouteStop → Type 0
StopsUnsent old new stop = stop ≡ NoMemory → new ≡ old

-- the file is empty, and is the output
pub record IsCreated (name : List ℕ) (old new : Routes) : Type 0 where
  pub files : new.place.files ≡ option_map (with_file name []) old.place.files
  pub target : Names old.place.files new.place.target name
  pub output : new.place.has_output ≡ true
  pub input : KeepsInput old.place new.place
  pub link : new.link ≡ old.link

-- the link sends to the address
pub record IsAimed (address : List ℕ) (old new : Routes) : Type 0 where
  pub aimed : new.link.aimed ≡ option_map (λ _. address) old.link.aimed
  pub others : OnlyAims old.link new.link
  pub place : new.place ≡ old.place

-- the way is ready to take datagrams
abbrev pub IsOpened : Way → Routes → Routes → Type 0
IsOpened (OnFile name) old new = IsCreated name old new
IsOpened (OnLink address) old new = IsAimed address old new

-- whether or not it is: no datagram was sent, the input is as before, and faults do not fall
pub record OnlyOpens (old new : Routes) : Type 0 where
  pub input : KeepsInput old.place new.place
  pub link : OnlyAims old.link new.link
  pub place_later : old.place.faults ≤ new.place.faults
  pub link_later : old.link.faults ≤ new.link.faults

-- it could not be made ready: the file was not made, so that there is no output, or the link not aimed
abbrev pub IsUnopened : Way → Routes → Routes → Type 0
IsUnopened (OnFile name) old new =
    (new.place.files ≡ old.place.files) × (new.link ≡ old.link) × HasNoOutput new.place
IsUnopened (OnLink address) old new = (new.place ≡ old.place) × (new.link.sent ≡ old.link.sent)

-- and the place had a fault at this file
abbrev pub CreatingFailed : Way → Seen → Seen → Type 0
CreatingFailed (OnFile name) old new = HadFault old new (λ b. b ≡ (Written, name))
CreatingFailed (OnLink address) old new = ⊥

-- What a call leaves that sends: only files and what was sent have changed; and where it tells of a failed call of the
-- place, or of the link, that was the last one of it, and else none failed.
pub record GrowsTold {T F : Type 0} (of_place of_link : F → Bool) (result : Result T F) (old new : Routes) : Type 0 where
  pub others : OnlyGrows old new
  pub once_place : PlaceStops (stops of_place result) old.place new.place
  pub once_link : LinkStops (stops of_link result) old.link new.link

-- and a stop has its cause
pub record SendsTold {T : Type 0} (way : Way) (result : Result T RouteStop) (old new : Routes) : Type 0 where
  pub grows : GrowsTold stop_of_a_place stop_of_a_link result old new
  pub cause : IfErr result (IsStop (OutputFailed way old.place new.place) (SendingFailed way old.link new.link) ⊥)
