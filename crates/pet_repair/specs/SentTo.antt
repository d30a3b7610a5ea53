-- What a command has sent to TO, a file or an address, seen from before it began. This project's own.
use Rattle.std.specs.Prelude.{◌≡◌, ℕ, List, [], ◌∷◌, None, Some, option_map}
use Rattle.pet_base.specs.Entries.{entries_of}
use Rattle.pet_base.specs.LinkSeen.{LinkSeen}
use Rattle.outside_files.specs.Wrote.{File, Wrote}
use Rattle.outside_routes.specs.Sending.{Routes, Sent, SentFirst}
use Rattle.outside_routes.specs.Way.{Way, OnFile, OnLink}
pub use Rattle.outside_routes.specs.Way.{way_at}

-- the datagram file of these, under this name
abbrev pub entries_file : List ℕ → List (List ℕ) → File
entries_file to datagrams = record { name = to; bytes = entries_of datagrams }

-- the link was aimed at this address
abbrev pub IsAimedAt : List ℕ → LinkSeen → LinkSeen → Type 0
IsAimedAt address old new = new.aimed ≡ option_map (λ _. address) old.aimed

-- The file TO has the entries of these datagrams, no other file has changed, and the link has sent nothing; or the
-- link
-- was aimed at TO and has sent them, and no file has changed.
abbrev pub SentTo : Way → List (List ℕ) → Routes → Routes → Type 0
SentTo (OnFile to) datagrams old new =
    Wrote (entries_file to datagrams ∷ []) None old.place new.place × (new.link.sent ≡ old.link.sent)
SentTo (OnLink address) datagrams old new =
    IsAimedAt address old.link new.link × Sent datagrams old.link new.link × (new.place.files ≡ old.place.files)

-- the same of a front of their entries, or of the first of them
abbrev pub SentFront : Way → List (List ℕ) → Routes → Routes → Type 0
SentFront (OnFile to) datagrams old new =
    Wrote [] (Some (entries_file to datagrams)) old.place new.place × (new.link.sent ≡ old.link.sent)
SentFront (OnLink address) datagrams old new =
    IsAimedAt address old.link new.link × SentFirst datagrams old.link new.link × (new.place.files ≡ old.place.files)

-- of a file TO the link is as it was; of an address it receives where it did, and no datagram has left it
abbrev pub KeepsLinkTo : Way → LinkSeen → LinkSeen → Type 0
KeepsLinkTo (OnFile to) old new = new ≡ old
KeepsLinkTo (OnLink address) old new = (new.feed ≡ old.feed) × (new.port ≡ old.port) × (new.bound ≡ old.bound)

-- no file has changed, and the link has sent nothing
abbrev pub SentNothing : Routes → Routes → Type 0
SentNothing old new = (new.place.files ≡ old.place.files) × (new.link.sent ≡ old.link.sent)
