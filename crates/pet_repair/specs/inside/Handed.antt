-- What was handed on to a way that is open, while other datagrams may come. This project's own.
use Rattle.std.specs.Prelude.{◌≡◌, ℕ, List}
use Rattle.pet_base.specs.Entries.{entries_of}
use Rattle.outside_files.specs.Outputs.{Puts, PutsPart}
use Rattle.outside_routes.specs.Sending.{Routes, Sent, SentFirst}
use Rattle.outside_routes.specs.Way.{Way, OnFile, OnLink}

-- these datagrams
abbrev pub Handed : Way → List (List ℕ) → Routes → Routes → Type 0
Handed (OnFile name) datagrams old new =
    Puts (entries_of datagrams) old.place new.place × (new.link.sent ≡ old.link.sent)
Handed (OnLink address) datagrams old new = Sent datagrams old.link new.link × (new.place.files ≡ old.place.files)

-- a front of them
abbrev pub HandedPart : Way → List (List ℕ) → Routes → Routes → Type 0
HandedPart (OnFile name) datagrams old new =
    PutsPart (entries_of datagrams) old.place new.place × (new.link.sent ≡ old.link.sent)
HandedPart (OnLink address) datagrams old new =
    SentFirst datagrams old.link new.link × (new.place.files ≡ old.place.files)
