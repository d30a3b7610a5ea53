-- The layers that a layers text names, and those whose counts a store reaches. This project's own.
use Rattle.std.specs.Prelude.{◌≡◌, ◌⊎◌, ◌↔◌, ℕ, List, [], ◌∷◌, ◌++◌, None}
use Rattle.pet_base.specs.OutsideSeen.{OutsideSeen}
use Rattle.outside_files.specs.Wrote.{Wrote}
use Rattle.packet_verdicts.specs.KeptSet.{KeptSet, IsKeptSet}
use Rattle.pet_receive.specs.ShownBytes.{IsShown}
use Rattle.packet_met.specs.LayersText.{record_text}
use Rattle.store_text.specs.Files.{store_file}
use Rattle.command_receive.specs.Receives.{layers_file}
use Rattle.command_receive.specs.declared.command.ReceiveEnd.{ReceiveEnd}
use Rattle.command_receive.specs.declared.command.ReceiveEnd.TheVariants.{Done, NoMemory, PlaceFault, LinkFault}
use Rattle.command_receive.specs.declared.command.ReceiveEnd.TheVariants.{OutFault, Incomplete, TurnsSpent}

-- a group, and a layer of it
abbrev pub Name : Type 0
Name = ℕ × ℕ

-- this layer is among them
abbrev pub HasName : List Name → ℕ → ℕ → Type 0
HasName [] group layer = ⊥
HasName (name ∷ names) group layer = ((name.0 ≡ group) × (name.1 ≡ layer)) ⊎ HasName names group layer

-- no layer is there twice
abbrev pub AreDistinct : List Name → Type 0
AreDistinct [] = Unit {0}
AreDistinct (name ∷ names) = (HasName names name.0 name.1 → ⊥) × AreDistinct names

-- the text has a record for each of these layers, in this order, and nothing else
abbrev pub IsTextOf : List Name → List ℕ → Type 0
IsTextOf [] text = text ≡ []
IsTextOf (name ∷ names) text =
    (arrival : ℕ) × (bytes : List ℕ) × (rest : List ℕ) × (text ≡ record_text arrival name.0 name.1 bytes ++ rest)
    × IsTextOf names rest

-- the text names exactly the layers that are shown, whose counts the packets that are kept reach: each once
pub record NamesShown (set : KeptSet) (text : List ℕ) : Type 0 where
  pub names : List Name
  pub text_of : IsTextOf names text
  pub once : AreDistinct names
  pub exactly : (group layer : ℕ) → HasName names group layer ↔ IsShown set group layer

-- LAYERS and STORE were written: STORE has a kept set of the session, and LAYERS names exactly the layers whose counts
-- it reaches
pub record NamesStored (session layers store : List ℕ) (before after : OutsideSeen) : Type 0 where
  pub set : KeptSet
  pub sound : IsKeptSet set
  pub number : set.session ≡ session
  pub text : List ℕ
  pub files : Wrote (layers_file layers text ∷ store_file store set ∷ []) None before.place after.place
  pub named : NamesShown set text

-- so it is at each end that writes both, of a file and of any link, whether or not it tells what came
abbrev pub NamesWhatItStores : List ℕ → List ℕ → List ℕ → OutsideSeen → OutsideSeen → ReceiveEnd → Type 0
NamesWhatItStores session layers store before after (Done totals) = NamesStored session layers store before after
NamesWhatItStores session layers store before after (Incomplete totals) = NamesStored session layers store before after
NamesWhatItStores session layers store before after (TurnsSpent totals) = NamesStored session layers store before after
NamesWhatItStores session layers store before after NoMemory = Unit {0}
NamesWhatItStores session layers store before after PlaceFault = Unit {0}
NamesWhatItStores session layers store before after LinkFault = Unit {0}
NamesWhatItStores session layers store before after OutFault = Unit {0}
