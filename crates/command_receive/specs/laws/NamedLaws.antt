-- LAYERS names what STORE has, from what each end tells. For the proofs of callers.
use Rattle.std.proofs.Common.{ℕ, List}
use Rattle.pet_base.specs.OutsideSeen.{OutsideSeen}
use Rattle.outside_routes.specs.Way.{Way}
use Rattle.packet_met.specs.Kept.{kept_of}
use Rattle.command_receive.specs.declared.command.ReceiveEnd.{ReceiveEnd}
use Rattle.command_receive.specs.declared.command.ReceiveEnd.TheVariants.{Done, NoMemory, PlaceFault, LinkFault}
use Rattle.command_receive.specs.declared.command.ReceiveEnd.TheVariants.{OutFault, Incomplete, TurnsSpent}
use Rattle.command_receive.specs.NamedLayers.{NamesStored, NamesWhatItStores}
use Rattle.command_receive.specs.Receives.{Reads, EndsReceive}
use Rattle.command_receive.specs.laws.NamedOnce.{kept_session, kept_sound, names_shown}

named : (from : Way) (session layers store : List ℕ) (before after : OutsideSeen)
    → Reads from session layers store before after → NamesStored session layers store before after
named from session layers store before after r = record {
  set = kept_of session r.read;
  sound = kept_sound session r.read;
  number = kept_session session r.read;
  text = r.text;
  files = r.files;
  named = names_shown session r.read r.text r.is_text;
}

pub names_what_it_stores : (from : Way) (session layers store : List ℕ) (before after : OutsideSeen) (end : ReceiveEnd)
    → EndsReceive from session layers store before after end → NamesWhatItStores session layers store before after end
names_what_it_stores from session layers store before after (Done totals) ends =
    named from session layers store before after ends.0
names_what_it_stores from session layers store before after (Incomplete totals) ends =
    named from session layers store before after ends.0
names_what_it_stores from session layers store before after (TurnsSpent totals) ends =
    named from session layers store before after ends.0
names_what_it_stores from session layers store before after NoMemory ends = tt
names_what_it_stores from session layers store before after PlaceFault ends = tt
names_what_it_stores from session layers store before after LinkFault ends = tt
names_what_it_stores from session layers store before after OutFault ends = tt
