-- What is counted of each open group of a receiver. This project's own.
use Rattle.std.specs.Prelude.{ℕ}
use Rattle.packet_set.specs.Packets.{Packets, count_in}
use Rattle.packet_verdicts.specs.GroupLayers.{shown_in, whole_in}
use Rattle.packet_receiver.specs.declared.totals.Count.{Count}
use Rattle.packet_receiver.specs.declared.totals.Count.TheVariants.{Packets as Kept, Shown, Whole}

abbrev pub counted : Count → Packets → ℕ
counted Kept p = count_in p
counted Shown p = shown_in p
counted Whole p = whole_in p
