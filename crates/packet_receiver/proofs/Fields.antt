-- A receiver as its fields say, and what a test for other bytes says.
use Rattle.std.specs.Prelude.{not}
use Rattle.std.proofs.Common.{◌≡◌, ℕ, Bool, true, false, List, refl, sym, ◌∙◌}
use Rattle.packet_group.specs.OpenGroup.{GroupState}
use Rattle.packet_receiver.specs.Arrivals.{ReceiverState}
use Rattle.packet_receiver.specs.declared.receiver.PacketReceiver.TheInside.{Inside}

-- the receiver of these fields, but with these groups
abbrev pub receiver_with : {F R E : Type 0} → Inside F R E → List (ℕ × GroupState E) → ReceiverState E
receiver_with i groups = record { format = i.format; session = i.session; limit = i.limit; groups = groups }

-- the receiver of these fields
abbrev pub receiver_of : {F R E : Type 0} → Inside F R E → ReceiverState E
receiver_of i = receiver_with i i.groups.entries

-- what a test for other bytes says of these
pub same_by : (other same : Bool) → other ≡ not same → other ≡ false → same ≡ true
same_by other true e f = refl
same_by other false e f = let no : true ≡ false = sym e ∙ f in absurd (cc)

pub other_by : (other same : Bool) → other ≡ not same → other ≡ true → same ≡ false
other_by other false e f = refl
other_by other true e f = let no : false ≡ true = sym e ∙ f in absurd (cc)
