-- What each end tells.
use Rattle.std.proofs.Common.{◌≡◌, ◌≢◌, Bool, ℕ, List, [], Option, None, Some, sym, ap, subst, inl, arith}
use Rattle.std.specs.Prelude.{option_map}
use Rattle.outside_routes.specs.declared.fault.RouteStop.TheVariants as stop
use Rattle.outside_routes.specs.Sending.{Routes}
use Rattle.outside_routes.specs.Way.{Way, OnFile, OnLink}
use Rattle.pet_base.specs.Seen.{Blame, Files}
use Rattle.pet_base.specs.laws.SeenLaws.{HadFault-since}
use Rattle.pet_base.specs.OutsideSeen.{OutsideSeen}
use Rattle.session_source.specs.Sources.{IsOfSource, IsSourceFaultIn}
use Rattle.session_source.specs.declared.source.SourceFault.{SourceFault}
use Rattle.session_source.specs.declared.source.SourceFault.TheVariants as source
use Rattle.outside_files.specs.Wrote.{with_files}
use Rattle.command_send.specs.declared.command.SendEnd.{SendEnd}
use Rattle.command_send.specs.declared.command.SendEnd.TheVariants.{NoMemory, PlaceFault, LinkFault, Changed}
use Rattle.command_send.specs.declared.fault.SendFault.{SendFault}
use Rattle.command_send.specs.declared.fault.SendFault.TheVariants as fault
use Rattle.command_send.specs.Failures.{fault_of_place, fault_of_link, failures_of, end_of_place, end_of_link}
use Rattle.command_send.specs.inside.SendParts.{IsEndOf, IsSendFault, end_of_refusal}
use Rattle.command_send.specs.Sends.{routes_in, LeavesSentFront, MayBlameIn, SendsNothing, SendTellsIn}
use Rattle.field_elements.specs.Field.{Coding}
use Rattle.packet_frame.specs.declared.format.Format.{Format}
use Rattle.pet_base.specs.declared.limits.TheConstants.{MAX_SESSION}

nothing_written : (old new : Option Files) → new ≡ option_map (with_files []) old → new ≡ old
nothing_written None new e = e
nothing_written (Some f) new e = e

module _ {E : Type 0} (t : Format) (c : Coding E) (stream priority : List ℕ) (way : Way) (before after : OutsideSeen) where
  read_blame : (blame : Blame) → IsOfSource before.place.files stream priority blame
      → MayBlameIn t stream priority way before.place blame
  read_blame blame is = by way
    where
      by : (w : Way) → MayBlameIn t stream priority w before.place blame
      by (OnFile to) = inl is
      by (OnLink address) = is

  nothing_left : SendsNothing (routes_in before) (routes_in after)
      → LeavesSentFront t c stream priority way (routes_in before) (routes_in after)
  nothing_left same = by way
    where
      by : (w : Way) → LeavesSentFront t c stream priority w (routes_in before) (routes_in after)
      by (OnFile to) = inl same.0
      by (OnLink address) = (inl (ap (λ l. l.sent) same.1), nothing_written before.place.files after.place.files same.0)

  refused : (fault : SourceFault) → IsSourceFaultIn t MAX_SESSION before.place after.place stream priority fault
      → SendsNothing (routes_in before) (routes_in after)
      → SendTellsIn t c stream priority way before after (end_of_refusal fault)
  refused source.NoMemory is same = nothing_left same
  refused source.Failed is same =
      (HadFault-since before.place before.place after.place _ _ (omega arith) read_blame is, nothing_left same)
  refused (source.Priority fault) is same = (is, same)
  refused (source.Stream scan) is same = (is, same)
  refused (source.Plan fault) is same = (is, same)

  told : (end of_fault : SendEnd) → end ≡ of_fault → SendTellsIn t c stream priority way before after of_fault
      → SendTellsIn t c stream priority way before after end
  told end of_fault made tells = subst (λ (e : SendEnd). SendTellsIn t c stream priority way before after e) (sym made) tells

  -- it stopped at a fault
  pub tells_fault : (f : SendFault) (end : SendEnd) → IsEndOf f end
      → IsSendFault t c (routes_in before) (routes_in after) stream priority way f
      → LeavesSentFront t c stream priority way (routes_in before) (routes_in after)
      → SendTellsIn t c stream priority way before after end
  tells_fault (fault.Stopped stop.NoMemory) end made is left = told end NoMemory made left
  tells_fault (fault.Stopped stop.Place) end made is left = told end PlaceFault made (is, left)
  tells_fault (fault.Stopped stop.Link) end made is left = told end LinkFault made (is.0, is.1, left)
  tells_fault (fault.Stopped stop.Out) end made is left = absurd made
  tells_fault (fault.Source refusal) end made is left =
      told end (end_of_refusal refusal) made (refused refusal is.0 is.1)
  tells_fault (fault.Changed change) end made is left = told end (Changed change) made (is, left)

-- no output is used
pub no_output : {E : Type 0} (t : Format) (c : Coding E) (old new : Routes) (stream priority : List ℕ) (way : Way) (f : SendFault)
    → IsSendFault t c old new stream priority way f → f ≢ fault.Stopped stop.Out
no_output t c old new stream priority way (fault.Stopped stop.NoMemory) is = λ same. cc
no_output t c old new stream priority way (fault.Stopped stop.Place) is = λ same. cc
no_output t c old new stream priority way (fault.Stopped stop.Link) is = λ same. cc
no_output t c old new stream priority way (fault.Stopped stop.Out) is = absurd is
no_output t c old new stream priority way (fault.Source refusal) is = λ same. cc
no_output t c old new stream priority way (fault.Changed change) is = λ same. cc

-- an end tells of the failure that its fault tells of
alike : (f : SendFault) (end : SendEnd) → IsEndOf f end → (fault_of_place f, fault_of_link f) ≡ failures_of end
alike (fault.Stopped stop.NoMemory) end made = ap failures_of (sym made)
alike (fault.Stopped stop.Place) end made = ap failures_of (sym made)
alike (fault.Stopped stop.Link) end made = ap failures_of (sym made)
alike (fault.Stopped stop.Out) end made = absurd made
alike (fault.Source source.NoMemory) end made = ap failures_of (sym made)
alike (fault.Source source.Failed) end made = ap failures_of (sym made)
alike (fault.Source (source.Priority x)) end made = ap failures_of (sym made)
alike (fault.Source (source.Stream x)) end made = ap failures_of (sym made)
alike (fault.Source (source.Plan x)) end made = ap failures_of (sym made)
alike (fault.Changed change) end made = ap failures_of (sym made)

pub place_alike : (f : SendFault) (end : SendEnd) → IsEndOf f end → fault_of_place f ≡ end_of_place end
place_alike f end made = ap (λ (failures : Bool × Bool). failures.0) (alike f end made)

pub link_alike : (f : SendFault) (end : SendEnd) → IsEndOf f end → fault_of_link f ≡ end_of_link end
link_alike f end made = ap (λ (failures : Bool × Bool). failures.1) (alike f end made)
