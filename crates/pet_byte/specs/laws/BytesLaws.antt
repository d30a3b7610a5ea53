-- The headline, from what each end tells.
use Rattle.std.proofs.Common.{◌≡◌, ℕ, ◌<◌, Bool, true, false, cond, List, [], ◌∷◌, length, Option, Some, refl, sym}
use Rattle.std.proofs.Common.{ap, subst, ◌∙◌, arith, inl, inr}
use Rattle.std.specs.Prelude.{option_map}
use Rattle.std.proofs.lemmas.Bool.{false_from_ne_true}
use Rattle.pet_base.specs.declared.limits.TheConstants.{MAX_DATAGRAMS}
use Rattle.pet_base.specs.Causes.{Rose}
use Rattle.pet_base.specs.OutsideSeen.{OutsideSeen}
use Rattle.pet_base.specs.Seen.{Blame, Files, Seen, with_file}
use Rattle.pet_base.specs.laws.SeenLaws.{HadFault-since}
use Rattle.outside_files.specs.Uses.{writing, IsOneOf, Failed}
use Rattle.outside_files.specs.Wrote.{with_files}
use Rattle.outside_routes.specs.Way.{Way, OnFile, OnLink}
use Rattle.gf8.specs.Gf8.{gf8_coding}
use Rattle.packet_frame.specs.declared.format.TheConstants.{BYTE_FORMAT}
use Rattle.packet_session.specs.Session.{Session}
use Rattle.packet_met.specs.Met.{met_by, all_shown}
use Rattle.packet_met.specs.laws.FewestStripesLaws.{all_carry_fewest_in}
use Rattle.outside_routes.specs.declared.fault.RouteStop.TheVariants as stop
use Rattle.packet_reading.specs.Begun.{EnteringFailed}
use Rattle.packet_reading.specs.Layers.{layers_file}
use Rattle.packet_reading.specs.Opened.{IsBoundTo, PortFailed, PrintedPort}
use Rattle.packet_reading.specs.SessionRead.{session_totals_in}
use Rattle.packet_reading.specs.declared.reading.Totals.{Totals}
use Rattle.packet_reading.specs.laws.SessionLaws.{read_is, shown_where, session_text, session_numbers}
use Rattle.stripe_plan.specs.laws.ByteLaws.{are_byte_plan_bounds}
use Rattle.pet_byte.specs.BytesReceived.{HasBytePacketsOf, CanReceiveBytes, ReceivesByteSession, CompletesBytes}
use Rattle.pet_byte.specs.BytesReceived.{byte_session_end, done_with, incomplete_with}
use Rattle.pet_byte.specs.ReceivesBytes.{byte_uses_of, ReadsBytes, AreByteTotals, EndsBytes, IsBoundAtByteEnd, ReceivesBytes}
use Rattle.pet_byte.specs.ReceivesBytes.{StopsReadingBytes}
use Rattle.pet_byte.specs.declared.breceive.ByteEnd.{ByteEnd}
use Rattle.pet_byte.specs.declared.breceive.ByteEnd.TheVariants.{Done, NoMemory, PlaceFault, LinkFault}
use Rattle.pet_byte.specs.declared.breceive.ByteEnd.TheVariants.{OutFault, Incomplete, TurnsSpent}

-- what may be blamed is one of the files that are used
from_used : (from : Way) (layers : List ℕ) (old new : Seen) → EnteringFailed from old new
    → Failed (byte_uses_of from layers) old new
from_used (OnFile name) layers old new had = HadFault-since old old new _ _ (omega arith) (λ b is. inl is) had
from_used (OnLink address) layers old new had = absurd had

layers_used : (from : Way) (layers : List ℕ) (b : Blame) → b ≡ writing layers → IsOneOf (byte_uses_of from layers) b
layers_used (OnFile name) layers b is = inr is
layers_used (OnLink address) layers b is = is

blamed : (from : Way) (session layers : List ℕ) (before after : OutsideSeen)
    → StopsReadingBytes from session layers before after stop.Place
    → Failed (byte_uses_of from layers) before.place after.place
blamed from session layers before after (inl (inl opening, untouched), port) =
    from_used from layers before.place after.place opening.0
blamed from session layers before after (inl (inr making, untouched), port) =
    HadFault-since before.place before.place after.place _ _ (omega arith) (layers_used from layers) making.0.0
blamed from session layers before after (inr (inl (had, whole)), port) =
    from_used from layers before.place after.place had
blamed from session layers before after (inr (inr (had, front)), port) =
    HadFault-since before.place before.place after.place _ _ (omega arith) (layers_used from layers) had

module _ (s : Session) (from : Way) (layers : List ℕ) (files : Files) (ds : List (List ℕ)) (before after : OutsideSeen)
    (given : HasBytePacketsOf s from files ds before) where
  abbrev P : ℕ → Type 0
  P a = a < 256

  module _ (r : ReadsBytes from s.number layers before after) where
    all_is : (ds ≡ r.read) × (length r.read < MAX_DATAGRAMS)
    all_is = read_is BYTE_FORMAT P gf8_coding s from files ds before after given r.read r.input

    -- what was read and written is what the session defines
    session_left : IsBoundTo from before.link after.link → ReceivesByteSession s from layers files ds before after
    session_left listens =
        let text = session_text BYTE_FORMAT P gf8_coding s from files ds before after given r.read r.input r.text
        r.is_text in
        subst (λ (l : List (List ℕ)). ReceivesByteSession s from layers files l before after) (sym all_is.0)
        (record {
          written =
              r.file ∙ ap (λ (o : Option Files). option_map (with_files (layers_file layers r.text ∷ [])) o) given.told
              ∙ ap (λ (t : List ℕ). Some (with_file layers t files)) text;
          listens = listens;
          fewest = all_carry_fewest_in gf8_coding (λ a. refl) BYTE_FORMAT are_byte_plan_bounds s.groups
              given.session.groups;
        })

    -- and the end, by whether every layer is shown
    session_ended : (all : Bool) (totals : Totals) → AreByteTotals s.number r.read totals.read totals.kept totals.shown
        → all_shown s (met_by BYTE_FORMAT s.number r.read) ≡ all
        → cond all (done_with totals) (incomplete_with totals) ≡ byte_session_end s ds
    session_ended all totals are is =
        let numbers = session_numbers BYTE_FORMAT P gf8_coding s from files ds before after given r.read r.input totals
        are in
        ap (λ (t : Totals). cond all (done_with t) (incomplete_with t)) numbers
        ∙ ap (λ (b : Bool). cond b (done_with (session_totals_in BYTE_FORMAT s r.read))
        (incomplete_with (session_totals_in BYTE_FORMAT s r.read))) (sym is)
        ∙ ap (byte_session_end s) (sym all_is.0)

  port_well : (w : Way) → PortFailed w before after → Rose before.out_faults after.out_faults
  port_well (OnFile name) failed = absurd failed
  port_well (OnLink address) failed = failed.rose

  -- by the end
  received : (end whole : ByteEnd) → whole ≡ end → CanReceiveBytes s from layers files ds before after whole
      → IsBoundAtByteEnd from before.link after.link end → EndsBytes from s.number layers before after end
      → ReceivesByteSession s from layers files ds before after
      × (end ≡ byte_session_end s ds) × PrintedPort from before after
  received (Done read kept shown) whole is can bound ends = (
    session_left ends.0 bound,
    session_ended ends.0 true (record { read = read; kept = kept; shown = shown }) ends.3
        ((shown_where BYTE_FORMAT P gf8_coding s from files ds before after given ends.0.read ends.0.input).0 ends.2),
    ends.4,
  )
  received (Incomplete read kept shown) whole is can bound ends = (
    session_left ends.0 bound,
    session_ended ends.0 false (record { read = read; kept = kept; shown = shown }) ends.3
        (false_from_ne_true (all_shown s (met_by BYTE_FORMAT s.number ends.0.read))
        (λ all. ends.2 ((shown_where BYTE_FORMAT P gf8_coding s from files ds before after given ends.0.read
        ends.0.input).1 all))),
    ends.4,
  )
  received (TurnsSpent read kept shown) whole is can bound ends =
      absurd (let few = (all_is ends.0).1 in let many = ends.1 in omega (arith, few, many))
  received OutFault whole is can bound ends = absurd (can.well.out (port_well from ends.1))
  received NoMemory whole is can bound ends = absurd (can.memory is)
  received PlaceFault whole is can bound ends = absurd (can.well.place (blamed from s.number layers before after ends))
  received LinkFault whole is can bound ends = absurd (can.link ends.0)

-- the headline follows from what `breceive` does
pub completes_bytes : (from : Way) (session layers : List ℕ) (before after : OutsideSeen) (end : ByteEnd)
    → ReceivesBytes from session layers before after end → CompletesBytes from session layers before after end
completes_bytes from session layers before after end receives s files ds is can =
    received s from layers files ds before after can.given end end refl can receives.bound
    (subst (λ (n : List ℕ). EndsBytes from n layers before after end) is receives.ends)

-- a command that has done nothing for want of memory
pub no_bytes_received : (from : Way) (session layers : List ℕ) (before : OutsideSeen)
    → ReceivesBytes from session layers before before NoMemory
no_bytes_received (OnFile name) session layers before =
    record {
      link = refl;
      bound = inl tt;
      later = omega arith;
      out = refl;
      ends = inl (record { place = refl; feed = tt; written = refl });
    }
no_bytes_received (OnLink address) session layers before =
    record {
      link = (refl, refl, omega arith);
      bound = inl refl;
      later = omega arith;
      out = refl;
      ends = inl (record { place = refl; feed = refl; written = refl });
    }
