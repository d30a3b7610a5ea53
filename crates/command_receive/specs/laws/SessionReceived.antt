-- The headline, from what each end tells.
use Rattle.std.proofs.Common.{◌≡◌, ℕ, ◌<◌, Bool, true, false, cond, List, [], ◌∷◌, length, Option, Some, refl, sym}
use Rattle.std.proofs.Common.{ap, subst, ◌∙◌, arith, inl, inr}
use Rattle.std.specs.Prelude.{All, option_map}
use Rattle.std.proofs.lemmas.Bool.{false_from_ne_true}
use Rattle.pet_base.specs.declared.limits.TheConstants.{MAX_SESSION, MAX_DATAGRAMS}
use Rattle.pet_base.specs.Causes.{Rose}
use Rattle.outside_routes.specs.Way.{Way, OnFile, OnLink}
use Rattle.command_receive.specs.Opened.{IsBoundTo, PortFailed, PrintedPort}
use Rattle.pet_base.specs.OutsideSeen.{OutsideSeen}
use Rattle.pet_base.specs.Seen.{Blame, Files, Seen, with_file}
use Rattle.pet_base.specs.laws.SeenLaws.{HadFault-since}
use Rattle.outside_files.specs.Uses.{writing, IsOneOf, Failed}
use Rattle.outside_files.specs.Wrote.{with_files}
use Rattle.packet_frame.specs.declared.format.TheConstants.{FORMAT}
use Rattle.packet_session.specs.Session.{Session}
use Rattle.pet_receive.specs.ShownBytes.{IsComplete}
use Rattle.packet_verdicts.specs.Union.{frames_in}
use Rattle.field_elements.specs.Gf16.{gf16_coding}
use Rattle.packet_met.specs.Kept.{kept_of}
use Rattle.packet_met.specs.Met.{met_in, all_shown, layers_text}
use Rattle.packet_met.specs.MetStore.{session_store}
use Rattle.packet_met.specs.laws.FramesAreMet.{kept_frames}
use Rattle.packet_met.specs.laws.DatagramMore.{made, IsPlain}
use Rattle.packet_met.specs.laws.FewestStripesLaws.{all_carry_fewest}
use Rattle.packet_met.specs.laws.KeptIsMet.{Follows}
use Rattle.command_receive.specs.declared.command.ReceiveEnd.{ReceiveEnd}
use Rattle.command_receive.specs.declared.command.ReceiveEnd.TheVariants.{Done, NoMemory, PlaceFault, LinkFault}
use Rattle.command_receive.specs.declared.command.ReceiveEnd.TheVariants.{OutFault, Incomplete, TurnsSpent}
use Rattle.store_text.specs.Store.{store_of, store_text}
use Rattle.command_receive.specs.Receives.{IsBoundAtEnd, StopsAtFileOrStore, layers_file, kept_file}
use Rattle.packet_reading.specs.Begun.{EnteringFailed}
use Rattle.command_receive.specs.Receives.{AreTotals, uses_of, Reads, EndsReceive, Receives}
use Rattle.packet_reading.specs.declared.reading.Totals.{Totals}
use Rattle.packet_reading.specs.laws.SessionLaws as L
use Rattle.command_receive.specs.ReceivesSession.{HasPacketsOf, CanReceive, ReceivesSession}
use Rattle.command_receive.specs.ReceivesSession.{CompletesReceive, session_end, session_totals}

-- what is blamed is one of the files that are used
layers_used : (from : Way) (layers store : List ℕ) (b : Blame) → b ≡ writing layers
    → IsOneOf (uses_of from layers store) b
layers_used (OnFile name) layers store b is = inr (inl is)
layers_used (OnLink address) layers store b is = inl is

store_used : (from : Way) (layers store : List ℕ) (b : Blame) → b ≡ writing store
    → IsOneOf (uses_of from layers store) b
store_used (OnFile name) layers store b is = inr (inr is)
store_used (OnLink address) layers store b is = inr is

from_used : (from : Way) (layers store : List ℕ) (old new : Seen) → EnteringFailed from old new
    → Failed (uses_of from layers store) old new
from_used (OnFile name) layers store old new had =
    HadFault-since old old new _ _ (omega arith) (λ b is. inl is) had
from_used (OnLink address) layers store old new had = absurd had

in_turn : (from : Way) (session layers store : List ℕ) (before after : OutsideSeen)
    → StopsAtFileOrStore from session layers store before after
    → Failed (uses_of from layers store) before.place after.place
in_turn from session layers store before after (inl (inl (inl opening, untouched))) =
    from_used from layers store before.place after.place opening.0
in_turn from session layers store before after (inl (inl (inr making, untouched))) =
    HadFault-since before.place before.place after.place _ _ (omega arith) (layers_used from layers store) making.0.0
in_turn from session layers store before after (inl (inr (inl (had, whole)))) =
    from_used from layers store before.place after.place had
in_turn from session layers store before after (inl (inr (inr (had, front)))) =
    HadFault-since before.place before.place after.place _ _ (omega arith) (layers_used from layers store) had
in_turn from session layers store before after (inr (had, stored)) =
    HadFault-since before.place before.place after.place _ _ (omega arith) (store_used from layers store) had

module _ (s : Session) (from : Way) (layers store : List ℕ) (files : Files) (ds : List (List ℕ))
    (before after : OutsideSeen) (given : HasPacketsOf s from files ds before) where
  module _ (r : Reads from s.number layers store before after) where
    abbrev P : ℕ → Type 0
    P a = a < 65536

    read_is : (ds ≡ r.read) × (length r.read < MAX_DATAGRAMS)
    read_is = L.read_is FORMAT P gf16_coding s from files ds before after given r.read r.input

    plain : All (IsPlain gf16_coding s) r.read
    plain = L.plain FORMAT P gf16_coding s from files ds before after given r.read r.input

    follows : Follows (made gf16_coding) s MAX_SESSION (met_in s.number r.read) (kept_of s.number r.read)
    follows = L.follows FORMAT P gf16_coding s from files ds before after given r.read r.input

    -- every layer is shown exactly where the session is complete
    shown_where : (IsComplete (kept_of s.number r.read) → all_shown s (met_in s.number r.read) ≡ true)
        × (all_shown s (met_in s.number r.read) ≡ true → IsComplete (kept_of s.number r.read))
    shown_where = L.shown_where FORMAT P gf16_coding s from files ds before after given r.read r.input

    -- what was read and written is what the session defines
    pub session_left : IsBoundTo from before.link after.link → ReceivesSession s from layers store files ds before after
    session_left listens =
        let kept = kept_of s.number r.read in
        let stored : store_text kept ≡ session_store s r.read =
        ap (λ (n : List ℕ). store_of n (frames_in kept)) follows.session
        ∙ ap (store_of s.number) (kept_frames gf16_coding s (λ a. a < 65536) r.read given.session given.fits plain) in
        let text : r.text ≡ layers_text s r.read =
        L.session_text FORMAT P gf16_coding s from files ds before after given r.read r.input r.text r.is_text in
        subst (λ (l : List (List ℕ)). ReceivesSession s from layers store files l before after) (sym read_is.0)
        (record {
          written =
              r.files ∙ ap (λ (o : Option Files). option_map
              (with_files (layers_file layers r.text ∷ kept_file store s.number r.read ∷ [])) o) given.told
              ∙ ap (λ (t : List ℕ). Some (with_file store (store_text kept) (with_file layers t files))) text
              ∙ ap (λ (t : List ℕ). Some (with_file store t (with_file layers (layers_text s r.read) files))) stored;
          listens = listens;
          fewest = all_carry_fewest s.groups given.session.groups;
        })

    -- and so are the numbers
    session_numbers : (totals : Totals) → AreTotals s.number r.read totals → totals ≡ session_totals s r.read
    session_numbers = L.session_numbers FORMAT P gf16_coding s from files ds before after given r.read r.input

    -- and the end, by whether every layer is shown
    pub session_ended : (all : Bool) (totals : Totals) → AreTotals s.number r.read totals
        → all_shown s (met_in s.number r.read) ≡ all → cond all (Done totals) (Incomplete totals) ≡ session_end s ds
    session_ended all totals are is =
        ap (λ (t : Totals). cond all (Done t) (Incomplete t)) (session_numbers totals are)
        ∙ ap (λ (b : Bool). cond b (Done (session_totals s r.read)) (Incomplete (session_totals s r.read))) (sym is)
        ∙ ap (session_end s) (sym read_is.0)

  port_well : (w : Way) → PortFailed w before after → Rose before.out_faults after.out_faults
  port_well (OnFile name) failed = absurd failed
  port_well (OnLink address) failed = failed.rose

  -- by the end
  received : (end whole : ReceiveEnd) → whole ≡ end → CanReceive s from layers store files ds before after whole
      → IsBoundAtEnd from before.link after.link end → EndsReceive from s.number layers store before after end
      → ReceivesSession s from layers store files ds before after
      × (end ≡ session_end s ds) × PrintedPort from before after
  received (Done totals) whole is can bound ends =
      (session_left ends.0 bound, session_ended ends.0 true totals ends.3 ((shown_where ends.0).0 ends.2), ends.4)
  received (Incomplete totals) whole is can bound ends = (
    session_left ends.0 bound,
    session_ended ends.0 false totals ends.3
        (false_from_ne_true (all_shown s (met_in s.number ends.0.read))
        (λ all. ends.2 ((shown_where ends.0).1 all))),
    ends.4,
  )
  received (TurnsSpent totals) whole is can bound ends =
      absurd (let few = (read_is ends.0).1 in let many = ends.1 in omega (arith, few, many))
  received OutFault whole is can bound ends = absurd (can.well.out (port_well from ends.1))
  received NoMemory whole is can bound ends = absurd (can.memory is)
  received PlaceFault whole is can bound ends = absurd (can.well.place (in_turn from s.number layers store before after ends.0))
  received LinkFault whole is can bound ends = absurd (can.link ends.0)

-- the headline follows from what `receive` does
pub completes_receive : (from : Way) (session layers store : List ℕ) (before after : OutsideSeen) (end : ReceiveEnd)
    → Receives from session layers store before after end → CompletesReceive from session layers store before after end
completes_receive from session layers store before after end receives s files ds is can =
    received s from layers store files ds before after can.given end end refl can receives.bound
    (subst (λ (n : List ℕ). EndsReceive from n layers store before after end) is receives.ends)

-- a command that has done nothing for want of memory
pub nothing_received : (from : Way) (session layers store : List ℕ) (before : OutsideSeen)
    → Receives from session layers store before before NoMemory
nothing_received (OnFile name) session layers store before =
    record {
      link = refl;
      bound = inl tt;
      later = omega arith;
      out = refl;
      ends = inl (record { place = refl; feed = tt; written = refl });
    }
nothing_received (OnLink address) session layers store before =
    record {
      link = (refl, refl, omega arith);
      bound = inl refl;
      later = omega arith;
      out = refl;
      ends = inl (record { place = refl; feed = refl; written = refl });
    }
