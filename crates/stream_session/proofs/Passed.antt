-- One portion more in a pass.
use Rattle.std.proofs.Common.{◌≡◌, ℕ, ◌<◌, arith, true, false, List, [], ◌++◌, length, Option, None, Some, refl, sym}
use Rattle.std.proofs.Common.{ap, subst, ◌∙◌, append_assoc}
use Rattle.std.proofs.lemmas.List.{append-nil}
use Rattle.std.specs.Prelude.{MatchOption, is_some, Result, Ok, Err, IfOk, IfErr}
use Rattle.std.specs.Int.{w32, to_be_bytes}
use Rattle.mpeg_scan.specs.declared.refusal.Scan.{Scan}
use Rattle.mpeg_scan.specs.declared.piece.Piece.{Piece}
use Rattle.mpeg_scan.specs.Refusals.{Refuses, IsRefusal, IsAccepted, max_stream}
use Rattle.mpeg_scan.specs.Pieces.{pieces_of}
use Rattle.mpeg_scan.specs.Scanning.{HasRead, added}
use Rattle.sha2.specs.Hashers.{Holds256}
use Rattle.priority_file.specs.Priority.{Priorities}
use Rattle.stream_session.specs.declared.pass.Pass.{Pass}
use Rattle.stream_session.specs.declared.pass.SessionPlan.{SessionPlan}
use Rattle.stream_session.specs.declared.pass.StreamFault.{StreamFault}
use Rattle.stream_session.specs.declared.pass.StreamFault.TheVariants.{Stream, Plan, NoMemory}
use Rattle.stream_session.specs.Number.{hashed, session_number}
use Rattle.stream_session.specs.Planning.{HasPlanned}
use Rattle.stream_session.specs.Passing.{IsLive, HasPassed, IsPlanIn, IsPlanBy, IsPlanFault, IsStreamFaultIn}
use Rattle.packet_frame.specs.declared.format.Format.{Format}

-- a refusal stays
pub stays_refused : (o : Option Scan) (A B : Type 0) (stream portion : List ℕ) → is_some o ≡ true
    → MatchOption o A (λ scan. (rest : List ℕ) → Refuses (stream ++ rest) scan)
    → MatchOption o B (λ scan. (rest : List ℕ) → Refuses (stream ++ portion ++ rest) scan)
stays_refused None A B stream portion is passed = absurd cc
stays_refused (Some scan) A B stream portion is passed = λ rest. subst (λ (s : List ℕ). Refuses s scan)
    (sym (append_assoc stream portion rest)) (passed (portion ++ rest))

-- what was live
pub was_live : (o : Option Scan) (A : Type 0) (P : Scan → Type 0) → is_some o ≡ false → MatchOption o A P → A
was_live None A P is passed = passed
was_live (Some scan) A P is passed = absurd cc

pub stays_live : (o : Option Scan) (A : Type 0) (P : Scan → Type 0) → is_some o ≡ false → A → MatchOption o A P
stays_live None A P is live = live
stays_live (Some scan) A P is live = absurd cc

added_to_none : (old new : List Piece) → old ≡ [] → added old new ≡ new
added_to_none old new e = ap (λ (xs : List Piece). added xs new) e

-- the pass has read one portion more, which refuses nothing: its pieces went to the planner, and its bytes to the
-- hasher
pub passed_more : (pass again : Pass) (priority : Priorities) (file stream portion : List ℕ)
    (pieces handed : List Piece) → is_some pass.refused ≡ false → again.refused ≡ pass.refused
    → handed ≡ pieces → HasPassed pass priority file stream
    → ((s : List ℕ) (given : List Piece) → HasRead pass.scanner s given
    → HasRead again.scanner (s ++ portion) (given ++ added pass.pieces.items pieces))
    → ((p : Priorities) (given : List Piece) → HasPlanned pass.planner p given
    → HasPlanned again.planner p (given ++ handed))
    → ((m : List ℕ) → Holds256 pass.hasher m → Holds256 again.hasher (m ++ portion)) → again.pieces.items ≡ []
    → HasPassed again priority file (stream ++ portion)
passed_more pass again priority file stream portion pieces handed is same all passed scanned planned hashes empty =
    let live = was_live pass.refused (IsLive pass priority file stream) _ is passed in
    stays_live again.refused (IsLive again priority file (stream ++ portion)) _ (ap is_some same ∙ is) (record {
      given = live.given ++ pieces;
      scanned =
          subst (λ (a : List Piece). HasRead again.scanner (stream ++ portion) (live.given ++ a))
          (added_to_none pass.pieces.items pieces live.empty) (scanned stream live.given live.scanned);
      planned =
          subst (λ (xs : List Piece). HasPlanned again.planner priority (live.given ++ xs)) all
          (planned priority live.given live.planned);
      hashed =
          subst (λ (m : List ℕ). Holds256 again.hasher m)
          (append_assoc (to_be_bytes w32 (length file) ++ file) stream portion)
          (hashes (hashed file stream) live.hashed);
      empty = empty;
    })

-- the refusal that a portion decides
pub passed_refusing : (pass : Pass) (scan : Scan) (priority : Priorities) (file stream portion : List ℕ)
    → is_some pass.refused ≡ false → HasPassed pass priority file stream
    → ((s : List ℕ) (given : List Piece) → HasRead pass.scanner s given → (rest : List ℕ)
    → Refuses (s ++ portion ++ rest) scan)
    → (rest : List ℕ) → Refuses (stream ++ portion ++ rest) scan
passed_refusing pass scan priority file stream portion is passed refuses rest =
    let live = was_live pass.refused (IsLive pass priority file stream) _ is passed in
    refuses stream live.given live.scanned rest

some_same : {A : Type 0} (x y : A) → Some x ≡ Some y → x ≡ y
some_same x y e = cc

refused_at : (o : Option Scan) (scan : Scan) (A : Type 0) (stream : List ℕ) → o ≡ Some scan
    → MatchOption o A (λ s. (rest : List ℕ) → Refuses (stream ++ rest) s)
    → (rest : List ℕ) → Refuses (stream ++ rest) scan
refused_at None scan A stream e passed = absurd cc
refused_at (Some other) scan A stream e passed = λ rest. subst (λ (s : Scan). Refuses (stream ++ rest) s)
    (some_same other scan e) (passed rest)

-- a stream that was refused before its end
pub finish_refused : (pass : Pass) (scan : Scan) (priority : Priorities) (file stream : List ℕ)
    → pass.refused ≡ Some scan → HasPassed pass priority file stream
    → Refuses stream scan × (max_stream < length stream → (rest : List ℕ) → Refuses (stream ++ rest) scan)
finish_refused pass scan priority file stream e passed =
    let all = refused_at pass.refused scan (IsLive pass priority file stream) stream e passed in
    (subst (λ (s : List ℕ). Refuses s scan) (append-nil stream) (all []), λ _. all)

live_at : (o : Option Scan) (A : Type 0) (P : Scan → Type 0) → ((scan : Scan) → o ≡ Some scan → ⊥) → MatchOption o A P
    → A
live_at None A P none passed = passed
live_at (Some scan) A P none passed = absurd (none scan refl)

-- a stream that its end refuses, which is not too long
pub end_refused : (pass : Pass) (scan : Scan) → ((scan : Scan) → pass.refused ≡ Some scan → ⊥)
    → ((stream : List ℕ) (given : List Piece) → HasRead pass.scanner stream given → Refuses stream scan)
    → (priority : Priorities) (file stream : List ℕ) → HasPassed pass priority file stream → IsRefusal stream scan
end_refused pass scan none refuses priority file stream passed =
    let live = live_at pass.refused (IsLive pass priority file stream) _ none passed in
    let few = live.scanned.bounded in
    (refuses stream live.given live.scanned, λ lt. absurd (omega (arith, lt)))

-- the plan of all pieces is that of the stream
plan_of_stream : (t : Format) (limit : ℕ) (pass : Pass) (plan : SessionPlan) (priority : Priorities) (file stream : List ℕ)
    (pieces last : List Piece) (live : IsLive pass priority file stream) → last ≡ pieces
    → IsAccepted stream × (live.given ++ added pass.pieces.items pieces ≡ pieces_of stream)
    → IsPlanBy t limit plan priority (live.given ++ last) (hashed file stream) → IsPlanIn t limit plan priority file stream
unfolding session_number
plan_of_stream t limit pass plan priority file stream pieces last live same accepted by =
    let e : live.given ++ last ≡ pieces_of stream =
    ap (λ (xs : List Piece). live.given ++ xs) (same ∙ sym (added_to_none pass.pieces.items pieces live.empty))
    ∙ accepted.1 in
    let of = subst (λ (xs : List Piece). IsPlanBy t limit plan priority xs (hashed file stream)) e by in
    record { accepted = accepted.0; fits = of.fits; number = of.number; tables = of.tables }

pub finish_plan : (t : Format) (limit : ℕ) (pass : Pass) (result : Result SessionPlan StreamFault) (pieces last : List Piece)
    → ((scan : Scan) → pass.refused ≡ Some scan → ⊥) → last ≡ pieces
    → ((stream : List ℕ) (given : List Piece) → HasRead pass.scanner stream given
    → IsAccepted stream × (given ++ added pass.pieces.items pieces ≡ pieces_of stream))
    → IfOk result (λ plan. (priority : Priorities) (given : List Piece) (message : List ℕ)
    → HasPlanned pass.planner priority given → Holds256 pass.hasher message
    → IsPlanBy t limit plan priority (given ++ last) message)
    → IfOk result (λ plan. (priority : Priorities) (file stream : List ℕ) → HasPassed pass priority file stream
    → IsPlanIn t limit plan priority file stream)
finish_plan t limit pass (Err fault) pieces last none same accepted by = tt
finish_plan t limit pass (Ok plan) pieces last none same accepted by = λ priority file stream passed.
    let live = live_at pass.refused (IsLive pass priority file stream) _ none passed in
    plan_of_stream t limit pass plan priority file stream pieces last live same (accepted stream live.given live.scanned)
    (by priority live.given (hashed file stream) live.planned live.hashed)

fault_of_stream : (t : Format) (limit : ℕ) (priority : Priorities) (stream : List ℕ) (fault : StreamFault) → IsAccepted stream
    → IsPlanFault t limit priority (pieces_of stream) fault → IsStreamFaultIn t limit priority stream fault
fault_of_stream t limit priority stream (Stream scan) accepted why = absurd why
fault_of_stream t limit priority stream (Plan fault) accepted why = (accepted, why.0, why.1)
fault_of_stream t limit priority stream NoMemory accepted why = tt

pub finish_fault : (t : Format) (limit : ℕ) (pass : Pass) (result : Result SessionPlan StreamFault) (pieces last : List Piece)
    → ((scan : Scan) → pass.refused ≡ Some scan → ⊥) → last ≡ pieces
    → ((stream : List ℕ) (given : List Piece) → HasRead pass.scanner stream given
    → IsAccepted stream × (given ++ added pass.pieces.items pieces ≡ pieces_of stream))
    → IfErr result (λ fault. (priority : Priorities) (given : List Piece) → HasPlanned pass.planner priority given
    → IsPlanFault t limit priority (given ++ last) fault)
    → IfErr result (λ fault. (priority : Priorities) (file stream : List ℕ) → HasPassed pass priority file stream
    → IsStreamFaultIn t limit priority stream fault)
finish_fault t limit pass (Ok plan) pieces last none same accepted why = tt
finish_fault t limit pass (Err fault) pieces last none same accepted why = λ priority file stream passed.
    let live = live_at pass.refused (IsLive pass priority file stream) _ none passed in
    let all = accepted stream live.given live.scanned in
    let e : live.given ++ last ≡ pieces_of stream =
    ap (λ (xs : List Piece). live.given ++ xs) (same ∙ sym (added_to_none pass.pieces.items pieces live.empty))
    ∙ all.1 in
    fault_of_stream t limit priority stream fault all.0
    (subst (λ (xs : List Piece). IsPlanFault t limit priority xs fault) e (why priority live.given live.planned))
