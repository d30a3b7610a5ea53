-- Each way out, by the lemma of its case.
use Rattle.std.proofs.Common.{◌≡◌, ◌<◌, ◌≤◌, ℕ, true, false, sym, ◌∙◌, subst, arith, inl, inr}
use Rattle.std.proofs.lemmas.Bool.{iff_false, cases_lt}
use Rattle.mpeg_scan.specs.StartCodes.{is_type}
use Rattle.mpeg_scan.proofs.Reading.{system_by, none_in_piece_by, no_type_at_code, head_by, no_head_by, type_by}
use Rattle.mpeg_scan.proofs.Reading.{front_none_by, front_no_head_by}
use Rattle.mpeg_scan.proofs.scanner.Scanner.refusal_by.Goals as goal

below : {x : ℕ} → (0xB9 ≤ x → ⊥) → x < 0xB9
below {x} h = elim (cases_lt x 0xB9) [ inl lt ↦ lt | inr ge ↦ absurd (h ge) ]

pub returns-then-is_system_code-clause-decides : goal.returns-then-is_system_code-clause-decides
returns-then-is_system_code-clause-decides c =
    rw c.saturating_sub.ensures (system_by c.args.self.now c.args.byte (omega arith)
    (c.is_at_code.ensures.0 c.if-is_at_code.true) (c.is_system_code.ensures.0 c.if-is_system_code.true))

pub returns-then-self-clause-decides : goal.returns-then-self-clause-decides
returns-then-self-clause-decides c =
    let fields = c.is_at_code.ensures.0 c.if-is_at_code.true in
    none_in_piece_by c.args.self.now c.args.byte (omega arith) c.if-self.true
    (λ _. below (iff_false c.is_system_code.ensures c.if-is_system_code.false))
    (λ h. absurd (no_type_at_code c.args.self.now fields h))

pub returns-then-is_head_code-clause-decides : goal.returns-then-is_head_code-clause-decides
returns-then-is_head_code-clause-decides c =
    head_by c.args.self.now c.args.byte (omega arith) c.if-self.false (c.is_at_code.ensures.0 c.if-is_at_code.true)
    (below (iff_false c.is_system_code.ensures c.if-is_system_code.false))
    (sym c.is_head_code.ensures ∙ c.if-is_head_code.true)

pub returns-then-is_at_code-clause-decides : goal.returns-then-is_at_code-clause-decides
returns-then-is_at_code-clause-decides c =
    rw c.saturating_sub-then-is_at_code.ensures
    (no_head_by c.args.self.now c.args.byte (omega arith) c.if-self.false (c.is_at_code.ensures.0 c.if-is_at_code.true)
    (below (iff_false c.is_system_code.ensures c.if-is_system_code.false))
    (sym c.is_head_code.ensures ∙ c.if-is_head_code.false))

pub returns-then-is_picture_type-clause-decides : goal.returns-then-is_picture_type-clause-decides
returns-then-is_picture_type-clause-decides c =
    none_in_piece_by c.args.self.now c.args.byte (omega arith) c.if-self-2.true
    (λ h. absurd (iff_false c.is_at_code.ensures c.if-is_at_code.false h))
    (λ _. subst (λ t. is_type t ≡ true) c.type_of-picture_type.ensures
    (sym c.is_picture_type.ensures ∙ c.if-is_picture_type.true))

pub returns-then-is_at_type-clause-decides : goal.returns-then-is_at_type-clause-decides
returns-then-is_at_type-clause-decides c =
    rw (c.saturating_sub-then-is_at_type.ensures, c.type_of-picture_type.ensures)
    (type_by c.args.self.now c.args.byte (omega arith) c.if-self-2.true (c.is_at_type.ensures.0 c.if-is_at_type.true)
    (subst (λ t. is_type t ≡ false) c.type_of-picture_type.ensures
    (sym c.is_picture_type.ensures ∙ c.if-is_picture_type.false)))

pub returns-then-self-2-clause-decides : goal.returns-then-self-2-clause-decides
returns-then-self-2-clause-decides c =
    none_in_piece_by c.args.self.now c.args.byte (omega arith) c.if-self-2.true
    (λ h. absurd (iff_false c.is_at_code.ensures c.if-is_at_code.false h))
    (λ h. absurd (iff_false c.is_at_type.ensures c.if-is_at_type.false h))

pub returns-then-byte-eq0-clause-decides : goal.returns-then-byte-eq0-clause-decides
returns-then-byte-eq0-clause-decides c =
    front_none_by c.args.self.now c.args.byte (omega arith) c.if-self-2.false
    (iff_false c.is_at_code.ensures c.if-is_at_code.false) (λ ne. absurd (ne c.if-byte-eq0.true))

pub returns-then-self-ge2-clause-decides : goal.returns-then-self-ge2-clause-decides
returns-then-self-ge2-clause-decides c =
    front_none_by c.args.self.now c.args.byte (omega arith) c.if-self-2.false
    (iff_false c.is_at_code.ensures c.if-is_at_code.false) (λ _. (c.if-byte-eq1.true, omega arith))

pub returns-then-byte-eq1-clause-decides : goal.returns-then-byte-eq1-clause-decides
returns-then-byte-eq1-clause-decides c =
    front_no_head_by c.args.self.now c.args.byte (omega arith) c.if-self-2.false
    (iff_false c.is_at_code.ensures c.if-is_at_code.false) (λ e. omega arith) (inl (omega arith))

pub returns-clause-decides : goal.returns-clause-decides
returns-clause-decides c =
    front_no_head_by c.args.self.now c.args.byte (omega arith) c.if-self-2.false
    (iff_false c.is_at_code.ensures c.if-is_at_code.false) (λ e. omega arith) (inr (λ e. omega arith))
