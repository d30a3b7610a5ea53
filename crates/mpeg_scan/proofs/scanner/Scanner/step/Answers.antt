-- Each way through, by its lemma.
use Rattle.std.proofs.Common.{◌≡◌, ◌++◌, ◌∷◌, [], refl, sym, ◌∙◌, ap, subst, true, not, ◌-◌}
use Rattle.std.specs.Prelude.{is_ok}
use Rattle.std.proofs.lemmas.Bool.{iff_false, cond-true}
use Rattle.mpeg_scan.specs.Pieces.{kind_of_type}
use Rattle.mpeg_scan.specs.Scanning.{HasRead, HasStopped}
use Rattle.mpeg_scan.proofs.Appended.{added_by, added_none}
use Rattle.mpeg_scan.proofs.Reading.{no_type_at_code}
use Rattle.mpeg_scan.proofs.Stopping.{stopped_by}
use Rattle.mpeg_scan.proofs.Stepping.{follows, begins, plain, typed}
use Rattle.mpeg_scan.proofs.scanner.Scanner.step.Goals as goal

pub returns-in-Some-clause-refusal : goal.returns-in-Some-clause-refusal
returns-in-Some-clause-refusal c _ s g r rest = (c.in-Some.ensures.decides s g r rest).0

pub returns-in-Some-clause-stopped : goal.returns-in-Some-clause-stopped
returns-in-Some-clause-stopped c _ s g r =
    subst (HasStopped (s ++ c.args.byte ∷ []) c.in-Some.scan) (sym (added_none c.args.pieces.now.items g))
    (stopped_by c.args.self.now s c.args.byte c.in-Some.scan g r (c.in-Some.ensures.decides s g r))

pub returns-then-self-clause-ok : goal.returns-then-self-clause-ok
returns-then-self-clause-ok c s g r =
    let ok : is_ok c.push.result ≡ true = c.is_err.ensures.negation ∙ ap not c.if-is_err.false in
    let more = added_by c.args.pieces.now.items c.push.new.self.items (c.piece_to.result ∷ [])
    (c.push.ensures.items
    ∙ cond-true (is_ok c.push.result) (c.args.pieces.now.items ++ c.piece_to.result ∷ []) c.args.pieces.now.items ok) in
    let ended = c.piece_to.ensures
    ∙ ap (λ to. record {
      kind = c.args.self.now.kind;
      code = c.args.self.now.code;
      at = c.args.self.now.from;
      len = to - c.args.self.now.from;
    }) c.saturating_sub-opener.ensures in
    subst (λ l. HasRead c.advance.new.self (s ++ c.args.byte ∷ []) (g ++ l)) (sym (more ∙ ap (λ p. p ∷ []) ended))
    (follows c.args.self.now _ c.advance.new.self c.args.byte c.in_default.ensures.decides
    (record { at = refl; refused = refl; back1 = refl; back2 = refl; back3 = refl; back4 = refl })
    c.advance.ensures c.if-self.true (c.is_at_code.ensures.0 c.if-is_at_code.true)
    (sym c.is_opener_code.ensures ∙ c.if-is_opener_code.true)
    c.if-self.true c.saturating_sub-opener.ensures refl refl s g r)

pub returns-then-is_opener_code-clause-ok : goal.returns-then-is_opener_code-clause-ok
returns-then-is_opener_code-clause-ok c s g r =
    subst (HasRead c.advance-then-is_opener_code.new.self (s ++ c.args.byte ∷ []))
    (sym (added_none c.args.pieces.now.items g))
    (begins c.args.self.now _ c.advance-then-is_opener_code.new.self c.args.byte c.in_default.ensures.decides
    (record { at = refl; refused = refl; back1 = refl; back2 = refl; back3 = refl; back4 = refl })
    c.advance-then-is_opener_code.ensures c.if-self.false (c.is_at_code.ensures.0 c.if-is_at_code.true)
    (sym c.is_opener_code.ensures ∙ c.if-is_opener_code.true)
    refl refl refl refl s g r)

pub returns-then-is_at_code-clause-ok : goal.returns-then-is_at_code-clause-ok
returns-then-is_at_code-clause-ok c s g r =
    subst (HasRead c.advance-then-is_at_code.new.self (s ++ c.args.byte ∷ []))
    (sym (added_none c.args.pieces.now.items g))
    (plain c.args.self.now c.advance-then-is_at_code.new.self c.args.byte c.in_default.ensures.decides
    c.advance-then-is_at_code.ensures
    (λ _. sym c.is_opener_code.ensures ∙ c.if-is_opener_code.false)
    (no_type_at_code c.args.self.now (c.is_at_code.ensures.0 c.if-is_at_code.true)) s g r)

pub returns-then-is_at_type-clause-ok : goal.returns-then-is_at_type-clause-ok
returns-then-is_at_type-clause-ok c s g r =
    subst (HasRead c.advance-then-is_at_type.new.self (s ++ c.args.byte ∷ []))
    (sym (added_none c.args.pieces.now.items g))
    (typed c.args.self.now _ c.advance-then-is_at_type.new.self c.args.byte c.in_default.ensures.decides
    (record { at = refl; refused = refl; back1 = refl; back2 = refl; back3 = refl; back4 = refl })
    c.advance-then-is_at_type.ensures (c.is_at_type.ensures.0 c.if-is_at_type.true) refl refl refl
    (c.kind_of_type-self.ensures ∙ ap kind_of_type c.type_of.ensures) s g r)

pub returns-clause-ok : goal.returns-clause-ok
returns-clause-ok c s g r =
    subst (HasRead c.advance-2.new.self (s ++ c.args.byte ∷ [])) (sym (added_none c.args.pieces.now.items g))
    (plain c.args.self.now c.advance-2.new.self c.args.byte c.in_default.ensures.decides c.advance-2.ensures
    (λ h. absurd (iff_false c.is_at_code.ensures c.if-is_at_code.false h))
    (iff_false c.is_at_type.ensures c.if-is_at_type.false) s g r)
