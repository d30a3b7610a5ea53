-- Each way out, by the lemma of its case.
use Rattle.std.proofs.lemmas.Bool.{iff_false}
use Rattle.mpeg_scan.proofs.Ending.{ends_behind, ends_type, ends_well, ends_one, ends_zero}
use Rattle.mpeg_scan.proofs.scanner.Scanner.refusal_at_end.Goals as goal

pub returns-then-is_behind_picture : goal.returns-then-is_behind_picture
returns-then-is_behind_picture c =
    rw c.saturating_sub.ensures (ends_behind c.args.self.now c.if-self-eq0.false c.if-self.true
    (c.is_behind_picture.ensures.0 c.if-is_behind_picture.true))

pub returns-then-is_at_type : goal.returns-then-is_at_type
returns-then-is_at_type c =
    rw c.saturating_sub-then-is_at_type.ensures
    (ends_type c.args.self.now c.if-self-eq0.false c.if-self.true (c.is_at_type.ensures.0 c.if-is_at_type.true))

pub returns-then-self : goal.returns-then-self
returns-then-self c =
    ends_well c.args.self.now c.if-self-eq0.false c.if-self.true
    (iff_false c.is_behind_picture.ensures c.if-is_behind_picture.false)
    (iff_false c.is_at_type.ensures c.if-is_at_type.false)

pub returns-then-self-eq1 : goal.returns-then-self-eq1
returns-then-self-eq1 c =
    rw c.saturating_sub-then-self-eq1.ensures
    (ends_one c.args.self.now c.if-self-eq0.false c.if-self.false c.if-self-eq1.true)

pub returns : goal.returns
returns c = ends_zero c.args.self.now c.if-self-eq0.false c.if-self.false c.if-self-eq1.false
