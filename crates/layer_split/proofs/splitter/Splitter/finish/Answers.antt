-- No piece, or a last group.
use Rattle.std.proofs.Common.{◌≡◌, ◌∙◌, Some, None, refl, sym, ap}
use Rattle.std.proofs.lemmas.Bool.{iff_false}
use Rattle.priority_file.specs.Priority.{layer_of}
use Rattle.layer_split.specs.Layers.{Cut}
use Rattle.layer_split.proofs.Adding.{ends_none, ends_cut, ends_long, some_piece}
use Rattle.layer_split.proofs.splitter.Splitter.finish.Goals as goal

not_none : (cut : Cut) → Some cut ≡ None → ⊥
not_none cut e = cc

pub returns-then-is_empty-clause-ok : goal.returns-then-is_empty-clause-ok
returns-then-is_empty-clause-ok c priority pieces cuts h =
    ends_none c.args.self.now priority pieces cuts h
    ((c.is_empty.ensures (layer_of priority) h.current h.held).0 c.if-is_empty.true)

pub returns-then-is_empty-clause-none : goal.returns-then-is_empty-clause-none
returns-then-is_empty-clause-none c priority pieces cuts h =
    (λ _. h.fresh ((c.is_empty.ensures (layer_of priority) h.current h.held).0 c.if-is_empty.true), λ _. refl)

pub returns-in-Ok-clause-ok : goal.returns-in-Ok-clause-ok
returns-in-Ok-clause-ok c priority pieces cuts h =
    let ended = c.in-Ok.ensures.cut priority h.current h.layers h.held in
    ends_cut c.args.self.now priority pieces cuts c.in-Ok.cut h
    (iff_false (c.is_empty.ensures (layer_of priority) h.current h.held) c.if-is_empty.false) ended.0 ended.1

pub returns-in-Ok-clause-none : goal.returns-in-Ok-clause-none
returns-in-Ok-clause-none c priority pieces cuts h = (
  λ e. absurd (not_none c.in-Ok.cut e),
  λ e. absurd (some_piece c.args.self.now priority pieces cuts h
      (iff_false (c.is_empty.ensures (layer_of priority) h.current h.held) c.if-is_empty.false) e),
)

pub returns-in-Err-clause-refusal : goal.returns-in-Err-clause-refusal
returns-in-Err-clause-refusal c priority pieces cuts h =
    ends_long c.args.self.now priority pieces cuts h
    (iff_false (c.is_empty.ensures (layer_of priority) h.current h.held) c.if-is_empty.false)
    (c.in-Err.ensures.long.1 priority h.current h.layers h.held)
    ∙ ap Some (sym c.in-Err.ensures.long.0)
