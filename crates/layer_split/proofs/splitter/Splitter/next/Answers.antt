-- Each way through, by its lemma.
use Rattle.std.proofs.Common.{◌+◌, ◌∙◌, ◌||◌, ◌==◌, [], true, false, Some, sym, ap, subst, arith}
use Rattle.std.proofs.lemmas.Result.{err_from_is_err_and}
use Rattle.priority_file.specs.Priority.{layer_of}
use Rattle.layer_split.specs.Splitting.{AreOf}
use Rattle.layer_split.proofs.Adding.{added_stays, added_begins, refuses_long, refuses_many, last_too_long}
use Rattle.layer_split.proofs.Adding.{last_allowed, begins_last}
use Rattle.layer_split.proofs.splitter.Splitter.next.Goals as goal

pub returns-in_err-cut-clause-refusal : goal.returns-in_err-cut-clause-refusal
returns-in_err-cut-clause-refusal c =
    let p = err_from_is_err_and c.from_residual.result c.from_residual.ensures.1 in
    rw (p.1, p.2) (λ ne priority pieces cuts h later.
    refuses_long c.args.self.now priority pieces cuts c.args.piece.now h
    (sym c.begins_group.ensures ∙ c.if-begins_group.true)
    (c.in_err-cut.ensures.long.1 priority h.current h.layers h.held) later
    ∙ ap Some (sym c.in_err-cut.ensures.long.0))

pub returns-in_err-cut-clause-last : goal.returns-in_err-cut-clause-last
returns-in_err-cut-clause-last c =
    let p = err_from_is_err_and c.from_residual.result c.from_residual.ensures.1 in
    rw (p.1, p.2) (λ ne priority pieces cuts h.
    last_too_long c.args.self.now priority pieces cuts c.args.piece.now h
    (sym c.begins_group.ensures ∙ c.if-begins_group.true)
    (c.in_err-cut.ensures.long.1 priority h.current h.layers h.held))

pub returns-then-self-clause-refusal : goal.returns-then-self-clause-refusal
returns-then-self-clause-refusal c ne priority pieces cuts h later =
    let same = c.end_group.ensures.rest.group in
    refuses_many c.args.self.now priority pieces cuts c.args.piece.now h
    (sym c.begins_group.ensures ∙ c.if-begins_group.true)
    (c.in_ok-cut.ensures.cut priority h.current h.layers h.held).1 (omega arith) later

pub returns-then-self-clause-last : goal.returns-then-self-clause-last
returns-then-self-clause-last c ne priority pieces cuts h =
    let same = c.end_group.ensures.rest.group in
    last_allowed c.args.self.now priority pieces cuts c.args.piece.now h
    (sym c.begins_group.ensures ∙ c.if-begins_group.true) (omega arith)

pub returns-then-begins_group-clause-ok : goal.returns-then-begins_group-clause-ok
returns-then-begins_group-clause-ok c priority pieces cuts h =
    let ended = c.in_ok-cut.ensures.cut priority h.current h.layers h.held in
    let first = c.end_group.ensures.rest in
    let then = c.take.ensures.rest in
    let same = first.group in
    let layers = subst (λ l. AreOf l priority) (sym first.layers) h.layers in
    added_begins c.args.self.now c.take.new.self priority pieces cuts c.args.piece.now c.in_ok-cut.cut h
    (sym c.begins_group.ensures ∙ c.if-begins_group.true)
    ended.0 ended.1 (omega arith) (then.layers ∙ first.layers) (then.group ∙ ap (λ n. n + 1) first.group)
    (then.refused ∙ first.refused) then.has_picture
    (c.in_ok-take.ensures.held priority [] layers (c.in_ok-cut.ensures.held (layer_of priority)))

pub returns-then-begins_group-clause-begins : goal.returns-then-begins_group-clause-begins
returns-then-begins_group-clause-begins c priority pieces cuts h =
    begins_last c.args.self.now priority pieces cuts c.args.piece.now true h
    (sym c.begins_group.ensures ∙ c.if-begins_group.true)

pub returns-clause-ok : goal.returns-clause-ok
returns-clause-ok c priority pieces cuts h =
    let rest = c.take-2.ensures.rest in
    added_stays c.args.self.now
    (record c.take-2.new.self { has_picture = c.has_picture_with-self.result }) priority pieces cuts c.args.piece.now h
    (sym c.begins_group.ensures ∙ c.if-begins_group.false) rest.layers rest.group rest.refused
    (c.has_picture_with-self.ensures ∙ ap (λ k. k || c.args.piece.now.code == 0) rest.has_picture)
    (c.in_ok-take-2.ensures.held priority h.current h.layers h.held)

pub returns-clause-begins : goal.returns-clause-begins
returns-clause-begins c priority pieces cuts h =
    begins_last c.args.self.now priority pieces cuts c.args.piece.now false h
    (sym c.begins_group.ensures ∙ c.if-begins_group.false)
