-- A line that is read, one that is skipped, and one of another form.
use Rattle.std.proofs.Common.{List, ◌∷◌, [], map, Vec, Global, option_map, refl, sym, ap, ◌∙◌}
use Rattle.std.proofs.lemmas.List.{map-append}
use Rattle.text_plan.specs.declared.plan_file.Repeat.{Repeat}
use Rattle.text_plan.specs.PlanFile.{behind_lists}
use Rattle.text_plan.proofs.Parts.{line_skipped, line_read, line_refused}
use Rattle.text_plan.proofs.plan_file.read_line.Goals as goal

abbrev items_of : Vec Repeat Global → List Repeat
items_of list = list.items

pub returns-then-not-starts_with-clause-ok : goal.returns-then-not-starts_with-clause-ok
returns-then-not-starts_with-clause-ok c later =
    line_skipped (map (λ list. list.items) c.args.lists.now.items) c.args.number c.args.line.now later
    (sym c.starts_with.ensures.value ∙ c.if-not-starts_with.true)

pub returns-in_default-clause-refused : goal.returns-in_default-clause-refused
returns-in_default-clause-refused c other = (
  refl,
  λ later. line_refused c.args.number c.args.line.now later _
      (sym c.starts_with.ensures.value ∙ c.if-not-starts_with.false) c.in_ok-list.ensures
      (ap (option_map items_of) c.in_default.is),
)

pub returns-clause-ok : goal.returns-clause-ok
returns-clause-ok c later =
    let lists = c.args.lists.now.items in
    line_read (map items_of lists) c.args.number c.args.line.now later c.in-Some.list.items _
    (sym c.starts_with.ensures.value ∙ c.if-not-starts_with.false) c.in_ok-list.ensures
    (ap (option_map items_of) c.in-Some.is)
    ∙ ap (λ ls. behind_lists ls later)
    (sym (ap (map items_of) c.in_ok-push.ensures.items ∙ map-append items_of lists (c.in-Some.list ∷ [])))
