use Rattle.std.proofs.Common.{◌+◌, ◌∙◌, ℕ, List, arith, map, ap}
use Rattle.std.proofs.lemmas.Result.{err_from_is_err_and}
use Rattle.text_cuts.specs.Cuts.{lines_of}
use Rattle.text_plan.specs.PlanFile.{behind_lists, lists_from}
use Rattle.text_plan.proofs.Parts.{lists_begun, refused_at}
use Rattle.text_plan.proofs.plan_file.read_plan.Goals as goal

pub loop-rest-init : goal.loop-rest-init
loop-rest-init c = record {
  counted = omega arith;
  lists = rw c.new-lists.ensures.items (lists_begun c.args.bytes.now);
}

pub loop-rest-preserved : goal.loop-rest-preserved
loop-rest-preserved c =
    let before = map (λ list. list.items) c.loop-rest.lists.items in
    let number = c.loop-rest.number + 1 in
    record {
      counted = omega arith;
      lists =
          c.loop-rest.invariant.lists
          ∙ ap (λ (lines : List (List ℕ)). behind_lists before (lists_from number lines)) c.first_line.ensures.lines
          ∙ c.in_ok-read_line.ensures.ok (lists_from (number + 1) (lines_of c.first_line.result.1.now));
    }

pub returns-in_err-read_line-clause-refused : goal.returns-in_err-read_line-clause-refused
returns-in_err-read_line-clause-refused c =
    let p = err_from_is_err_and c.from_residual.result c.from_residual.ensures.1 in
    rw (p.1, p.2)
    (refused_at c.args.bytes.now (map (λ list. list.items) c.loop-rest.lists.items) c.loop-rest.number
    c.first_line.result.0.now c.loop-rest.rest.now c.first_line.result.1.now c.in_err-read_line.field-0.0
    c.loop-rest.invariant.lists c.first_line.ensures.lines c.in_err-read_line.ensures.refused)
