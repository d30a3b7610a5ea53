use Rattle.std.proofs.Common.{◌∙◌}
use Rattle.pet_text.specs.laws.ToldLaws.{tells_so}
use Rattle.text_status.specs.Statuses.{fault_text}
use Rattle.text_status.specs.declared.status.Status.TheVariants.{OutFault}
use Rattle.pet_base.specs.Lent.{seen}
use Rattle.pet_tool.proofs.Telling.{usage_told}
use Rattle.pet_tool.proofs.top.run_words.Goals as goal

pub returns-clause-usage : goal.returns-clause-usage
returns-clause-usage g c =
    let told = usage_told c.end_of_words-end.result c.tell_end-status.result _ _ c.tell_end-status.ensures.line
    c.tell_end-status.ensures.known in
    let words = c.end_of_words-end.ensures.usage in
    (λ is. words.0 (told.0 is), λ none. told.1 (words.1 none))

pub returns-clause-does : goal.returns-clause-does
returns-clause-does g c =
    let end = c.tell_end-status in
    let now = seen c.put_line.new.outside in
    c.end_of_words-end.ensures.does now end.result
    (tells_so fault_text OutFault end.ensures.only end.ensures.line (c.as_slice.ensures.value ∙ c.fault_line.ensures)
    c.put_line.ensures.prints)
