use Rattle.std.proofs.Common.{◌∙◌}
use Rattle.pet_text.specs.laws.ToldLaws.{tells_so}
use Rattle.pet_keep.specs.declared.status.KeepStatus.TheVariants.{OutFault}
use Rattle.pet_base.specs.Lent.{seen}
use Rattle.pet_keep.specs.Journaled.{uncounted}
use Rattle.pet_keep.specs.Statuses.{fault_text, line_of, status_of}
use Rattle.pet_keep.proofs.Uncounted.{told}
use Rattle.pet_keep.proofs.command.keep_words.Goals as goal

pub returns-clause-does : goal.returns-clause-does
returns-clause-does g c =
    let end = c.end_of_words-end in
    let status = c.tell_end-status in
    let now = seen c.put_line.new.outside in
    end.ensures.does (uncounted now) status.result
    (told (line_of end.result.0) (status_of end.result.0) (seen end.new.outside) now status.result
    (tells_so fault_text OutFault status.ensures.only status.ensures.line
    (c.as_slice.ensures.value ∙ c.fault_line.ensures) c.put_line.ensures.prints))
