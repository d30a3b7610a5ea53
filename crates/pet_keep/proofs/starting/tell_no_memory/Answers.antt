use Rattle.std.proofs.Common.{◌∙◌}
use Rattle.pet_text.specs.laws.ToldLaws.{finds_no_memory}
use Rattle.pet_keep.specs.Statuses.{fault_text}
use Rattle.pet_keep.specs.declared.status.KeepStatus.TheVariants.{NoMemory}
use Rattle.pet_keep.proofs.starting.tell_no_memory.Goals as goal

pub returns : goal.returns
returns g c =
    finds_no_memory fault_text NoMemory c.as_slice.result.now c.new-out.result _ c.put.new.self _ c.put.result
    (c.as_slice.ensures.value ∙ c.fault_line.ensures) c.new-out.ensures c.into_writer.ensures c.put.ensures.written
    c.put.ensures.part c.put.ensures.cause
