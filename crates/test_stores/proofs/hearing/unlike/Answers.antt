use Rattle.std.proofs.Common.{◌<◌}
use Rattle.field_elements.specs.Gf16.{gf16_coding}
use Rattle.pet_repair.specs.laws.RepairLaws.{opened_for}
use Rattle.test_stores.proofs.hearing.unlike.Goals as goal

pub first_unlike-requires : goal.first_unlike-requires
first_unlike-requires g c =
    let opened = opened_for (λ a. a < 65536) gf16_coding _ _ c.in-Ok.encoder c.groups.ensures.sound
    c.in-Ok.ensures.encoder in
    record { header = opened.header }
