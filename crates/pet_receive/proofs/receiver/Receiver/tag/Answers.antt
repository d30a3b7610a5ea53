use Rattle.std.proofs.Common.{ap, ◌∙◌}
use Rattle.pet_receive.specs.Arrivals.{ReceiverState, kept_set}
use Rattle.pet_receive.specs.Tags.{kept_tag}
use Rattle.pet_receive.proofs.receiver.Receiver.tag.Goals as goal

pub returns : goal.returns
returns g c =
    c.tag.ensures
    ∙ ap (λ (v : ReceiverState g.row.F-Elem.Denot). kept_tag (kept_set v) c.args.group c.args.number) c.self.view_is
