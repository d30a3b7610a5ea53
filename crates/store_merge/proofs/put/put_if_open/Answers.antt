use Rattle.std.proofs.Common.{List, refl, sym, subst}
use Rattle.outside_files.specs.Outputs.{Puts}
use Rattle.outside_files.specs.laws.OutputLaws.{puts_nothing}
use Rattle.packet_frame.specs.Frame.{Fields}
use Rattle.packet_session.specs.Datagrams.{entries_text}
use Rattle.packet_verdicts.specs.KeptSet.{open_group}
use Rattle.pet_receive.specs.Arrivals.{kept_set}
use Rattle.store_text.specs.laws.PuttingLaws.{Hashes, hashes_nothing}
use Rattle.store_merge.proofs.Putting.{no_group}
use Rattle.store_merge.proofs.put.put_if_open.Goals as goal

pub returns-in-None-clause-puts : goal.returns-in-None-clause-puts
returns-in-None-clause-puts g c =
    let s = g.P.Place.seen c.args.place.now in
    subst (λ (fs : List Fields). Puts (entries_text fs) s s)
    (sym (no_group (open_group (kept_set c.args.receiver.now) c.args.group) c.in-None.ensures)) (puts_nothing s s refl)

pub returns-in-None-clause-hashed : goal.returns-in-None-clause-hashed
returns-in-None-clause-hashed g c =
    subst (λ (fs : List Fields). Hashes (entries_text fs) c.args.hasher.now c.args.hasher.now)
    (sym (no_group (open_group (kept_set c.args.receiver.now) c.args.group) c.in-None.ensures))
    (hashes_nothing c.args.hasher.now)
