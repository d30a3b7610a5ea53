use Rattle.pet_receive.specs.Arrivals.{kept_set}
use Rattle.packet_verdicts.specs.KeptSet.{open_group}
use Rattle.store_merge.proofs.Tagged.{told_tag}
use Rattle.store_merge.proofs.write.append_if_kept.Goals as goal

pub append_entry-requires-clause-tag : goal.append_entry-requires-clause-tag
append_entry-requires-clause-tag g c =
    told_tag (open_group (kept_set c.args.receiver.now) c.args.group) c.args.header.now c.args.number
    c.in-Some.payload.now c.tag-tag.result c.requires.header c.in-Some.ensures c.tag-tag.ensures
