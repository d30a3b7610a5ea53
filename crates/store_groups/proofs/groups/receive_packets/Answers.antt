use Rattle.store_groups.proofs.KeptPackets.{read_is, only_memory}
use Rattle.store_groups.proofs.groups.receive_packets.Goals as goal
use Rattle.pet_receive.specs.Arrivals.{kept_set}

pub returns-in-Ok-clause-kept : goal.returns-in-Ok-clause-kept
returns-in-Ok-clause-kept g c set are most =
    read_is c.args.packets.now set (kept_set c.take_entries.new.receiver) (kept_set c.new-receiver.result) c.args.limit
    are most c.new-receiver.ensures.empty c.in-Ok.ensures.read

pub want_of_memory-requires : goal.want_of_memory-requires
want_of_memory-requires g c =
    only_memory c.args.packets.now c.requires.packets.0 (kept_set c.new-receiver.result) c.args.limit c.in-Err.fault
    c.requires.packets.1 c.requires.packets.2 c.new-receiver.ensures.empty c.in-Err.ensures.refused
