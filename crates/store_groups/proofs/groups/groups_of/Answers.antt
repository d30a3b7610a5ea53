use Rattle.std.proofs.Common.{sym, ◌∙◌}
use Rattle.store_groups.proofs.KeptPackets.{first_tells, none_tell}
use Rattle.store_groups.proofs.groups.groups_of.Goals as goal

pub told_in-requires : goal.told_in-requires
told_in-requires c = record {
  frame =
      (first_tells c.args.packets.now c.requires.packets.0 c.in-Some.datagram.now c.requires.packets.1 c.in-Some.ensures.whole
      c.in-Some.ensures.datagram).0;
}

pub returns-in-Some : goal.returns-in-Some
returns-in-Some c = record {
  told =
      λ set are.
      c.told_in.ensures ∙ (first_tells c.args.packets.now set c.in-Some.datagram.now are c.in-Some.ensures.whole
      c.in-Some.ensures.datagram).1;
}

pub returns-in-None : goal.returns-in-None
returns-in-None c = record { told = λ set are. sym (none_tell c.args.packets.now set are c.in-None.ensures.whole) }
