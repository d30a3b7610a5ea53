use Rattle.std.proofs.Common.{rules, arith}
use Rattle.packet_frame.specs.declared.format.TheConstants.{FORMAT}
use Rattle.packet_frame.specs.laws.Laws.{reads_heads_in}
use Rattle.store_groups.specs.inside.Groups.{groups_in}
use Rattle.store_groups.proofs.groups.told_in.Goals as goal

pub bounds-datagram-12 : goal.bounds-datagram-12
bounds-datagram-12 c = omega (arith, reads_heads_in FORMAT c.args.datagram.now c.requires.frame)

pub bounds-datagram : goal.bounds-datagram
bounds-datagram c = omega (arith, reads_heads_in FORMAT c.args.datagram.now c.requires.frame)

pub bounds-datagram-2 : goal.bounds-datagram-2
bounds-datagram-2 c = omega (arith, reads_heads_in FORMAT c.args.datagram.now c.requires.frame)

pub bounds-datagram-3 : goal.bounds-datagram-3
bounds-datagram-3 c = omega (arith, reads_heads_in FORMAT c.args.datagram.now c.requires.frame)

pub returns : goal.returns
unfolding groups_in
returns c = search rules
