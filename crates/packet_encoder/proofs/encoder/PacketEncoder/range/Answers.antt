use Rattle.packet_encoder.proofs.encoder.PacketEncoder.range.Goals as goal

pub returns-clause-ok : goal.returns-clause-ok
returns-clause-ok g c = c.frames.ensures.ok

pub returns-clause-ranges : goal.returns-clause-ranges
returns-clause-ranges g c = c.frames.ensures.ranges
