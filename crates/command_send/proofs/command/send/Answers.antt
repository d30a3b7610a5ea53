use Rattle.field_elements.specs.Gf16.{gf16_coding}
use Rattle.packet_frame.specs.declared.format.TheConstants.{FORMAT}
use Rattle.pet_base.specs.Lent.{seen}
use Rattle.outside_routes.specs.Way.{way_of}
use Rattle.command_send.specs.laws.EndLaws.{nothing_sent, sends_session}
use Rattle.command_send.proofs.command.send.Goals as goal

pub returns-in-Err-clause-sends : goal.returns-in-Err-clause-sends
returns-in-Err-clause-sends g c =
    nothing_sent FORMAT gf16_coding c.args.stream.now c.args.priority.now (way_of c.args.to) (seen c.args.outside.now)

pub returns-in-Err-clause-completes : goal.returns-in-Err-clause-completes
returns-in-Err-clause-completes g c =
    sends_session c.args.stream.now c.args.priority.now (way_of c.args.to) _ _ _ (returns-in-Err-clause-sends g c)
