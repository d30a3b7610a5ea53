use Rattle.command_send.specs.Sends.{Sends}
use Rattle.pet_tool.specs.Commands.Streams.{line_of_send, status_of_send}
use Rattle.pet_tool.proofs.Ends.{runs_of_three}
use Rattle.pet_tool.proofs.Owed.Streams.{send_differs, send_agrees}
use Rattle.pet_tool.proofs.commands.streams.run_send.Goals as goal

pub returns-clause-ends : goal.returns-clause-ends
returns-clause-ends g c = record {
  does =
      runs_of_three line_of_send status_of_send send_agrees Sends _ _ c.send.result c.as_str-stream.ensures
      c.as_str-priority.ensures c.route-to.ensures c.send.ensures.sends c.send.ensures.once_place
      c.send.ensures.once_link;
}

pub send-requires : goal.send-requires
send-requires g c = record {
  differ =
      send_differs c.args.stream.now c.args.priority.now _ c.args.to.now _ c.requires.form c.as_str-stream.ensures
      c.route-to.ensures;
}
