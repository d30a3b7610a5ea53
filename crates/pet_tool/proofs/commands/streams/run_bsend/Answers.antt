use Rattle.command_send.specs.SendsBytes.{SendsBytes}
use Rattle.pet_tool.specs.Commands.Streams.{line_of_send, status_of_send}
use Rattle.pet_tool.proofs.Ends.{runs_of_three}
use Rattle.pet_tool.proofs.Owed.Streams.{bsend_differs, send_agrees}
use Rattle.pet_tool.proofs.commands.streams.run_bsend.Goals as goal

pub returns-clause-ends : goal.returns-clause-ends
returns-clause-ends g c = record {
  does =
      runs_of_three line_of_send status_of_send send_agrees SendsBytes _ _ c.bsend.result c.as_str-stream.ensures
      c.as_str-priority.ensures c.route-to.ensures c.bsend.ensures.sends c.bsend.ensures.once_place
      c.bsend.ensures.once_link;
}

pub bsend-requires : goal.bsend-requires
bsend-requires g c = record {
  differ =
      bsend_differs c.args.stream.now c.args.priority.now _ c.args.to.now _ c.requires.form c.as_str-stream.ensures
      c.route-to.ensures;
}
