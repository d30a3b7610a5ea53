use Rattle.std.proofs.Common.{arith, rules}
use Rattle.pet_world.specs.ReceivedSets.{set_of}
use Rattle.command_replay.specs.inside.Playing.{session_in}
use Rattle.command_replay.proofs.LinesOfWorld.{store_more}
use Rattle.command_replay.proofs.lines.append_stores.Goals as goal

pub loop-number-preserved : goal.loop-number-preserved
loop-number-preserved c = record {
  few = search rules;
  lines =
      λ sets met.
      store_more (session_in c.args.world.now) sets c.loop-number.number c.args.text.now.items
      c.loop-number.text.items c.append_store.new.text.items
      (omega (arith, met.many, c.requires.many, c.loop-number-test.true))
      (c.loop-number.invariant.lines sets met)
      (c.in_ok-append_store.ensures.line (session_in c.args.world.now) c.args.world.now.limit
      (set_of sets c.loop-number.number) c.requires.session
      (met.each c.loop-number.number c.receiver_of.result.now c.receiver_of.ensures.receiver));
}
