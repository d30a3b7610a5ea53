use Rattle.std.proofs.Common.{ℕ, List, subst}
use Rattle.command_replay.specs.inside.Held.{held_session}
use Rattle.command_replay.specs.inside.Playing.{ArePlayed}
use Rattle.command_replay.proofs.PlayedEvents.{whole_text}
use Rattle.command_replay.proofs.playing.play.Goals as goal

pub returns : goal.returns
returns g c = record {
  text =
      whole_text (held_session c.args.whole) c.in_ok-world.world c.play_events.new.world c.args.events.now
      c.play_events.new.text.items c.append_stores.new.text.items c.in_ok-world.ensures.session
      c.in_ok-world.ensures.nothing
      (subst (λ (t : List ℕ). ArePlayed c.in_ok-world.world c.args.events.now t c.play_events.new.world
      c.play_events.new.text.items) c.new-text.ensures.items c.in_ok-play_events.ensures.played)
      c.in_ok-append_stores.ensures.lines;
}
