use Rattle.std.proofs.Common.{◌++◌, List, All, sym, ap, subst, ◌∙◌, arith}
use Rattle.std.specs.List.{flat_map}
use Rattle.outside_files.specs.laws.OutputLaws.{on_ok}
use Rattle.pet_base.specs.declared.event.Shown.{Shown}
use Rattle.command_replay.specs.ReplayText.{layer_line}
use Rattle.command_replay.specs.inside.Playing.{IsShownIn, session_in}
use Rattle.command_replay.proofs.PlayedEvents.{many_same, all_shown, played}
use Rattle.command_replay.proofs.playing.play_event.Goals as goal

pub append_layers-requires-clause-few : goal.append_layers-requires-clause-few
append_layers-requires-clause-few g c =
    omega (
      arith,
      many_same c.args.world.now c.step.new.self c.args.event c.in-Ok.shown.items c.in-Ok.ensures.stepped
          c.requires.met.0 c.requires.met.1 c.requires.known,
      c.requires.few,
    )

pub append_layers-requires-clause-shown : goal.append_layers-requires-clause-shown
append_layers-requires-clause-shown g c =
    subst (λ (xs : List Shown). All (IsShownIn c.step.new.self) xs) (sym c.deref.ensures.value)
    (all_shown c.args.world.now c.step.new.self c.args.event c.in-Ok.shown.items c.in-Ok.ensures.stepped
    c.requires.met.0 c.requires.met.1 c.requires.known)

pub returns-in-Ok : goal.returns-in-Ok
returns-in-Ok g c = record {
  played =
      on_ok c.append_layers.result
      (λ grown.
      played c.args.world.now c.step.new.self c.args.event c.in-Ok.shown.items c.in-Ok.ensures.stepped
      c.requires.met.0 c.requires.met.1 c.requires.known c.args.number c.args.text.now.items
      c.append_layers.new.text.items
      (grown
      ∙ ap (λ (xs : List Shown). c.args.text.now.items
      ++ flat_map (layer_line (session_in c.step.new.self) c.args.number) xs) c.deref.ensures.value))
      c.append_layers.ensures.lines;
}
