use Rattle.std.proofs.Common.{◌≡◌, ◌≤◌, ◌++◌, take}
use Rattle.field_elements.specs.Gf16.{gf16_coding}
use Rattle.pet_world.specs.declared.world.TheConstants.{MAX_RECEIVERS}
use Rattle.pet_world.specs.ReceivedSets.{Sets}
use Rattle.pet_world.specs.World.{HaveMet}
use Rattle.command_replay.specs.ReplayText.{store_lines_from}
use Rattle.command_replay.specs.inside.Playing.{session_in}
use Rattle.command_replay.proofs.lines.append_stores.Given as goal

abbrev pub invariant-loop-number : goal.invariant-loop-number
invariant-loop-number l = record {
  few : l.number ≤ MAX_RECEIVERS;
  lines : (sets : Sets) → HaveMet gf16_coding l.world sets
      → l.text.items ≡ l.initial.text.items ++ store_lines_from (session_in l.world) 0 (take l.number sets);
}
