use Rattle.std.proofs.Common.{◌≡◌, ◌+◌, ◌≤◌, length}
use Rattle.text_cuts.specs.Cuts.{lines_of}
use Rattle.text_script.specs.Script.{script_of, events_from, behind_events}
use Rattle.text_script.proofs.script.read_script.Given as goal

abbrev pub invariant-loop-rest : goal.invariant-loop-rest
invariant-loop-rest l = record {
  counted : l.number + length l.rest ≤ length l.bytes;
  events : script_of l.groups l.packets l.bytes
      ≡ behind_events l.events.items (events_from l.groups l.packets (l.number + 1) (lines_of l.rest));
}

abbrev pub decreases-loop-rest : goal.decreases-loop-rest
decreases-loop-rest l = length l.rest
