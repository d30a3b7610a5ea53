-- What a command that has ended may be told to be. This project's own.
use Rattle.std.specs.Prelude.{Some}
use Rattle.pet_base.specs.OutsideSeen.{OutsideSeen}
use Rattle.pet_text.specs.declared.words.Command.{Command}
use Rattle.text_status.specs.declared.status.Status.{Status}
use Rattle.pet_tool.specs.declared.commands.End.{End}
use Rattle.pet_tool.specs.Commands.{line_of, status_of, Does}
use Rattle.pet_tool.specs.Told.{Tells}

-- whatever is then told of this end, a run of the command has done what it does
pub record EndsAs (command : Command) (before : OutsideSeen) (end : End) (between : OutsideSeen) : Type 0 where
  pub does : (told : OutsideSeen) (status : Status) → Tells (line_of end) (status_of end) between told status
      → Does (Some command) before told status
