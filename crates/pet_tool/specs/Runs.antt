-- How a command runs, by the kind of what it uses, and what is told of its end. This project's own.
use Rattle.text_status.specs.declared.status.Status.{Status}
use Rattle.text_status.specs.declared.status.Status.TheVariants.{Usage}
use Rattle.std.specs.Prelude.{ℕ, List, ◌≡◌, ◌≤◌, ◌+◌}
use Rattle.pet_base.specs.OutsideSeen.{OutsideSeen}
use Rattle.command_send.specs.Sends.{routes_in}
use Rattle.pet_base.specs.Seen.{Seen}
use Rattle.outside_files.specs.Failures.{EndsAtOnce}
use Rattle.outside_files.specs.Printed.{PrintsLine}
use Rattle.outside_routes.specs.Sending.{Routes}
use Rattle.text_status.specs.Statuses.{fault_text}
use Rattle.pet_tool.specs.Statuses.{of_place, of_link}
use Rattle.pet_tool.specs.Told.{Tells}

-- The first failure of the place or of the link ends the run, and only the statuses of these tell of one.
abbrev pub Strikes : OutsideSeen → OutsideSeen → Status → Type 0
Strikes before after status = EndsAtOnce (of_place status) (of_link status) before after

-- A command did what it does at one of its ends, and then the run told of that end; the first failure ended it.
pub record Runs {E : Type 0} (line_of : E → List ℕ) (status_of : E → Status) (Did : OutsideSeen → OutsideSeen → E → Type 0)
    (before after : OutsideSeen) (status : Status) : Type 0 where
  pub between : OutsideSeen
  pub end : E
  pub did : Did before between end
  pub tells : Tells (line_of end) (status_of end) between after status
  pub once : Strikes before after status

-- a command that uses files alone: it sends nothing and prints nothing; one that reads them alone changes none, and
-- counts no step
pub record OnFiles {E : Type 0} (Did : Seen → Seen → E → Type 0) (before after : OutsideSeen) (end : E) : Type 0 where
  pub link : after.link ≡ before.link
  pub written : after.written ≡ before.written
  pub out_faults : after.out_faults ≡ before.out_faults
  pub did : Did before.place after.place end

pub record OnRead {E : Type 0} (Did : Seen → Seen → E → Type 0) (before after : OutsideSeen) (end : E) : Type 0 where
  pub only : OnFiles Did before after end
  pub files : after.place.files ≡ before.place.files
  pub steps : after.steps ≡ before.steps

-- a command that reads files alone, and counts steps
pub record OnCountedRead {E : Type 0} (Did : Seen → Seen → E → Type 0) (before after : OutsideSeen)
    (end : E) : Type 0 where
  pub only : OnFiles Did before after end
  pub files : after.place.files ≡ before.place.files

-- a command that reads files and sends on a way: it prints nothing
pub record OnRoutes {E : Type 0} (Did : Routes → Routes → E → Type 0) (before after : OutsideSeen)
    (end : E) : Type 0 where
  pub written : after.written ≡ before.written
  pub out_faults : after.out_faults ≡ before.out_faults
  pub did : Did (routes_in before) (routes_in after) end

-- a command that uses memory alone, and counts so many steps at most
pub record OnMemory {E : Type 0} (Did : E → Type 0) (most : ℕ) (before after : OutsideSeen) (end : E) : Type 0 where
  pub place : after.place ≡ before.place
  pub link : after.link ≡ before.link
  pub written : after.written ≡ before.written
  pub out_faults : after.out_faults ≡ before.out_faults
  pub cost : after.steps ≤ before.steps + most
  pub did : Did end

-- Words of no form are refused as usage: its line is printed, and nothing else is done.
pub record Refuses (before after : OutsideSeen) (status : Status) : Type 0 where
  pub ended : status ≡ Usage
  pub line : PrintsLine (fault_text Usage) before after
