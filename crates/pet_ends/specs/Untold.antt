-- What the real ends tell. As a place, a link and a sink they tell nothing but their faults and the port that was
-- answered; beside it a place and a sink say what became of the bytes at a file or a writer that tells what it holds.
-- This project's own.
use Rattle.std.specs.Prelude.{ℕ, Bool, List, Option, None, false}
use Rattle.pet_base.specs.Seen.{Seen}
use Rattle.pet_base.specs.LinkSeen.{LinkSeen}
use Rattle.pet_base.specs.OutsideSeen.{OutsideSeen}

pub record Opened : Type 0 where
  pub has_input : Bool
  pub has_output : Bool
  -- what the file of the input still has, and what that of the output holds
  pub left : Option (List ℕ)
  pub held : Option (List ℕ)
  pub faults : ℕ
  pub failing : Bool

-- no input, no output and no failure yet
abbrev pub nothing_open : Opened
nothing_open = record {
  has_input = false;
  has_output = false;
  left = None;
  held = None;
  faults = 0;
  failing = false;
}

-- no file is told, no name and no blame
abbrev pub untold : Opened → Seen
untold o = record {
  files = None;
  rest = None;
  source = None;
  target = None;
  has_input = o.has_input;
  has_output = o.has_output;
  blamed = None;
  faults = o.faults;
  failing = o.failing;
}

-- what the writer of an output holds, and how many calls failed
abbrev pub Printed : Type 0
Printed = Option (List ℕ) × ℕ

-- the port that the last `bind` answered, and how many calls failed
pub record Numbered : Type 0 where
  pub port : ℕ
  pub faults : ℕ
  pub failing : Bool

-- no `bind` yet, and no failure
abbrev pub never_bound : Numbered
never_bound = record { port = 0; faults = 0; failing = false }

-- no datagram is told, no address and no blame
abbrev pub untold_link : Numbered → LinkSeen
untold_link l = record {
  feed = None;
  sent = None;
  port = l.port;
  bound = None;
  aimed = None;
  blamed = None;
  faults = l.faults;
  failing = l.failing;
}

-- Nothing is open, nothing failed and nothing is counted; what the files and the network have is not told. Of the
-- output is told what its writer tells.
abbrev pub at_start : Option (List ℕ) → OutsideSeen
at_start held = record {
  place = untold nothing_open;
  link = untold_link never_bound;
  written = held;
  out_faults = 0;
  steps = 0;
}
