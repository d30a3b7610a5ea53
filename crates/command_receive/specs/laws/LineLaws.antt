-- What is printed behind the line of the port, for the proofs of callers.
use Rattle.std.proofs.Common.{◌≡◌, List, ℕ, ◌++◌, Option, ap, ◌∙◌}
use Rattle.std.specs.Io.KnownBytes.{append_known}
use Rattle.pet_base.specs.OutsideSeen.{OutsideSeen}
use Rattle.outside_files.specs.laws.PrintedLaws.{append_known-twice}
use Rattle.outside_routes.specs.Way.{Way, OnFile, OnLink}
use Rattle.outside_routes.specs.Bound.{bound_text}
use Rattle.command_receive.specs.Opened.{PrintedPort}
use Rattle.command_receive.specs.Receives.{port_line}

-- the line of the port, and then this text
pub port_then : (from : Way) (text : List ℕ) (before between : OutsideSeen) (now : Option (List ℕ))
    → PrintedPort from before between → now ≡ append_known between.written text
    → now ≡ append_known before.written (port_line from between.link ++ text)
port_then (OnFile name) text before between now port printed =
    printed ∙ ap (λ (o : Option (List ℕ)). append_known o text) port
port_then (OnLink address) text before between now port printed =
    printed ∙ ap (λ (o : Option (List ℕ)). append_known o text) port
    ∙ append_known-twice before.written (bound_text between.link.port) text
