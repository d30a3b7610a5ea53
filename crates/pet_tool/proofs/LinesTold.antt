-- What was printed of an end, and behind the line of a port.
use Rattle.std.proofs.Common.{◌≡◌, List, ℕ, ◌++◌, Option, sym, ap, append_assoc, ◌∙◌}
use Rattle.std.specs.Io.KnownBytes.{append_known}
use Rattle.pet_base.specs.LinkSeen.{LinkSeen}
use Rattle.pet_base.specs.OutsideSeen.{OutsideSeen}
use Rattle.pet_base.specs.Seen.{Files, Seen}
use Rattle.outside_routes.specs.Way.{Way}
use Rattle.packet_reading.specs.Layers.{port_line}
use Rattle.packet_reading.specs.Opened.{PrintedPort}
use Rattle.command_receive.specs.laws.LineLaws.{port_then}
use Rattle.text_status.specs.Statuses.{fault_text}
use Rattle.text_status.specs.declared.status.Status.{Status}
use Rattle.pet_tool.specs.Undisturbed.{EndsWith}
use Rattle.pet_tool.proofs.Telling.{Told}

-- the lines and then that of the status which the end has
pub ends_with : (status now : Status) (lines : List ℕ) (before after : OutsideSeen) → now ≡ status
    → after.written ≡ append_known before.written (lines ++ fault_text now) → EndsWith status lines before after now
ends_with status now lines before after ended printed = record {
  ended = ended;
  printed = printed ∙ ap (λ (s : Status). append_known before.written (lines ++ fault_text s)) ended;
}

-- the line of the port, that of the end, and that of the status
pub lines_told : (from : Way) (line numbers of_status : List ℕ) (before between after : OutsideSeen)
    → PrintedPort from before between → after.written ≡ append_known between.written (line ++ of_status)
    → after.link ≡ between.link → line ≡ numbers
    → after.written ≡ append_known before.written ((port_line from after.link ++ numbers) ++ of_status)
lines_told from line numbers of_status before between after port printed link is =
    port_then from (line ++ of_status) before between after.written port printed
    ∙ ap (append_known before.written) (sym (append_assoc (port_line from between.link) line of_status))
    ∙ ap (λ (l : LinkSeen). append_known before.written ((port_line from l ++ line) ++ of_status)) (sym link)
    ∙ ap (λ (t : List ℕ). append_known before.written ((port_line from after.link ++ t) ++ of_status)) is

-- what was told of a command that printed nothing itself, whose status and line are known
pub ended_with : (before between after : OutsideSeen) (status of_end wanted : Status) (line lines : List ℕ)
    → between.written ≡ before.written → Told line of_end between after status → of_end ≡ wanted → line ≡ lines
    → EndsWith wanted lines before after status
ended_with before between after status of_end wanted line lines written said ended is =
    ends_with wanted status lines before after (said.ended ∙ ended)
    (said.printed ∙ ap (λ (o : Option (List ℕ)). append_known o (line ++ fault_text status)) written
    ∙ ap (λ (l : List ℕ). append_known before.written (l ++ fault_text status)) is)

-- and what files it left
pub file_left : {before between after : OutsideSeen} {status of_end wanted : Status} {line lines : List ℕ}
    {files : Option Files} → between.written ≡ before.written → Told line of_end between after status
    → between.place.files ≡ files → of_end ≡ wanted → line ≡ lines
    → (after.place.files ≡ files) × EndsWith wanted lines before after status
file_left {before} {between} {after} {status} {of_end} {wanted} {line} {lines} written said file ended is = (
  ap (λ (now : Seen). now.files) said.place ∙ file,
  ended_with before between after status of_end wanted line lines written said ended is,
)
