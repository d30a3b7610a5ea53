-- The verdict of a frame by what is kept of its group.
use Rattle.std.specs.Prelude.{ℕ, ◌+◌, not, if◌then◌else◌, List, Option, None, Some}
use Rattle.std.specs.Str.{bytes_eq}
use Rattle.stripe_plan.specs.Same.{same_table}
use Rattle.packet_frame.specs.Frame.{Fields}
use Rattle.packet_set.specs.Packets.{Packets, slot_at, count_in}
use Rattle.packet_verdicts.specs.declared.verdict.Verdict.{Verdict}
use Rattle.packet_verdicts.specs.declared.verdict.Verdict.TheVariants.{Clash, Repeated, Kept}
use Rattle.packet_verdicts.specs.KeptSet.{header_of}
use Rattle.packet_verdicts.specs.Verdicts.{layer_set, shown_between}

-- a frame whose number is not kept: it opens its group, or follows so many packets of it
abbrev pub shows_next : Fields → ℕ → Verdict
shows_next f before = Kept (layer_set (shown_between f.layers before (before + 1)))

-- by what is kept for its number
abbrev pub verdict_at : Fields → ℕ → Option (List ℕ) → Verdict
verdict_at f before None = shows_next f before
verdict_at f before (Some payload) = if bytes_eq payload f.payload then Repeated else Clash

-- by what is kept of its group, which is open
abbrev pub verdict_in : Fields → Packets → Verdict
verdict_in f p =
    if not (same_table p.header.table (header_of f).table) then Clash else verdict_at f (count_in p)
    (slot_at p f.number)
