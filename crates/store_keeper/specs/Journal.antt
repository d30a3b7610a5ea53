-- The set that a journal's text stands for, where a receiver keeps its frames. This project's own.
use Rattle.std.specs.Prelude.{ℕ, ◌≡◌, ◌⊎◌, true, if◌then◌else◌, List, Option, None, Some, Result, Ok}
use Rattle.packet_frame.specs.Refusals.{fields_of}
use Rattle.packet_verdicts.specs.KeptSet.{KeptSet, empty_set, count_kept}
use Rattle.packet_verdicts.specs.Verdicts.{verdict_of, is_kept, after}
use Rattle.packet_group.specs.OpenGroup.{stripe_lengths}
use Rattle.pet_interp.specs.Progressive.{step_bound}
use Rattle.store_journal.specs.Text.{reading_of}
use Rattle.store_journal.specs.declared.fault.StartFault.{StartFault}

-- the set with a frame, where the frame's verdict is Kept
abbrev pub keep_frame : KeptSet → List ℕ → Option KeptSet
keep_frame set frame = if is_kept (verdict_of set frame) then Some (after set frame) else None

-- the steps that keeping a frame may take
abbrev pub frame_cost : KeptSet → List ℕ → ℕ
frame_cost set frame = step_bound (count_kept set (fields_of frame).group) (stripe_lengths (fields_of frame).layers)

-- the kept set of a journal's text, for a session and a limit, or why it is no journal of the session
abbrev pub journal_of : List ℕ → ℕ → List ℕ → Result KeptSet StartFault
journal_of session limit text = reading_of keep_frame (empty_set session limit) session text

-- The text stands for the set.
abbrev pub StandsFor : KeptSet → List ℕ → Type 0
StandsFor set text = journal_of set.session set.limit text ≡ Ok set

-- The text stands for the set, or for the set with the packet of the datagram.
abbrev pub StandsWith : KeptSet → List ℕ → List ℕ → Type 0
StandsWith set datagram text = StandsFor set text
    ⊎ ((is_kept (verdict_of set datagram) ≡ true) × (journal_of set.session set.limit text ≡ Ok (after set datagram)))
