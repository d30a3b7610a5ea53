-- How many steps `sample` may take. This project's own.
use Rattle.std.specs.Prelude.{ℕ, ◌+◌, List, [], ◌∷◌, ◌++◌, length, slice_get}
use Rattle.std.specs.Option.{option_map_or}
use Rattle.stripe_plan.specs.Layers.{needs_of, stripe_lengths}
use Rattle.pet_interp.specs.Progressive.{step_bound}
use Rattle.packet_session.specs.Session.{Session, SessionGroup}
use Rattle.packet_met.specs.Met.{Pair, distinct_met}
use Rattle.command_sample.specs.Arrivals.{arrivals_of}
use Rattle.command_sample.specs.SampleSession.{sample_session}

-- a packet of a group, of which so many were met: one for each word of the group, and what one point more may take
abbrev pub packet_steps : ℕ → SessionGroup → ℕ
packet_steps met g = length (needs_of g.layers) + step_bound met (stripe_lengths g.layers)

-- one that arrives behind these
abbrev pub arrival_steps : Session → List Pair → Pair → ℕ
arrival_steps s before pair =
    option_map_or (λ (g : SessionGroup). packet_steps (distinct_met before pair.0 g.packets) g)
    (slice_get s.groups pair.0) 0

-- some, one after the other
unfoldable pub steps_behind : Session → List Pair → List Pair → ℕ
steps_behind s before [] = 0
steps_behind s before (pair ∷ later) = arrival_steps s before pair + steps_behind s (before ++ pair ∷ []) later

-- all that arrive
abbrev pub sample_steps : ℕ → ℕ → ℕ
sample_steps seed groups = steps_behind (sample_session seed groups) [] (arrivals_of groups)
