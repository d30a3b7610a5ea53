-- What the rebuilding of a range of a group's packets hands out and keeps. This project's own.
use Rattle.std.specs.Prelude.{◌≡◌, ℕ, List, map, Some, option_map}
use Rattle.field_elements.specs.Field.{Coding}
use Rattle.packet_frame.specs.Frame.{text}
use Rattle.packet_session.specs.Encoding.{Encoding}
use Rattle.packet_verdicts.specs.KeptSet.{KeptSet, IsKeptSet, open_group}
use Rattle.packet_rebuild.specs.Repairs.{made_again, keep_all}

-- the packets of these numbers that are not kept were handed out, by number, and kept
pub record HasRebuilt {E : Type 0} (c : Coding E) (set : KeptSet) (e : Encoding) (first count : ℕ)
    (sent : List (List ℕ)) (now : KeptSet) : Type 0 where
  pub sent_is : sent ≡ map text (made_again c set e first count)
  pub kept : now ≡ keep_all set (made_again c set e first count)

-- the set has kept something of the encoder's group, whose header is the encoder's
pub record IsOpenFor (set : KeptSet) (e : Encoding) : Type 0 where
  pub header : option_map (λ p. p.header) (open_group set e.header.group) ≡ Some e.header
  pub sound : IsKeptSet set
