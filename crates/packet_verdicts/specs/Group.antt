-- The group and the packet number that a datagram names. This project's own.
use Rattle.std.specs.Prelude.{ℕ, List}
use Rattle.packet_frame.specs.Refusals.{fields_of}

unfoldable pub group_in : List ℕ → ℕ
group_in bytes = (fields_of bytes).group

unfoldable pub number_in : List ℕ → ℕ
number_in bytes = (fields_of bytes).number
