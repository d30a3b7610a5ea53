-- The payloads of a range of packets, on end. This project's own.
use Rattle.std.specs.Prelude.{ℕ, ◌+◌, ◌*◌, List, length}
use Rattle.field_elements.specs.Field.{Coding}
use Rattle.field_values.specs.Matrix.{HasRows}
use Rattle.stripe_plan.specs.Layers.{plan_ends}
use Rattle.packet_session.specs.Encoding.{Encoding, frame_of}

-- these are the payloads of the packets `first` to `first + count - 1`: `width` bytes for each stripe of each
abbrev pub HasPayloads : {E : Type 0} → Coding E → Encoding → ℕ → ℕ → List ℕ → Type 0
HasPayloads c e first count bytes =
    HasRows (c.width * length (plan_ends e.header.table.layers)) count (λ p. (frame_of c e (first + p)).payload) bytes
