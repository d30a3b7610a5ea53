-- For callers: why `bsend` refuses a plan, and of which session its packets are.
use Rattle.std.proofs.Common.{◌≡◌, ◌+◌, ◌*◌, ◌<◌, ℕ, nat_lt, List, length, map, Some, refl}
use Rattle.std.specs.Prelude.{All, position, if◌then◌else◌}
use Rattle.pet_base.specs.declared.limits.TheConstants.{MAX_SESSION}
use Rattle.mpeg_scan.specs.declared.piece.Piece.{Piece}
use Rattle.stripe_plan.specs.Layers.{plan_ends}
use Rattle.stripe_plan.specs.Sizes.{bytes_of, twofold}
use Rattle.packet_frame.specs.declared.format.TheConstants.{BYTE_FORMAT}
use Rattle.packet_session.specs.Session.{IsSessionIn, FitsIn}
use Rattle.priority_file.specs.Priority.{Priorities, layer_of}
use Rattle.layer_split.specs.Faults.{fault_of}
use Rattle.layer_split.specs.Groups.{groups_of}
use Rattle.layer_split.specs.Layers.{Cut}
use Rattle.layer_split.specs.Splitting.{cuts_of}
use Rattle.stream_session.specs.declared.fault.SessionFault.TheVariants.{ManyPackets}
use Rattle.stream_session.specs.Accepted.{IsAcceptedIn, session_of_in}
use Rattle.stream_session.specs.Refusals.{session_fault_in, first_above, fault_after, long_fault, size_fault}
use Rattle.stream_session.specs.Tables.{sizes_of}
use Rattle.stream_session.specs.laws.FormatLaws.{bytewise_is}
use Rattle.stream_session.specs.laws.SessionOfLaws.{is_session_in, session_fits_in}

-- the stripes of a group of the byte profile, whose plan is that of layers of twice the lengths
abbrev pub byte_stripes : Priorities → Cut → ℕ
byte_stripes priority cut = length (plan_ends (map twofold (sizes_of priority cut)))

-- More than 255 packets; then a group that is too long, or too many; then the first group whose layers have more than 2,097,152
-- bytes, then the first whose datagrams would be longer than 65,000 bytes at two bytes for each stripe, then the first with which the
-- datagrams, at one byte for each stripe, pass 536,870,912 bytes.
pub byte_faults : (priority : Priorities) (pieces : List Piece)
    → session_fault_in BYTE_FORMAT MAX_SESSION priority pieces
    ≡ (if nat_lt 255 priority.packets then Some (ManyPackets priority.packets)
    else fault_after (fault_of (layer_of priority) (length priority.layers) (groups_of pieces))
    (long_fault
    (position (λ (cut : Cut). nat_lt 2097152 (bytes_of (sizes_of priority cut))) (cuts_of priority (groups_of pieces)))
    (size_fault
    (position (λ (cut : Cut). nat_lt 65000 (41 + 6 * length (map twofold (sizes_of priority cut)) + 2 * byte_stripes priority cut))
    (cuts_of priority (groups_of pieces)))
    (first_above 536870912 0
    (map (λ (cut : Cut). priority.packets * (41 + 6 * length (map twofold (sizes_of priority cut)) + 1 * byte_stripes priority cut))
    (cuts_of priority (groups_of pieces)))))))
unfolding session_fault_in
byte_faults priority pieces = refl

-- what is sent are the packets of a session of the byte profile that fits
pub is_byte_session : (priority stream : List ℕ) → All (λ b. b < 256) stream
    → IsAcceptedIn BYTE_FORMAT MAX_SESSION priority stream
    → IsSessionIn BYTE_FORMAT (session_of_in BYTE_FORMAT priority stream)
    × FitsIn BYTE_FORMAT (session_of_in BYTE_FORMAT priority stream) MAX_SESSION
is_byte_session priority stream small is = (
  is_session_in BYTE_FORMAT bytewise_is priority stream small is,
  session_fits_in BYTE_FORMAT priority stream is,
)
