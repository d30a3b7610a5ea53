-- For callers: in which formats the sessions of streams are sent.
use Rattle.std.proofs.Common.{refl}
use Rattle.stripe_plan.specs.laws.ByteLaws.{are_plan_bounds, are_byte_plan_bounds}
use Rattle.packet_frame.specs.declared.format.TheConstants.{FORMAT, BYTE_FORMAT}
use Rattle.packet_frame.specs.laws.Formats.{format_is, byte_format_is}
use Rattle.stream_session.specs.Tables.{IsSessionFormat}

-- the one that is written today
pub today_is : IsSessionFormat FORMAT
today_is = record { format = format_is; plan = are_plan_bounds; layers = refl; word = refl }

-- and that of the byte profile
pub bytewise_is : IsSessionFormat BYTE_FORMAT
bytewise_is = record { format = byte_format_is; plan = are_byte_plan_bounds; layers = refl; word = refl }
