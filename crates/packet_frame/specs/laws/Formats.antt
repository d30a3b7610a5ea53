-- For callers: each of the formats is one.
use Rattle.std.proofs.Common.{refl, arith}
use Rattle.stripe_plan.specs.laws.ByteLaws.{are_plan_bounds, are_byte_plan_bounds}
use Rattle.packet_frame.specs.declared.format.TheConstants.{FORMAT, OLD_FORMAT, BYTE_FORMAT}
use Rattle.packet_frame.specs.Format.{IsFormat}

pub format_is : IsFormat FORMAT
format_is = record {
  mark = refl;
  tag = omega arith;
  word = omega arith;
  packets = omega arith;
  bounds = are_plan_bounds.are;
  bare = refl;
}

pub old_format_is : IsFormat OLD_FORMAT
old_format_is = record {
  mark = refl;
  tag = omega arith;
  word = omega arith;
  packets = omega arith;
  bounds = record { layers = omega arith; bare = omega arith; bytes = omega arith };
  bare = refl;
}

pub byte_format_is : IsFormat BYTE_FORMAT
byte_format_is = record {
  mark = refl;
  tag = omega arith;
  word = omega arith;
  packets = omega arith;
  bounds = are_byte_plan_bounds.are;
  bare = refl;
}
