-- A failure at FROM, or at TO, where it is a file, is one of a file that `relay` uses.
use Rattle.std.proofs.Common.{inl, inr, arith}
use Rattle.pet_base.specs.OutsideSeen.{OutsideSeen}
use Rattle.pet_base.specs.Seen.{Seen}
use Rattle.pet_base.specs.laws.SeenLaws.{HadFault-since}
use Rattle.outside_files.specs.Uses.{Failed}
use Rattle.outside_routes.specs.Way.{Way, OnFile, OnLink}
use Rattle.packet_reading.specs.Begun.{EnteringFailed}
use Rattle.pet_repair.specs.Relays.{relay_uses, FailsBeforeTo, WritingFailed}

pub entering_used : (from to : Way) (old new : Seen) → EnteringFailed from old new → Failed (relay_uses from to) old new
entering_used (OnFile name) (OnFile other) old new failed = HadFault-since old old new _ _ (omega arith) (λ b is. inl is) failed
entering_used (OnFile name) (OnLink address) old new failed = failed
entering_used (OnLink address) to old new failed = absurd failed

pub writing_used : (from to : Way) (old new : Seen) → WritingFailed to old new → Failed (relay_uses from to) old new
writing_used (OnFile name) (OnFile other) old new failed = HadFault-since old old new _ _ (omega arith) (λ b is. inr is) failed
writing_used (OnLink address) (OnFile other) old new failed = failed
writing_used from (OnLink address) old new failed = absurd failed

pub before_used : (from to : Way) (before after : OutsideSeen) → FailsBeforeTo from to before after
    → Failed (relay_uses from to) before.place after.place
before_used from (OnFile name) before after (inl opening) =
    entering_used from (OnFile name) before.place after.place opening.0
before_used from (OnFile name) before after (inr making) =
    writing_used from (OnFile name) before.place after.place making.0.0
before_used from (OnLink address) before after opening =
    entering_used from (OnLink address) before.place after.place opening.0
