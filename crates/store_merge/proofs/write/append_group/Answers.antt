use Rattle.std.specs.List.{cons_option}
use Rattle.std.proofs.Common.{[]}
use Rattle.packet_verdicts.specs.laws.FramesLaws.{first_frames, frame_at, frames_one_number}
use Rattle.store_merge.proofs.Appended.{entries_then, front_then}
use Rattle.store_merge.proofs.write.append_group.Goals as goal

pub loop-number-preserved : goal.loop-number-preserved
loop-number-preserved g c = record {
  text =
      λ p opened. entries_then c.args.into.now.items c.loop-number.into.items c.append_if_kept.new.into.items
      (first_frames p c.loop-number.number) (cons_option (frame_at p c.loop-number.number) []) _
      (frames_one_number p c.loop-number.number) (c.loop-number.invariant.text p opened)
      (c.in_ok-append_if_kept.ensures.text p opened);
  front =
      front_then c.args.into.now.items c.loop-number.into.items c.append_if_kept.new.into.items
      c.loop-number.invariant.front c.append_if_kept.ensures.front;
}
