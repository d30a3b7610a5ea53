use Rattle.std.proofs.Common.{rules}
use Rattle.packet_frame.specs.View.{fields_with}
use Rattle.store_merge.proofs.Appended.{entry_by, front_by}
use Rattle.store_merge.proofs.write.append_entry.Goals as goal

pub returns-clause-text : goal.returns-clause-text
returns-clause-text c =
    entry_by (fields_with c.args.header.now c.args.number c.args.payload.now) c.frame_length-length.result
    c.args.into.now.items c.extend_from_slice.new.self.items c.append_frame.new.into.items c.append_frame.result
    c.requires.frame
    c.frame_length-length.ensures.length (search rules) c.append_frame.ensures.ok

pub returns-clause-front : goal.returns-clause-front
returns-clause-front c =
    front_by c.args.into.now.items _ c.extend_from_slice.new.self.items _ c.append_frame.new.into.items
    c.append_frame.result c.in_ok-extend_from_slice.ensures.items c.append_frame.ensures.ok c.append_frame.ensures.err
