use Rattle.std.proofs.Common.{rules, ◌++◌, ◌∙◌, ap, arith}
use Rattle.packet_frame.specs.Frame.{text}
use Rattle.packet_frame.specs.declared.format.TheConstants.{FORMAT}
use Rattle.store_text.specs.declared.format.TheConstants.{OLD_STORE_FORM}
use Rattle.store_packets.specs.inside.Reading.{frame_of}
use Rattle.store_packets.proofs.OldFrames.{body_of, old_head, old_narrow, old_body, new_text, new_length, entry_front}
use Rattle.store_packets.proofs.OldFrames.{entry_then}
use Rattle.store_packets.proofs.renew.append_entry.Goals as goal

pub overflow_cast-length : goal.overflow_cast-length
overflow_cast-length c =
    omega (arith, old_narrow c.args.datagram.now (λ i. omega (arith, c.type_inv.datagram i)) c.requires.frame)

pub overflow_sub-datagram : goal.overflow_sub-datagram
overflow_sub-datagram c =
    omega (arith, old_head c.args.datagram.now (λ i. omega (arith, c.type_inv.datagram i)) c.requires.frame)

pub split_at-requires-2 : goal.split_at-requires-2
split_at-requires-2 c =
    omega (
      arith,
      old_head c.args.datagram.now (λ i. omega (arith, c.type_inv.datagram i)) c.requires.frame,
      c.split_at.ensures.front_len,
    )

pub returns-clause-text : goal.returns-clause-text
returns-clause-text c =
    let d = c.args.datagram.now in
    let f = frame_of OLD_STORE_FORM d in
    entry_then (text f) c.args.into.now.items c.extend_from_slice.new.self.items c.extend_from_slice-2.new.self.items
    c.extend_from_slice-3.new.self.items c.append_tag.new.into.items FORMAT.mark
    (body_of f) _ c.len-begin.result c.append_tag.result
    (new_text d (λ i. omega (arith, c.type_inv.datagram i)) c.requires.frame)
    (new_length d (λ i. omega (arith, c.type_inv.datagram i)) c.requires.frame)
    (search rules) (search rules) c.in_ok-extend_from_slice-2.ensures.items
    (c.in_ok-extend_from_slice-3.ensures.items
    ∙ ap (λ b. c.extend_from_slice-2.new.self.items ++ b)
    (old_body d (λ i. omega (arith, c.type_inv.datagram i)) c.requires.frame c.split_at.result.0.now
    c.split_at-2.result.1.now c.split_at.ensures.front c.split_at-2.ensures.back))
    c.append_tag.ensures.text

pub returns-clause-front : goal.returns-clause-front
returns-clause-front c =
    entry_front c.args.into.now.items c.extend_from_slice.new.self.items c.extend_from_slice-2.new.self.items
    c.extend_from_slice-3.new.self.items c.append_tag.new.into.items _ _ _
    c.in_ok-extend_from_slice.ensures.items c.in_ok-extend_from_slice-2.ensures.items
    c.in_ok-extend_from_slice-3.ensures.items c.append_tag.ensures.front
