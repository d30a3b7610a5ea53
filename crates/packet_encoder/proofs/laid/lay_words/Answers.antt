use borrow.Rule.Slice.PartMut.{put_mid}
use Rattle.std.proofs.Common.{◌≡◌, ◌+◌, ◌-◌, ◌*◌, ◌<◌, length, get_or, take, drop, ap, sym, ◌∙◌, add-one}
use Rattle.std.proofs.Common.{arith, rules}
use Rattle.std.proofs.lemmas.List.{length-take-le, length-drop}
use Rattle.field_rows.specs.Blocks.{size_of}
use Rattle.field_rows.proofs.FirstBlocks.{b0, more_size}
use Rattle.field_rows.proofs.LayingOut.{long_put}
use Rattle.packet_encoder.proofs.LaidWords.{block_room, start_bytes, end_bytes, part_bytes, part_room, more_laid}
use Rattle.packet_encoder.proofs.laid.lay_words.Goals as goal

pub overflow_mul-end : goal.overflow_mul-end
overflow_mul-end g c =
    let b = get_or c.args.blocks.now c.loop-i.i b0 in
    let room = block_room c.args.blocks.now c.loop-i.i c.loop-i.at (length c.loop-i.laid) (omega arith)
    c.loop-i.invariant.place (c.loop-i.invariant.long ∙ c.requires.room) in
    search rules

pub overflow_add-end : goal.overflow_add-end
overflow_add-end g c =
    let b = get_or c.args.blocks.now c.loop-i.i b0 in
    let room = block_room c.args.blocks.now c.loop-i.i c.loop-i.at (length c.loop-i.laid) (omega arith)
    c.loop-i.invariant.place (c.loop-i.invariant.long ∙ c.requires.room) in
    search rules

pub overflow_mul-at : goal.overflow_mul-at
overflow_mul-at g c =
    let b = get_or c.args.blocks.now c.loop-i.i b0 in
    let room = block_room c.args.blocks.now c.loop-i.i c.loop-i.at _ (omega arith) c.loop-i.invariant.place
    c.requires.room in
    let start = start_bytes c.loop-i.at (b.length * b.width) c.WIDTH-wide.result in
    let end = end_bytes c.loop-i.at (b.length * b.width) c.WIDTH-wide.result g.F.Field.coding.width _
    c.args.message.now room (c.WIDTH-wide.ensures ∙ sym g.met.F.Field.wide) c.requires.whole in
    search rules

pub overflow_mul-end-in-loop-i : goal.overflow_mul-end-in-loop-i
overflow_mul-end-in-loop-i g c =
    let b = get_or c.args.blocks.now c.loop-i.i b0 in
    let room = block_room c.args.blocks.now c.loop-i.i c.loop-i.at _ (omega arith) c.loop-i.invariant.place
    c.requires.room in
    let start = start_bytes c.loop-i.at (b.length * b.width) c.WIDTH-wide.result in
    let end = end_bytes c.loop-i.at (b.length * b.width) c.WIDTH-wide.result g.F.Field.coding.width _
    c.args.message.now room (c.WIDTH-wide.ensures ∙ sym g.met.F.Field.wide) c.requires.whole in
    search rules

pub slice_bounds-lay_block-end : goal.slice_bounds-lay_block-end
slice_bounds-lay_block-end g c =
    let b = get_or c.args.blocks.now c.loop-i.i b0 in
    let room = block_room c.args.blocks.now c.loop-i.i c.loop-i.at _ (omega arith) c.loop-i.invariant.place
    c.requires.room in
    let start = start_bytes c.loop-i.at (b.length * b.width) c.WIDTH-wide.result in
    let end = end_bytes c.loop-i.at (b.length * b.width) c.WIDTH-wide.result g.F.Field.coding.width _
    c.args.message.now room (c.WIDTH-wide.ensures ∙ sym g.met.F.Field.wide) c.requires.whole in
    search rules

pub slice_bounds-lay_block-end-in-loop-i : goal.slice_bounds-lay_block-end-in-loop-i
slice_bounds-lay_block-end-in-loop-i g c =
    let b = get_or c.args.blocks.now c.loop-i.i b0 in
    let room = block_room c.args.blocks.now c.loop-i.i c.loop-i.at (length c.loop-i.laid) (omega arith)
    c.loop-i.invariant.place (c.loop-i.invariant.long ∙ c.requires.room) in
    search rules

pub lay_block-requires-clause-whole : goal.lay_block-requires-clause-whole
lay_block-requires-clause-whole g c =
    let b = get_or c.args.blocks.now c.loop-i.i b0 in
    let room = block_room c.args.blocks.now c.loop-i.i c.loop-i.at (length c.loop-i.laid) (omega arith)
    c.loop-i.invariant.place (c.loop-i.invariant.long ∙ c.requires.room) in
    let F = g.F.Field in
    let wide : c.WIDTH-wide.result ≡ F.coding.width = c.WIDTH-wide.ensures ∙ sym g.met.F.Field.wide in
    let fits : length c.args.message.now ≡ length c.loop-i.laid * F.coding.width =
    c.requires.whole ∙ ap (λ t. t * F.coding.width) (sym c.loop-i.invariant.long) in
    part_bytes c.loop-i.at (b.length * b.width) c.WIDTH-wide.result F.coding.width (length c.loop-i.laid)
    c.args.message.now room wide fits
    ∙ sym (ap (λ t. t * F.coding.width) (part_room c.loop-i.at (b.length * b.width) c.loop-i.laid room))

pub loop-i-preserved : goal.loop-i-preserved
loop-i-preserved g c =
    let b = get_or c.args.blocks.now c.loop-i.i b0 in
    let room = block_room c.args.blocks.now c.loop-i.i c.loop-i.at (length c.loop-i.laid) (omega arith)
    c.loop-i.invariant.place (c.loop-i.invariant.long ∙ c.requires.room) in
    let F = g.F.Field in
    let wide : c.WIDTH-wide.result ≡ F.coding.width = c.WIDTH-wide.ensures ∙ sym g.met.F.Field.wide in
    let bs = c.args.blocks.now in
    let i = c.loop-i.i in
    let at = c.loop-i.at in
    let n = b.length * b.width in
    let laid = c.loop-i.laid in
    let new = c.lay_block.new.into in
    let l : i < length bs = omega arith in
    let part : length new ≡ at + n - at =
    c.lay_block.auto.into
    ∙ length-take-le (at + n - at) (drop at laid) (omega (arith, length-drop at laid, room)) in
    let same : length (put_mid at (at + n - at) laid new) ≡ length laid =
    long_put at (at + n - at) laid new (omega (arith, room)) part in
    record {
      within = omega (arith, same, room);
      long = same ∙ c.loop-i.invariant.long;
      place =
          ap (λ k. k + n) c.loop-i.invariant.place
          ∙ sym (ap (λ k. size_of (take k bs)) (add-one i) ∙ more_size bs i l);
      done =
          more_laid F.coding.spelt F.coding.width F.coding.ops.nought bs i at c.WIDTH-wide.result _ c.args.message.now
          laid new l c.loop-i.invariant.place c.requires.room c.loop-i.invariant.long wide c.lay_block.auto.into
          c.in_ok-lay_block.ensures c.loop-i.invariant.done;
    }
