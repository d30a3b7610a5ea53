use Rattle.std.proofs.Common.{◌+◌, ◌*◌, ◌<◌, length, get_or, take, ap, sym, ◌∙◌, add-one, arith}
use Rattle.field_rows.specs.Blocks.{size_of, width_of}
use Rattle.field_rows.proofs.FirstBlocks.{b0, more_size, more_width}
use Rattle.field_values.proofs.RowLanes.{lanes_within, stripes_more, rest_more, all_placed}
use Rattle.field_values.proofs.wide.place_blocks.Goals as goal

pub place_rows-requires-clause-lane : goal.place_rows-requires-clause-lane
place_rows-requires-clause-lane g c =
    lanes_within c.args.blocks.now c.loop-i.i
    (omega arith) c.loop-i.lane c.args.stripes c.loop-i.invariant.until c.requires.stripes

pub loop-i-preserved : goal.loop-i-preserved
loop-i-preserved g c =
    let bs = c.args.blocks.now in
    let i = c.loop-i.i in
    let b = get_or bs i b0 in
    let l : i < length bs = omega arith in
    let lanes = lanes_within bs i l c.loop-i.lane c.args.stripes c.loop-i.invariant.until c.requires.stripes in
    let place = c.loop-i.invariant.place in
    let until = c.loop-i.invariant.until in
    let placed = c.place_rows.ensures.placed c.args.zero in
    let others = c.place_rows.ensures.others c.args.zero in
    record {
      place =
          ap (λ n. n + b.length * b.width) place ∙ sym (ap (λ n. size_of (take n bs)) (add-one i) ∙ more_size bs i l);
      until = ap (λ n. n + b.width) until ∙ sym (ap (λ n. width_of (take n bs)) (add-one i) ∙ more_width bs i l);
      done =
          stripes_more c.args.zero bs i c.args.size c.args.stripes c.loop-i.lane c.loop-i.at c.args.laid.now
          c.loop-i.into c.place_rows.new.into l place until lanes placed others
          c.loop-i.invariant.done c.loop-i.invariant.rest;
      rest =
          rest_more c.args.zero bs i c.args.size c.args.stripes c.loop-i.lane c.loop-i.at c.args.laid.now c.loop-i.into
          c.place_rows.new.into l place until lanes placed others
          c.loop-i.invariant.done c.loop-i.invariant.rest;
    }

pub returns : goal.returns
returns g c =
    all_placed c.args.zero c.args.blocks.now c.loop-i.i c.loop-i.lane c.args.size c.args.stripes c.args.laid.now
    c.loop-i.into (omega arith) c.loop-i.invariant.until c.requires.stripes
    (c.loop-i.auto.into ∙ c.requires.room) c.loop-i.invariant.done
