use Rattle.std.proofs.Common.{◌≡◌, ◌+◌, ◌-◌, ◌*◌, ◌<◌, ◌≤◌, length, get_or, take, drop, refl, ap, sym, ◌∙◌, add-one}
use Rattle.std.proofs.Common.{arith}
use Rattle.std.proofs.lemmas.List.{length-take-le, length-drop, take_all}
use Rattle.field_rows.specs.Blocks.{size_of}
use Rattle.field_rows.proofs.FirstBlocks.{room_size, more_size, b0}
use Rattle.field_rows.proofs.LayingOut.{laid_more, long_put}
use Rattle.field_rows.proofs.laid.lay_out.Goals as goal

pub loop-i-preserved : goal.loop-i-preserved
loop-i-preserved g c =
    let bs = c.args.blocks.now in
    let i = c.loop-i.i in
    let b = get_or bs i b0 in
    let at = c.loop-i.at in
    let row = c.args.row.now in
    let laid = c.loop-i.laid in
    let new = c.transpose.new.into in
    let l : i < length bs = omega arith in
    let room : at + b.length * b.width ≤ length row =
    omega (arith, room_size bs i l, c.loop-i.invariant.place, c.requires.row) in
    let part : length new ≡ at + b.length * b.width - at =
    c.transpose.auto.into
    ∙ length-take-le (at + b.length * b.width - at) (drop at laid)
    (omega (arith, length-drop at laid, c.loop-i.invariant.long, c.requires.row)) in
    record {
      within = room;
      long =
          long_put at (at + b.length * b.width - at) laid new
          (omega (arith, c.loop-i.invariant.long, c.requires.row)) part ∙ c.loop-i.invariant.long;
      place =
          ap (λ n. n + b.length * b.width) c.loop-i.invariant.place
          ∙ sym (ap (λ n. size_of (take n bs)) (add-one i) ∙ more_size bs i l);
      done = λ d. laid_more d bs i at row laid new l c.loop-i.invariant.place c.requires.row c.loop-i.invariant.long
          c.transpose.auto.into (c.transpose.ensures d) (c.loop-i.invariant.done d);
    }

pub loop-i-init : goal.loop-i-init
loop-i-init g c = record { within = omega arith; long = c.requires.laid; place = refl; done = λ d. refl }

pub returns : goal.returns
returns g c =
    let bs = c.args.blocks.now in
    let all : take c.loop-i.i bs ≡ bs = take_all c.loop-i.i bs (omega arith) in
    λ d.
    rw all at (c.loop-i.invariant.done d)
