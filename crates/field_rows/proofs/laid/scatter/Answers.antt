use Rattle.std.proofs.Common.{◌≡◌, ◌+◌, ◌*◌, ◌<◌, length, refl, ◌∙◌, arith, rules}
use Rattle.std.proofs.lemmas.List.{length-set}
use Rattle.field_rows.proofs.LayingOut.{written_more, others_same}
use Rattle.field_rows.specs.laws.PlaceLaws.{place_below}
use Rattle.field_rows.proofs.laid.scatter.Goals as goal

pub offset_bounds-into-j : goal.offset_bounds-into-j
offset_bounds-into-j g c =
    let room : c.loop-j.j * c.args.width + c.args.c < length c.loop-j.into =
    rw (c.loop-j.invariant.long ∙ c.requires.room)
    (place_below c.loop-j.j (length c.args.from.now) c.args.width c.args.c (omega arith) c.requires.column) in
    search rules

pub loop-j-preserved : goal.loop-j-preserved
loop-j-preserved g c =
    let from = c.args.from.now in
    let into = c.loop-j.into in
    let w = c.args.width in
    let n = c.args.c in
    let j = c.loop-j.j in
    let v = c.index-from-j.result in
    let l : j < length from = omega arith in
    let room : length into ≡ length from * w = c.loop-j.invariant.long ∙ c.requires.room in
    record {
      long = length-set into (j * w + n) v ∙ c.loop-j.invariant.long;
      written = λ d. written_more from into w n j v d c.requires.column l room c.index-from-j.is
          (c.loop-j.invariant.written d);
      others = λ d i m h ne. others_same from into w n j v d c.requires.column l room c.index-from-j.is i m h ne
          ∙ c.loop-j.invariant.others d i m h ne;
    }

pub loop-j-init : goal.loop-j-init
loop-j-init g c = record { long = refl; written = λ d i l. absurd (omega arith); others = λ d i n l h. refl }

pub returns : goal.returns
returns g c =
    record { written = λ d i l. c.loop-j.invariant.written d i (omega arith); others = c.loop-j.invariant.others }
