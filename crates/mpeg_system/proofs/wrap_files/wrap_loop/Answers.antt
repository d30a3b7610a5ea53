use Rattle.std.proofs.Common.{ℕ, List, [], ◌∷◌, length, ap, arith}
use Rattle.pet_base.specs.laws.SeenLaws.{HadFault-err}
use Rattle.outside_files.specs.Uses.{IsOneOf, writing}
use Rattle.mpeg_system.proofs.Writing.{ok_of, form_is, wraps_done, wraps_fault}
use Rattle.mpeg_system.proofs.wrap_files.wrap_loop.Goals as goal

pub returns-in-Ok-put_file-clause-wraps : goal.returns-in-Ok-put_file-clause-wraps
returns-in-Ok-put_file-clause-wraps g c =
    let seen = g.P.Place.seen in
    let bytes = c.in-Ok.bytes.items in
    let text : List ℕ = c.as_slice-in-Ok.result.now in
    wraps_done c.args.file.now c.args.out.now bytes text (seen c.args.place.now) (seen c.read_file.new.place)
    (seen c.put_file.new.place)
    c.in-Ok.ensures.read (omega (arith, c.if-len-gt-MAX_STREAM.false, c.len.ensures))
    (form_is c.as_slice.result.now bytes c.new-text.result.items c.wrap.new.into.items text c.as_slice.ensures.value
    c.new-text.ensures.items c.as_slice-in-Ok.ensures.value
    (ok_of c.wrap.result c.is_err.result c.is_err.ensures.value c.if-is_err.false c.wrap.ensures.ok))
    c.in-Ok.ensures.others.files c.len-in-Ok-put_file.result
    (omega (
      arith,
      c.len-in-Ok-put_file.ensures,
      ap length c.as_slice-in-Ok.ensures.value,
      c.as_slice-in-Ok.ensures.len,
    )) c.in-Ok-put_file.ensures.written

pub returns-in-Ok-clause-wraps : goal.returns-in-Ok-clause-wraps
returns-in-Ok-clause-wraps g c =
    let seen = g.P.Place.seen in
    let bytes = c.in-Ok.bytes.items in
    let text : List ℕ = c.as_slice-in-Ok.result.now in
    wraps_fault c.args.file.now c.args.out.now bytes text (seen c.args.place.now) (seen c.read_file.new.place)
    (seen c.put_file.new.place)
    c.in-Ok.ensures.read (omega (arith, c.if-len-gt-MAX_STREAM.false, c.len.ensures))
    (form_is c.as_slice.result.now bytes c.new-text.result.items c.wrap.new.into.items text c.as_slice.ensures.value
    c.new-text.ensures.items c.as_slice-in-Ok.ensures.value
    (ok_of c.wrap.result c.is_err.result c.is_err.ensures.value c.if-is_err.false c.wrap.ensures.ok))
    c.in-Ok.ensures.others.files c.in-Ok.ensures.later c.in-Err-put_file.ensures.front
    (HadFault-err (seen c.read_file.new.place) (seen c.put_file.new.place) c.in-Err-put_file.field-0
    (IsOneOf (writing c.args.out.now ∷ [])) c.in-Err-put_file.ensures.cause)
