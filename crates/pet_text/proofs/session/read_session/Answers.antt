use Rattle.std.proofs.Common.{refl, sym, ◌∙◌, arith}
use Rattle.std.proofs.lemmas.List.{length-set}
use Rattle.pet_text.specs.Words.{bytes_of}
use Rattle.pet_text.proofs.SessionBytes.{followed_first, byte_more, no_byte, all_read, of_sixteen}
use Rattle.pet_text.proofs.session.read_session.Goals as goal

pub loop-at-init : goal.loop-at-init
loop-at-init c = record { eight = refl; so_far = followed_first (bytes_of c.as_bytes-digits.result.now) }

pub loop-at-preserved : goal.loop-at-preserved
loop-at-preserved c =
    let held = c.loop-at.invariant in
    record {
      eight = length-set c.loop-at.session c.loop-at.at c.in_ok-session.field-0 ∙ held.eight;
      so_far =
          byte_more c.as_bytes-digits.result.now c.loop-at.session c.loop-at.at c.loop-at-test.true held.eight
          c.if-digits-ne16.false held.so_far c.in_ok-session.field-0 (sym c.read_byte.ensures ∙ c.in_ok-session.was);
    }

pub returns-in_err-session : goal.returns-in_err-session
returns-in_err-session c =
    let held = c.loop-at.invariant in
    of_sixteen c.as_bytes-digits.result.now c.args.word.now c.from_residual.result c.if-digits-ne16.false
    c.as_bytes-digits.ensures.value
    (no_byte c.as_bytes-digits.result.now c.loop-at.session c.loop-at.at c.loop-at-test.true held.eight
    c.if-digits-ne16.false held.so_far (sym c.read_byte.ensures ∙ c.in_err-session.was) ∙ sym c.from_residual.ensures)

pub returns : goal.returns
returns c =
    let held = c.loop-at.invariant in
    of_sixteen c.as_bytes-digits.result.now c.args.word.now _ c.if-digits-ne16.false c.as_bytes-digits.ensures.value
    (all_read c.as_bytes-digits.result.now c.loop-at.session c.loop-at.at
    (omega arith) held.eight c.if-digits-ne16.false held.so_far)
