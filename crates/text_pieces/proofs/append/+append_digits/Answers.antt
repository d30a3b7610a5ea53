use Rattle.std.proofs.Common.{arith}
use Rattle.text_pieces.proofs.Digits.{digits_more, text_more}
use Rattle.text_pieces.proofs.append.+append_digits.Goals as goal

pub append_digits-requires : goal.append_digits-requires
append_digits-requires t c = (
  omega (arith, c.decreases, c.if-number-lt10.false),
  omega (arith, c.requires, digits_more c.args.number c.if-number-lt10.false c.ranges.number.fits),
)

pub push-requires-2 : goal.push-requires-2
push-requires-2 t c = (
  omega arith,
  omega (
    arith,
    c.requires,
    c.append_digits.ensures.len,
    digits_more c.args.number c.if-number-lt10.false c.ranges.number.fits,
  ),
)

pub returns-clause-text : goal.returns-clause-text
returns-clause-text t c =
    text_more c.args.number _ _ _ c.if-number-lt10.false c.ranges.number.fits c.append_digits.ensures.text
    c.push-2.ensures.items

pub returns-clause-len : goal.returns-clause-len
returns-clause-len t c =
    omega (
      arith,
      c.push-2.ensures.len,
      c.append_digits.ensures.len,
      digits_more c.args.number c.if-number-lt10.false c.ranges.number.fits,
    )
