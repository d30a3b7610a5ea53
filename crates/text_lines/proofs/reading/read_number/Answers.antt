use Rattle.std.proofs.Common.{suc, ◌∙◌, ap, drop, get_or, drop-cons, arith}
use Rattle.std.proofs.lemmas.Grind.{common_steps}
use Rattle.std.specs.List.{list_all}
use Rattle.text_lines.specs.Digits.{is_digit, value_from}
use Rattle.text_lines.proofs.Refused.{refused_digit}
use Rattle.text_lines.proofs.reading.read_number.Goals as goal

pub returns-in_err-value : goal.returns-in_err-value
returns-in_err-value c =
    let digits = c.args.digits.now in
    let at = c.loop-digit.digit-index in
    let value = c.loop-digit.value in
    let ahead = drop-cons digits at 0 c.loop-digit-test.true in
    c.from_residual.ensures
    ∙ refused_digit c.args.most digits value (get_or digits at 0) (drop (suc at) digits)
    (c.loop-digit.invariant.digits ∙ ap (list_all is_digit) ahead)
    (c.loop-digit.invariant.value ∙ ap (value_from value) ahead) c.in_err-value.ensures

pub returns : goal.returns
returns c = grind (arith, common_steps)
