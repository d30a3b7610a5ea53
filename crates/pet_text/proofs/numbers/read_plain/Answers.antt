use Rattle.std.proofs.Common.{sym, ap, ◌∙◌}
use Rattle.pet_text.specs.inside.PlainNumbers.{begins_plain}
use Rattle.pet_text.proofs.PlainNumbers.{plain_read}
use Rattle.pet_text.proofs.numbers.read_plain.Goals as goal

pub returns : goal.returns
returns c =
    c.ok.ensures.value
    ∙ plain_read c.args.word.now c.parse.result c.parse.ensures.value.0
    (ap begins_plain (sym c.as_bytes.ensures.value) ∙ sym c.is_begun.ensures ∙ c.if-not-is_begun.false)
