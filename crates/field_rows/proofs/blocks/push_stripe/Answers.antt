use Rattle.std.proofs.Common.{◌≡◌, ◌-◌, get_or, ap, sym, ◌∙◌, arith}
use Rattle.std.proofs.lemmas.List.{get_or_default}
use Rattle.field_rows.specs.Blocks.{lengths_of}
use Rattle.field_rows.proofs.FirstBlocks.{b0}
use Rattle.field_rows.proofs.Pushed.{widened, pushed}
use Rattle.field_rows.proofs.blocks.push_stripe.Goals as goal

pub returns-then-last-lt-MAX_WIDTH-clause-lengths :
    goal.returns-then-last-lt-MAX_WIDTH-clause-lengths
returns-then-last-lt-MAX_WIDTH-clause-lengths c =
    let blocks = c.args.blocks.now.items in
    let i = c.len-count.result - 1 in
    let last = c.index-last.result.now in
    let is : last ≡ get_or blocks i b0 = c.index-last.ensures ∙ get_or_default blocks i last b0 (omega arith) in
    widened blocks i c.args.length last.width (omega arith) (sym (ap (λ b. b.length) is) ∙ c.if-last-length.true)
    (sym (ap (λ b. b.width) is))

pub returns-clause-lengths : goal.returns-clause-lengths
returns-clause-lengths c = ap lengths_of c.in_ok-push.ensures.items ∙ pushed c.args.blocks.now.items c.args.length
