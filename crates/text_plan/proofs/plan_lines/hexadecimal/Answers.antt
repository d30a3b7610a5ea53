use Rattle.std.proofs.Common.{ℕ, ◌∷◌, [], ◌++◌, ap, ◌∙◌, arith}
use Rattle.std.specs.Prelude.{string_bytes}
use Rattle.text_plan.specs.PlanLines.{hex_text}
use Rattle.text_plan.proofs.HexDigits.{is_ascii, byte_more}
use Rattle.text_plan.proofs.plan_lines.hexadecimal.Goals as goal

pub loop-byte-preserved : goal.loop-byte-preserved
loop-byte-preserved c =
    let i : ℕ = c.loop-byte.byte-index in
    let byte = c.type_inv.bytes i in
    let high = c.hexadecimal_digit.ensures in
    let low = c.hexadecimal_digit-in-loop-byte.ensures in
    let ascii_high = c.in_ok-push.ensures.ascii (is_ascii _ c.hexadecimal_digit.result (omega (arith, byte)) high) in
    let ascii_low = c.in_ok-push-2.ensures.ascii
    (is_ascii _ c.hexadecimal_digit-in-loop-byte.result (omega arith) low) in
    byte_more c.args.bytes.now i (string_bytes c.loop-byte.text) (string_bytes c.push.new.self)
    (string_bytes c.push-in-loop-byte.new.self) (hex_text c.args.bytes.now) c.loop-byte-test.true
    (c.in_ok-push.ensures.bytes ∙ ap (λ l. string_bytes c.loop-byte.text ++ l) (ascii_high ∙ ap (λ d. d ∷ []) high))
    (c.in_ok-push-2.ensures.bytes ∙ ap (λ l. string_bytes c.push.new.self ++ l) (ascii_low ∙ ap (λ d. d ∷ []) low))
    c.loop-byte.invariant
