use Rattle.std.proofs.Common.{ℕ, [], ◌∷◌, ◌++◌, ap, ◌∙◌, arith}
use Rattle.text_plan.specs.PlanLines.{hex_text}
use Rattle.text_plan.proofs.HexDigits.{byte_more}
use Rattle.text_pieces.proofs.append.append_session.Goals as goal

pub loop-byte-preserved : goal.loop-byte-preserved
loop-byte-preserved c =
    let i : ℕ = c.loop-byte.byte-index in
    record {
      text =
          byte_more c.args.session.now i c.loop-byte.into.items c.push.new.self.items
          c.push-in-loop-byte.new.self.items
          (c.args.into.now.items ++ hex_text c.args.session.now) c.loop-byte-test.true
          (c.push.ensures.items ∙ ap (λ d. c.loop-byte.into.items ++ d ∷ []) c.hexadecimal_digit.ensures)
          (c.push-in-loop-byte.ensures.items
          ∙ ap (λ d. c.push.new.self.items ++ d ∷ []) c.hexadecimal_digit-in-loop-byte.ensures)
          c.loop-byte.invariant.text;
      len = omega (arith, c.push.ensures, c.push-in-loop-byte.ensures, c.loop-byte.invariant.len);
    }
