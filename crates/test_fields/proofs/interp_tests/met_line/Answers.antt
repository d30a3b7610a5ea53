use Rattle.std.proofs.Common.{◌≡◌, ◌≢◌, ◌∙◌, [], ap, sym, arith, length, get_or}
use Rattle.std.proofs.Math.ListN.{get_or-map}
use Rattle.std.proofs.lemmas.List.Elements.{All-push, All-nil}
use Rattle.test_fields.proofs.interp_tests.met_line.Goals as goal

pub add-requires-2-clause-stands : goal.add-requires-2-clause-stands
add-requires-2-clause-stands g c = (
  _,
  (
    c.add.ensures.stands [] c.in_ok-progress.ensures.stands (λ k d l. absurd (omega arith)),
    All-push (λ p. c.args.second.0 ≢ p.0) [] _ (All-nil _) (λ e. c.requires.other (sym e)),
  ),
)

pub coefficients-coefficients-requires-clause-enough : goal.coefficients-coefficients-requires-clause-enough
coefficients-coefficients-requires-clause-enough g c =
    let e : length (get_or c.add-2.new.self.stripes 0 []) ≡ 2 =
    sym (get_or-map length c.add-2.new.self.stripes 0 [])
    ∙ ap (λ l. get_or l 0 0) (c.add-2.ensures.lengths ∙ c.add.ensures.lengths ∙ c.in_ok-progress.ensures.lengths) in
    omega (arith, e, c.add-2.ensures.met, c.add.ensures.met, c.in_ok-progress.ensures.stands.met)
