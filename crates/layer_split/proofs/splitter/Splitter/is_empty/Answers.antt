-- No run, and so no piece.
use Rattle.std.proofs.Common.{◌≡◌, ◌∙◌, sym, length, rules, arith, eqb-true, eq-eqb}
use Rattle.layer_split.proofs.Holding.{none_is_empty}
use Rattle.layer_split.proofs.splitter.Splitter.is_empty.Goals as goal

pub returns-then-self : goal.returns-then-self
returns-then-self c lo group h =
    let l : length c.args.self.now.runs.items ≡ Rattle.std.specs.Vec.vec_len c.args.self.now.runs = search rules in
    let parts = none_is_empty c.args.self.now lo group h (omega arith) in (
      λ is. parts.0 (l ∙ eqb-true _ _ (sym c.is_empty.ensures ∙ is)),
      λ none. c.is_empty.ensures ∙ eq-eqb _ _ (sym l ∙ parts.1 none),
    )
