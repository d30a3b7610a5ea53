use Rattle.std.proofs.Common.{◌∷◌, [], List, ℕ, get_or, ap, ◌∙◌}
use Rattle.store_text.proofs.Bytes.{eight}
use Rattle.store_text.proofs.put.head_of.Goals as goal

pub returns : goal.returns
returns c =
    let s = c.args.session.now in
    let four : List ℕ → List ℕ = λ b. get_or b 0 0 ∷ get_or b 1 0 ∷ get_or b 2 0 ∷ get_or b 3 0 ∷ [] in
    ap (λ b. 80 ∷ 84 ∷ 83 ∷ 50 ∷ get_or s 0 0 ∷ get_or s 1 0 ∷ get_or s 2 0 ∷ get_or s 3 0 ∷ get_or s 4 0
    ∷ get_or s 5 0 ∷ get_or s 6 0 ∷ get_or s 7 0 ∷ four b) c.to_be_bytes.ensures
    ∙ ap (λ l. 80 ∷ 84 ∷ 83 ∷ 50 ∷ l) (eight s _ c.told-session)
