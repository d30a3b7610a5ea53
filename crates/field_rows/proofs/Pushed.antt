-- One more stripe behind those of blocks.
use Rattle.std.proofs.Common.{◌≡◌, ℕ, zero, suc, ◌+◌, List, [], ◌∷◌, ◌++◌, length, get_or, set, replicate, refl, sym}
use Rattle.std.proofs.Common.{ap, ◌∙◌, arith, append_assoc}
use Rattle.std.proofs.lemmas.List.{append-nil, replicate_more}
use Rattle.field_rows.specs.declared.blocks.Block.{Block}
use Rattle.field_rows.specs.Blocks.{lengths_of}
use Rattle.field_rows.proofs.FirstBlocks.{b0}

-- the last block is one stripe wider
pub widened : (bs : List Block) (i n w : ℕ) → suc i ≡ length bs → (get_or bs i b0).length ≡ n
    → (get_or bs i b0).width ≡ w
    → lengths_of (set bs i (record { length = n; width = w + 1 })) ≡ lengths_of bs ++ (n ∷ [])
widened [] i n w e is wide = absurd (omega arith)
widened (b ∷ []) zero n w e is wide =
    append-nil (replicate (w + 1) n) ∙ sym (replicate_more w n)
    ∙ ap (λ t. t ++ (n ∷ []))
    (sym (append-nil (replicate b.width b.length) ∙ ap (λ k. replicate k b.length) wide ∙ ap (replicate w) is))
widened (b ∷ c ∷ bs) zero n w e is wide = absurd (omega arith)
widened (b ∷ bs) (suc i) n w e is wide =
    ap (λ t. replicate b.width b.length ++ t) (widened bs i n w (omega arith) is wide)
    ∙ sym (append_assoc (replicate b.width b.length) (lengths_of bs) (n ∷ []))

-- a block of one stripe stands behind them
pub pushed : (bs : List Block) (n : ℕ)
    → lengths_of (bs ++ (record { length = n; width = 1 } ∷ [])) ≡ lengths_of bs ++ (n ∷ [])
pushed [] n = refl
pushed (b ∷ bs) n =
    ap (λ t. replicate b.width b.length ++ t) (pushed bs n)
    ∙ sym (append_assoc (replicate b.width b.length) (lengths_of bs) (n ∷ []))
