-- The places of a group's pieces with one piece more.
use Rattle.std.proofs.Common.{◌≡◌, ℕ, ◌+◌, List, [], ◌∷◌, ◌++◌, sym, ◌∙◌, ap, arith, cond, append_assoc}
use Rattle.std.proofs.lemmas.List.{append-nil}
use Rattle.std.proofs.lemmas.List.Sums.{sum_by-append, sum_by-cons}
use Rattle.pet_base.specs.declared.kind.Kind.{Kind}
use Rattle.mpeg_scan.specs.declared.piece.Piece.{Piece}
use Rattle.layer_split.specs.Places.{is_kind, number_of, placed_at, placed_behind, placed}

behind_push : (before ps : List Piece) (p : Piece)
    → placed_behind before (ps ++ p ∷ []) ≡ placed_behind before ps ++ placed_at (before ++ ps) p ∷ []
behind_push before [] p = ap (λ b. placed_at b p ∷ []) (sym (append-nil before))
behind_push before (q ∷ ps) p =
    ap (λ l. placed_at before q ∷ l)
    (behind_push (before ++ q ∷ []) ps p
    ∙ ap (λ b. placed_behind (before ++ q ∷ []) ps ++ placed_at b p ∷ []) (append_assoc before (q ∷ []) ps))

pub placed_push : (group : List Piece) (p : Piece) → placed (group ++ p ∷ []) ≡ placed group ++ placed_at group p ∷ []
placed_push group p = behind_push [] group p

pub number_push : (kind : Kind) (group : List Piece) (p : Piece)
    → number_of kind (group ++ p ∷ []) ≡ number_of kind group + cond (is_kind kind p.kind) 1 0
number_push kind group p =
    let one : Piece → ℕ = λ (q : Piece). cond (is_kind kind q.kind) 1 0 in
    let last : number_of kind (p ∷ []) ≡ cond (is_kind kind p.kind) 1 0 + 0 = sum_by-cons one p [] in
    let all : number_of kind (group ++ p ∷ []) ≡ number_of kind group + number_of kind (p ∷ []) =
    sum_by-append one group (p ∷ []) in
    omega arith
