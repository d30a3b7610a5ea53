-- What a call appended, and what calls one after another appended.
use Rattle.std.proofs.Common.{◌≡◌, List, ◌++◌, length, drop, sym, ◌∙◌, ap, append_assoc}
use Rattle.std.proofs.Math.Seq.{drop-append_seam, drop-length}
use Rattle.std.proofs.lemmas.List.{append-nil}
use Rattle.mpeg_scan.specs.declared.piece.Piece.{Piece}
use Rattle.mpeg_scan.specs.Scanning.{added, HasGrown}

pub added_by : (old new more : List Piece) → new ≡ old ++ more → added old new ≡ more
added_by old new more e = ap (drop (length old)) e ∙ drop-append_seam old more

pub grown_by : (old new more : List Piece) → new ≡ old ++ more → HasGrown old new
grown_by old new more e = e ∙ ap (λ l. old ++ l) (sym (added_by old new more e))

pub added_none : (old given : List Piece) → given ++ added old old ≡ given
added_none old given = ap (λ l. given ++ l) (drop-length old) ∙ append-nil given

both : (first middle last : List Piece) → HasGrown first middle → HasGrown middle last
    → last ≡ first ++ (added first middle ++ added middle last)
both first middle last h k =
    k ∙ (ap (λ l. l ++ added middle last) h ∙ append_assoc first (added first middle) (added middle last))

pub grown_both : (first middle last : List Piece) → HasGrown first middle → HasGrown middle last → HasGrown first last
grown_both first middle last h k =
    grown_by first last (added first middle ++ added middle last) (both first middle last h k)

pub added_both : (first middle last given : List Piece) → HasGrown first middle → HasGrown middle last
    → (given ++ added first middle) ++ added middle last ≡ given ++ added first last
added_both first middle last given h k =
    append_assoc given (added first middle) (added middle last)
    ∙ ap (λ l. given ++ l)
    (sym (added_by first last (added first middle ++ added middle last) (both first middle last h k)))
