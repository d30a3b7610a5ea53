-- For callers: the text of a frame that is written in pieces, first what is before the payload, then the payload, then
-- the tag
-- of them both.
use Rattle.std.proofs.Common.{◌≡◌, ℕ, List, ◌++◌, length, drop, sym, ap, ◌∙◌, append_assoc}
use Rattle.std.proofs.lemmas.List.{drop_at}
use Rattle.packet_frame.specs.declared.format.Format.{Format}
use Rattle.packet_frame.specs.declared.format.TheConstants.{FORMAT}
use Rattle.packet_frame.specs.Frame.{Fields, tag_of, text, text_before_payload, text_in}

pub written_in : (t : Format) (f : Fields) (old first front whole last : List ℕ) (start : ℕ) → start ≡ length first
    → first ≡ old
    → front ≡ first ++ text_before_payload t f → whole ≡ front ++ f.payload
    → last ≡ whole ++ tag_of t (drop start whole) → last ≡ old ++ text_in t f
unfolding text_in
written_in t f old first front whole last start at is p q r =
    let all = text_before_payload t f ++ f.payload in
    let stands : whole ≡ first ++ all = rw (q, p) (append_assoc first (text_before_payload t f) f.payload) in
    let behind : drop start whole ≡ all = ap (λ (l : List ℕ). drop start l) stands ∙ drop_at first all start (sym at) in
    r ∙ ap (λ (l : List ℕ). whole ++ tag_of t l) behind ∙ ap (λ (l : List ℕ). l ++ tag_of t all) stands
    ∙ append_assoc first all (tag_of t all) ∙ ap (λ (l : List ℕ). l ++ (all ++ tag_of t all)) is

pub written : (f : Fields) (old first front whole last : List ℕ) (start : ℕ) → start ≡ length first → first ≡ old
    → front ≡ first ++ text_before_payload FORMAT f → whole ≡ front ++ f.payload
    → last ≡ whole ++ tag_of FORMAT (drop start whole) → last ≡ old ++ text f
written = written_in FORMAT
