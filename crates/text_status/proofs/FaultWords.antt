-- The words of a fault line.
use Rattle.std.proofs.Common.{◌≡◌, ℕ, List, ◌++◌, append_assoc, ap, sym, ◌∙◌}
use Rattle.mpeg_scan.specs.declared.refusal.Scan.{Scan}
use Rattle.text_status.specs.Statuses.{scan_text}

-- a word and a number behind it are the text of a refusal that is spelled so
pub numbered : (fault shown : Scan) (old new word digits : List ℕ) → fault ≡ shown → scan_text shown ≡ word ++ digits
    → new ≡ (old ++ word) ++ digits → new ≡ old ++ scan_text fault
numbered fault shown old new word digits is spelled ends =
    ends ∙ append_assoc old word digits ∙ ap (λ t. old ++ t) (sym spelled ∙ ap scan_text (sym is))
