-- Lines that were appended one after the other.
use Rattle.std.proofs.Common.{◌≡◌, ℕ, List, ◌++◌, append_assoc}

pub three_lines : (old first second third a b c : List ℕ) → first ≡ old ++ a → second ≡ first ++ b
    → third ≡ second ++ c → third ≡ old ++ (a ++ b ++ c)
three_lines old first second third a b c one two three = rw (three, two, one) (simp append_assoc)

pub four_lines : (old first second third fourth a b c d : List ℕ) → first ≡ old ++ a → second ≡ first ++ b
    → third ≡ second ++ c → fourth ≡ third ++ d → fourth ≡ old ++ (a ++ b ++ c ++ d)
four_lines old first second third fourth a b c d one two three four =
    rw (four, three, two, one) (simp append_assoc)
