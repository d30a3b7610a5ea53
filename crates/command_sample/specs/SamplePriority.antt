-- The priority file of `sample`. This project's own.
use Rattle.std.specs.Prelude.{ℕ, codes, List, ◌++◌}

-- the lines of a layer: its name, the kinds that it lists, and its need
unfoldable pub layer_lines : List ℕ → List ℕ → List ℕ → List ℕ
layer_lines name kinds need =
    codes "[[layer]]\nname = \"" ++ name ++ codes "\"\nkinds = [" ++ kinds ++ codes "]\nneed = " ++ need ++ codes "\n"

-- 100 packets; headers and I pictures are shown by 60 of them, P pictures by 80, and B pictures by 95
unfoldable pub sample_priority : List ℕ
sample_priority =
    codes "packets = 100\n" ++ layer_lines (codes "base") (codes "\"head\", \"I\"") (codes "60")
    ++ layer_lines (codes "P") (codes "\"P\"") (codes "80") ++ layer_lines (codes "B") (codes "\"B\"") (codes "95")
