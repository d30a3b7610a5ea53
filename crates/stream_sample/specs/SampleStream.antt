-- The stream of `sample`: so many groups of made pictures, whose bytes the generator fills from a seed on. This
-- project's own.
use Rattle.std.specs.Prelude.{ℕ, zero, suc, ◌-◌, List, [], ◌∷◌, ◌++◌}
use Rattle.stream_sample.specs.declared.groups.Picture.{Picture}
use Rattle.stream_sample.specs.declared.groups.TheConstants.{HEADERS, PICTURE_HEAD, PICTURES}
use Rattle.stream_sample.specs.Filler.{bytes_from, state_after}

abbrev pub picture : ℕ → ℕ → Picture
picture kind size = record { kind = kind; size = size }

-- how many bytes of a picture are filled
abbrev pub filled_in : Picture → ℕ
filled_in p = p.size - PICTURE_HEAD

-- what stands before them: the start code and the header of a picture of this type byte, and the start code of a slice
abbrev pub picture_head : ℕ → List ℕ
picture_head kind = 0 ∷ 0 ∷ 1 ∷ 0 ∷ 0 ∷ kind ∷ 0xFF ∷ 0xF8 ∷ 0 ∷ 0 ∷ 1 ∷ 1 ∷ []

-- a picture, and the generator's number behind it
unfoldable pub picture_text : ℕ → Picture → List ℕ
picture_text x p = picture_head p.kind ++ bytes_from x (filled_in p)

unfoldable pub state_behind_picture : ℕ → Picture → ℕ
state_behind_picture x p = state_after x (filled_in p)

-- some pictures, each from the number behind the one before
unfoldable pub pictures_text : ℕ → List Picture → List ℕ
pictures_text x [] = []
pictures_text x (p ∷ rest) = picture_text x p ++ pictures_text (state_behind_picture x p) rest

unfoldable pub state_behind : ℕ → List Picture → ℕ
state_behind x [] = x
state_behind x (p ∷ rest) = state_behind (state_behind_picture x p) rest

-- a group, and the number behind it
unfoldable pub group_text : ℕ → List ℕ
group_text x = HEADERS ++ pictures_text x PICTURES

unfoldable pub state_behind_group : ℕ → ℕ
state_behind_group x = state_behind x PICTURES

-- the stream of so many groups
unfoldable pub sample_text : ℕ → ℕ → List ℕ
sample_text x zero = []
sample_text x (suc groups) = group_text x ++ sample_text (state_behind_group x) groups
