-- Stripes in blocks: a block has stripes of one length as its columns, and takes the places that they take on end. This
-- project's own.
use Rattle.std.specs.Prelude.{ℕ, ◌+◌, ◌*◌, List, [], ◌∷◌, ◌++◌, drop, replicate}
use Rattle.field_rows.specs.declared.blocks.Block.{Block}
use Rattle.field_rows.specs.Columns.{block_columns}
use Rattle.field_rows.specs.Stripes.{stripes_by}

-- how many elements the blocks have
abbrev pub size_of : List Block → ℕ
size_of [] = 0
size_of (b ∷ bs) = b.length * b.width + size_of bs

-- how many stripes they have
abbrev pub width_of : List Block → ℕ
width_of [] = 0
width_of (b ∷ bs) = b.width + width_of bs

-- how long each stripe is
abbrev pub lengths_of : List Block → List ℕ
lengths_of [] = []
lengths_of (b ∷ bs) = replicate b.width b.length ++ lengths_of bs

-- the stripes of a row on end
abbrev pub stripes_of : {E : Type 0} → List Block → List E → List (List E)
stripes_of blocks row = stripes_by (lengths_of blocks) row

-- the columns of all blocks
abbrev pub columns_of : {E : Type 0} → E → List Block → List E → List (List E)
columns_of d [] laid = []
columns_of d (b ∷ bs) laid = block_columns d b.width b.length laid ++ columns_of d bs (drop (b.length * b.width) laid)
