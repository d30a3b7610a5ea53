-- How a progressive state keeps its stripes: in blocks of adjacent stripes of one length (this project's own).
use Rattle.std.specs.Prelude.{◌≡◌, ℕ, ◌*◌, ◌<◌, ◌≤◌, Bool, false, cond, List, [], All, length, map, slice_index_or}
use Rattle.std.specs.Prelude.{nat_lt}
use Rattle.std.specs.List.{flat_map}
use Rattle.field_rows.specs.Columns.{block_columns}
use Rattle.field_rows.specs.Stripes.{cut}
use Rattle.field_rows.specs.declared.blocks.TheConstants.{MAX_WIDTH}

pub record HeldBlock (E : Type 0) : Type 0 where
  -- how long each stripe is
  pub size : ℕ
  -- whether its stripes are longer than the number of points that were met
  pub waits : Bool
  pub stripes : List (List E)

-- the stripes of a block: the columns of its rows while it waits for points, and then what stands one after another
abbrev pub stripes_of : {E : Type 0} → E → Bool → ℕ → ℕ → List E → List (List E)
stripes_of d waits width size places = cond waits (block_columns d width size places) (cut width size places)

-- what the places of a block keep to
pub record IsLaid {E : Type 0} (is_element : E → Type 0) (width size : ℕ) (places : List E) : Type 0 where
  pub narrow : width ≤ MAX_WIDTH
  pub whole : length places ≡ size * width
  pub elements : All is_element places

-- the stripes of all blocks
abbrev pub stripes_in : {E : Type 0} → List (HeldBlock E) → List (List E)
stripes_in blocks = flat_map (λ b. b.stripes) blocks

-- a block without stripes
abbrev pub no_block : {E : Type 0} → HeldBlock E
no_block = record { size = 0; waits = false; stripes = [] }

-- what a block keeps to after `met` points, where turning a block back takes at most `room` places
pub record IsBlock {E : Type 0} (is_element : E → Type 0) (met room : ℕ) (b : HeldBlock E) : Type 0 where
  pub each : All (λ s. (length s ≡ b.size) × All is_element s) b.stripes
  pub waits : b.waits ≡ nat_lt met b.size
  pub fits : b.size * length b.stripes ≤ room

-- no stripe is longer than `top`, and one is as long, if `top` is not zero
pub record IsLongest {E : Type 0} (stripes : List (List E)) (top : ℕ) : Type 0 where
  pub above : All (λ s. length s ≤ top) stripes
  pub reached : 0 < top → (j : ℕ) × (j < length stripes) × (length (slice_index_or stripes j []) ≡ top)

-- what is taken for stripes of these lengths before any point was met
pub record HasRoom {E : Type 0} (is_element : E → Type 0) (lengths : List ℕ) (blocks : List (HeldBlock E))
    (product spare : List E) : Type 0 where
  pub are : map length (stripes_in blocks) ≡ lengths
  pub each : All (IsBlock is_element 0 (length spare)) blocks
  pub products : All is_element product
  -- the product has as many places as the longest stripe
  pub longest : IsLongest (stripes_in blocks) (length product)

-- what a progressive state keeps to
pub record IsSound {E : Type 0} (is_element : E → Type 0) (met factors room : ℕ) (blocks : List (HeldBlock E))
    (product : List E) : Type 0 where
  pub each : All (IsBlock is_element met room) blocks
  pub products : All is_element product
  -- the product has as many places as the longest stripe
  pub longest : IsLongest (stripes_in blocks) (length product)
  -- some factors can be prepared at once
  pub some : 0 < length product → 0 < factors
