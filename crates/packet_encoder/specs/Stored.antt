-- What the fields of an encoder keep. This project's own.
use Rattle.std.specs.Prelude.{◌≡◌, ℕ, ◌<◌, ◌≤◌, List, length, All}
use Rattle.std.specs.List.{flat_map}
use Rattle.pet_base.specs.declared.limits.TheConstants.{MAX_GROUPS}
use Rattle.field_elements.specs.Field.{Coding}
use Rattle.field_rows.specs.Blocks.{columns_of, lengths_of, size_of}
use Rattle.field_rows.specs.declared.blocks.Block.{Block}
use Rattle.field_rows.specs.declared.blocks.TheConstants.{MAX_WIDTH}
use Rattle.stripe_plan.specs.Layers.{needs_of, stripe_lengths}
use Rattle.stripe_plan.specs.Sizes.{IsTable}
use Rattle.packet_frame.specs.declared.format.Format.{Format}
use Rattle.packet_frame.specs.declared.frame.Header.{Header}
use Rattle.packet_frame.specs.Format.{IsFormat}
use Rattle.packet_frame.specs.Planned.{IsPlanTableIn}

-- the words that are laid out in these blocks, in order: the stripes on end
abbrev pub words_in : {E : Type 0} → Coding E → List Block → List E → List E
words_in c blocks laid = flat_map (λ stripe. stripe) (columns_of c.ops.nought blocks laid)

-- a field with a point for each packet, a header in its ranges, and an element for each word, laid out in blocks whose
-- columns are
-- as long as the plan's stripes
pub record IsStored {E : Type 0} (is_element : E → Type 0) (count : ℕ) (c : Coding E) (header : Header)
    (blocks : List Block) (laid : List E) : Type 0 where
  pub points : header.table.packets ≤ count
  pub groups : header.groups ≤ MAX_GROUPS
  pub group : header.group < header.groups
  pub table : IsTable header.table.packets header.table.layers
  pub narrow : All (λ b. b.width ≤ MAX_WIDTH) blocks
  pub lengths : lengths_of blocks ≡ stripe_lengths header.table.layers
  pub size : size_of blocks ≡ length (needs_of header.table.layers)
  pub elements : All is_element laid
  pub whole : length laid ≡ size_of blocks

-- a format whose words are as wide as an element of the field, and whose tables are as the header's is, by the layers
-- whose words
-- its plan cuts
pub record IsCoded (t : Format) (width : ℕ) (header : Header) : Type 0 where
  pub format : IsFormat t
  pub word : t.word ≡ width
  pub table : IsPlanTableIn t.bounds header.table.packets header.table.layers
