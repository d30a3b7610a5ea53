-- The message, its words, and the payload that they make.
use Rattle.std.proofs.Common.{◌≡◌, ℕ, ◌+◌, ◌*◌, ◌<◌, List, [], ◌∷◌, All, length, get_or, take, drop, flat_map, sym, ap}
use Rattle.std.proofs.Common.{subst, ◌∙◌, arith, refl, length-append}
use Rattle.std.proofs.lemmas.List.{length-map}
use Rattle.std.proofs.lemmas.List.Elements.{All-nil, All-head, All-tail, All-append, All-from_get_or}
use Rattle.field_elements.specs.Field.{Coding, IsCoding}
use Rattle.pet_poly.specs.Rows.{words}
use Rattle.pet_poly.specs.laws.RowLaws.{length-words, words_are, spellings_of_words}
use Rattle.field_rows.specs.Blocks.{columns_of, lengths_of, size_of, stripes_of}
use Rattle.field_rows.specs.declared.blocks.Block.{Block}
use Rattle.stripe_plan.specs.Layers.{needs_of, plan_ends, plan_stripes, stripes_from}
use Rattle.stripe_plan.specs.laws.StripeLaws.{plan_partition}
use Rattle.stripe_plan.proofs.PlanLemmas.{plan_ends_plan}
use Rattle.packet_frame.specs.declared.frame.Header.{Header}
use Rattle.packet_session.specs.Payload.{cut_in_stripes, payload_at, values_of}
use Rattle.packet_session.specs.laws.PayloadLaws.{length-values, payload_of_words, stripe_count}
use Rattle.packet_encoder.specs.Stored.{IsStored, words_in}
use Rattle.packet_encoder.proofs.Columns.{length-on_end, All-on_end, cut_again}
use Rattle.field_rows.specs.laws.BlockLaws.{column_lengths, columns_are, elements_of_columns, stripes_of_row}
use Rattle.field_rows.specs.laws.StripeLaws.{stripes_are as stripes_by_are}

module _ {E : Type 0} (P : E → Type 0) (count : ℕ) (c : Coding E) (laws : IsCoding P count c) where
  -- a row is written in `width` bytes an element
  pub length-spellings : (row : List E) → All P row → length (flat_map c.spelling row) ≡ length row * c.width
  length-spellings [] h = omega arith
  length-spellings (a ∷ row) h =
      let one : length (c.spelling a) ≡ c.width = laws.spellings.spelling_width a (All-head P a row h) in
      let more : length (flat_map c.spelling row) ≡ length row * c.width = length-spellings row (All-tail P a row h) in
      let sum : c.width + length row * c.width ≡ length (a ∷ row) * c.width = omega arith in
      length-append (c.spelling a) (flat_map c.spelling row) ∙ omega (arith, one, more, sum)

  -- and with bytes alone
  pub bytes_spellings : (row : List E) → All P row → All (λ b. b < 256) (flat_map c.spelling row)
  bytes_spellings [] h = All-nil (λ b. b < 256)
  bytes_spellings (a ∷ row) h =
      All-append (λ b. b < 256) (c.spelling a) (flat_map c.spelling row)
      (laws.spellings.spelling_bytes a (All-head P a row h)) (bytes_spellings row (All-tail P a row h))

  -- the words of a message of bytes, of which each word has `width`
  module _ (n m : ℕ) (message : List ℕ) (row : List E) (is : row ≡ words c.spelt c.width n message) (many : n ≡ m) where
    -- are as many as the message has
    pub row_length : length row ≡ m
    row_length = ap length is ∙ length-words c.spelt c.width n message ∙ many

    module _ (whole : length message ≡ m * c.width)
        (bytes : (k : ℕ) → k < length message → get_or message k 0 < 256) where
      whole_words : length message ≡ n * c.width
      whole_words = rw many whole

      all_bytes : All (λ b. b < 256) message
      all_bytes = All-from_get_or (λ b. b < 256) message 0 bytes

      -- are elements
      pub row_is : All P row
      row_is =
          subst (All P) (sym is) (words_are P c.width c.spelt c.spelling laws.spellings n message whole_words all_bytes)

      -- and are written as the message
      pub row_message : flat_map c.spelling row ≡ message
      row_message =
          ap (flat_map c.spelling) is
          ∙ spellings_of_words P c.width c.spelt c.spelling laws.spellings n message whole_words all_bytes

  -- elements that were laid out are elements
  pub laid_elements : (blocks : List Block) (row laid : List E)
      → columns_of c.ops.nought blocks laid ≡ stripes_of blocks row → length laid ≡ size_of blocks → All P row
      → All P laid
  laid_elements blocks row laid is whole h =
      elements_of_columns P c.ops.nought blocks laid whole
      (subst (All (All P)) (sym is) (stripes_by_are P (lengths_of blocks) row h))

  -- and their columns on end are the row
  pub laid_row : (blocks : List Block) (row laid : List E)
      → columns_of c.ops.nought blocks laid ≡ stripes_of blocks row → length row ≡ size_of blocks
      → words_in c blocks laid ≡ row
  laid_row blocks row laid is whole = ap (flat_map (λ s. s)) is ∙ stripes_of_row blocks row whole

  module _ (header : Header) (blocks : List Block) (laid : List E) (kept : IsStored P count c header blocks laid) where
    -- the stripes
    abbrev pub stripes : List (List E)
    stripes = columns_of c.ops.nought blocks laid

    pub are : All (All P) stripes
    are = columns_are P c.ops.nought blocks laid (omega (arith, kept.whole)) kept.elements

    -- the words of the message are elements
    pub words_are_elements : All P (words_in c blocks laid)
    words_are_elements = All-on_end P stripes are

    -- as many as the layers have
    pub words_are_whole : length (words_in c blocks laid) ≡ length (needs_of header.table.layers)
    words_are_whole = length-on_end c.ops.nought blocks laid ∙ kept.size

    -- the columns are the plan's stripes
    pub stripes_are : cut_in_stripes header.table.layers (words_in c blocks laid) ≡ stripes
    unfolding stripes_from
    stripes_are =
        cut_again (needs_of header.table.layers) (words_in c blocks laid) stripes 0 (plan_ends header.table.layers)
        (plan_partition (needs_of header.table.layers) 0 (plan_ends header.table.layers)
        (plan_ends_plan header.table.layers kept.table.needed))
        refl (column_lengths c.ops.nought blocks laid ∙ kept.lengths)

    module _ (x : E) (hx : P x) (payload : List ℕ) (is : payload ≡ values_of c stripes x) where
      -- their values are the payload of the message
      pub payload_is : payload ≡ payload_at c header.table.layers (flat_map c.spelling (words_in c blocks laid)) x
      payload_is =
          is ∙ ap (λ ss. values_of c ss x) (sym stripes_are)
          ∙ sym (payload_of_words P count c laws header.table.layers
          (words_in c blocks laid) x words_are_elements words_are_whole)

      pub payload_length : length payload ≡ c.width * length (plan_ends header.table.layers)
      payload_length =
          ap length is ∙ length-values P count c laws stripes x are hx
          ∙ ap (λ n. c.width * n) (ap length (sym stripes_are)
          ∙ length-map (plan_stripes header.table.layers) (λ s. take s.1 (drop s.0 (words_in c blocks laid)))
          ∙ stripe_count header.table.layers)
