-- What an encoder makes, from what its steps tell.
use Rattle.std.proofs.Common.{◌≡◌, ◌∙◌, ℕ, ◌*◌, ◌<◌, List, ◌++◌, All, length, map, take, drop, flat_map, sym, ap, ap₂}
use Rattle.std.proofs.Common.{subst, arith}
use Rattle.std.proofs.lemmas.List.{length-map}
use Rattle.std.proofs.lemmas.List.Elements.{All-map}
use Rattle.std.proofs.lemmas.List.Folds.{flat_map-map}
use Rattle.field_elements.specs.Field.{Coding, IsCoding}
use Rattle.pet_poly.specs.Value.{value}
use Rattle.pet_poly.specs.laws.HornerLaws.{value_is}
use Rattle.pet_poly.specs.Rows.{words}
use Rattle.pet_poly.specs.laws.RowLaws.{words_of_spellings}
use Rattle.field_rows.specs.Blocks.{columns_of, width_of}
use Rattle.field_rows.specs.declared.blocks.Block.{Block}
use Rattle.field_rows.specs.laws.BlockLaws.{width_is_count}
use Rattle.stripe_plan.specs.Layers.{needs_of, plan_ends, plan_stripes}
use Rattle.packet_frame.specs.Frame.{Fields}
use Rattle.packet_frame.specs.Planned.{planned_text}
use Rattle.packet_frame.specs.declared.format.Format.{Format}
use Rattle.packet_frame.specs.View.{fields_with}
use Rattle.packet_frame.specs.declared.frame.Header.{Header}
use Rattle.packet_session.specs.Encoding.{Encoding, frame_of, values_at}
use Rattle.packet_session.specs.Payload.{cut_in_stripes, values_of}
use Rattle.packet_encoder.specs.Stored.{IsStored, words_in}
use Rattle.packet_session.specs.laws.PayloadLaws.{stripe_count}
use Rattle.packet_encoder.proofs.Message.{are, payload_is, payload_length, stripes_are, words_are_elements}
use Rattle.packet_encoder.proofs.Message.{words_are_whole}

-- the values that a packet carries are those of the columns at its point
pub carries : {E : Type 0} (P : E → Type 0) (count : ℕ) (c : Coding E) (laws : IsCoding P count c) (header : Header)
    (blocks : List Block) (row : List E) (kept : IsStored P count c header blocks row)
    (e : Encoding) → record { header = header; message = flat_map c.spelling (words_in c blocks row) } ≡ e
    → (number : ℕ)
    → values_at c e number ≡ map (λ s. value c.ops s (c.point_of number)) (columns_of c.ops.nought blocks row)
carries {E = E} P count c laws header blocks row kept e view number =
    let layers = header.table.layers in
    let ws : List E = words_in c blocks row in
    let are_elements = words_are_elements P count c laws header blocks row kept in
    let whole = words_are_whole P count c laws header blocks row kept in
    let back : words c.spelt c.width (length (needs_of layers)) (flat_map c.spelling ws) ≡ ws =
    ap (λ n. words c.spelt c.width n (flat_map c.spelling ws)) (sym whole)
    ∙ words_of_spellings P c.width c.spelt c.spelling laws.spellings ws are_elements in
    ap (λ (d : Encoding). values_at c d number) (sym view)
    ∙ ap (λ (xs : List E). map (λ s. value c.ops s (c.point_of number)) (cut_in_stripes layers xs)) back
    ∙ ap (map (λ s. value c.ops s (c.point_of number))) (stripes_are P count c laws header blocks row kept)

module _ {E : Type 0} (P : E → Type 0) (count : ℕ) (c : Coding E) (laws : IsCoding P count c)
    (header : Header) (blocks : List Block) (row : List E) (kept : IsStored P count c header blocks row) where
  -- the blocks have as many stripes as the plan
  pub blocks_wide : (n : ℕ) (bs : List Block) → n ≡ length (plan_stripes header.table.layers) → bs ≡ blocks
      → n ≡ width_of bs
  blocks_wide n bs is at =
      is ∙ sym (ap width_of at ∙ width_is_count blocks ∙ ap length kept.lengths
      ∙ length-map (plan_stripes header.table.layers) (λ s. s.1))

  module _ (e : Encoding) (view : record { header = header; message = flat_map c.spelling (words_in c blocks row) } ≡ e)
      (number : ℕ) (below : number < e.header.table.packets) where
    -- the number has a point
    point_below : number < count
    point_below =
        let here : number < header.table.packets =
        subst (λ (d : Encoding). number < d.header.table.packets) (sym view) below in
        omega (arith, here, kept.points)

    module _ (n : ℕ) (from : n ≡ number) where
      pub has_point : n < count
      has_point = omega (arith, from, point_below)

      pub is_point : (x : E) → x ≡ c.point_of n → P x
      is_point x e = subst P (sym e) (laws.points.point_is n has_point)

      -- the values of the columns are those that the packet carries
      pub seen : (x : E) (point : x ≡ c.point_of n) (bs : List Block) (lent values elements : List E)
          (at : bs ≡ blocks) (same : lent ≡ row)
          (is : values ≡ map (λ s. value c.ops s x) (columns_of c.ops.nought bs lent)) (copied : elements ≡ values)
          → elements ≡ values_at c e number
      seen x point bs lent values elements at same is copied =
          copied ∙ is ∙ ap₂ (λ k l. map (λ s. value c.ops s x) (columns_of c.ops.nought k l)) at same
          ∙ ap (λ y. map (λ s. value c.ops s y) (columns_of c.ops.nought blocks row)) (point ∙ ap c.point_of from)
          ∙ sym (carries P count c laws header blocks row kept e view number)

    module _ (elements : List E) (is : elements ≡ values_at c e number) where
      here : P (c.point_of number)
      here = laws.points.point_is number point_below

      made_of : elements ≡ map (λ s. value c.ops s (c.point_of number)) (columns_of c.ops.nought blocks row)
      made_of = is ∙ carries P count c laws header blocks row kept e view number

      made_at : flat_map c.spelling elements ≡ values_of c (columns_of c.ops.nought blocks row) (c.point_of number)
      made_at =
          ap (flat_map c.spelling) made_of
          ∙ flat_map-map c.spelling (λ s. value c.ops s (c.point_of number)) (columns_of c.ops.nought blocks row)

      -- the values that it carries are elements
      pub values_are : All P elements
      values_are =
          subst (All P) (sym made_of)
          (All-map P (λ s. value c.ops s (c.point_of number)) (columns_of c.ops.nought blocks row)
          (λ i d l. value_is P c.ops laws.field _ (c.point_of number)
          (are P count c laws header blocks row kept i d l) here))

      -- one for each stripe
      pub values_count : c.width * length elements ≡ c.width * length (plan_ends header.table.layers)
      values_count =
          let columns : length elements ≡ length (columns_of c.ops.nought blocks row) =
          ap length made_of
          ∙ length-map (columns_of c.ops.nought blocks row) (λ s. value c.ops s (c.point_of number)) in
          let stripes : length (columns_of c.ops.nought blocks row) ≡ length (plan_stripes header.table.layers) =
          ap length (sym (stripes_are P count c laws header blocks row kept))
          ∙ length-map (plan_stripes header.table.layers) (λ s. take s.1 (drop s.0 (words_in c blocks row))) in
          ap (λ n. c.width * n) (columns ∙ stripes ∙ stripe_count header.table.layers)

      pub fits : length (flat_map c.spelling elements) ≡ c.width * length (plan_ends header.table.layers)
      fits =
          payload_length P count c laws header blocks row kept (c.point_of number) here
          (flat_map c.spelling elements) made_at

      pub frame_is : fields_with header number (flat_map c.spelling elements) ≡ frame_of c e number
      frame_is =
          ap (fields_with header number)
          (payload_is P count c laws header blocks row kept (c.point_of number) here
          (flat_map c.spelling elements) made_at)
          ∙ ap (λ (d : Encoding). frame_of c d number) view

-- the text of one frame is that of an equal one
pub appended : (t : Format) (old new : List ℕ) (made defined : Fields) → made ≡ defined
    → new ≡ old ++ planned_text t made → new ≡ old ++ planned_text t defined
appended t old new made defined same h = subst (λ (f : Fields). new ≡ old ++ planned_text t f) same h
