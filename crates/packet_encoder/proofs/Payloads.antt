-- The payload of a packet, and the payloads of a range, one behind another.
use Rattle.std.proofs.Common.{◌≡◌, ℕ, inl, inr, ◌+◌, ◌*◌, ◌<◌, List, [], ◌++◌, length, take, drop, flat_map, refl}
use Rattle.std.proofs.Common.{sym, ap, ◌∙◌, arith, length-append}
use Rattle.std.proofs.lemmas.Bool.{cases_lt}
use Rattle.std.proofs.lemmas.List.{drop-take, drop_at, take_all, take-append-le}
use Rattle.field_elements.specs.Field.{Coding, IsCoding}
use Rattle.field_rows.specs.declared.blocks.Block.{Block}
use Rattle.field_values.specs.Matrix.{HasRows}
use Rattle.field_values.proofs.RowAfterRow.{row_within}
use Rattle.stripe_plan.specs.Layers.{plan_ends}
use Rattle.packet_frame.specs.Frame.{Fields}
use Rattle.packet_frame.specs.View.{fields_with}
use Rattle.packet_frame.specs.declared.frame.Header.{Header}
use Rattle.packet_session.specs.Encoding.{Encoding, frame_of, values_at}
use Rattle.packet_encoder.specs.Stored.{IsStored, words_in}
use Rattle.packet_encoder.proofs.Made.{fits, frame_is}

module _ {E : Type 0} (P : E → Type 0) (count : ℕ) (c : Coding E) (laws : IsCoding P count c)
    (header : Header) (blocks : List Block) (row : List E) (kept : IsStored P count c header blocks row)
    (e : Encoding) (view : record { header = header; message = flat_map c.spelling (words_in c blocks row) } ≡ e)
    (number : ℕ) (below : number < e.header.table.packets) where
  -- the values that a packet carries are written as its payload
  pub payload_of_values : (elements : List E) → elements ≡ values_at c e number
      → flat_map c.spelling elements ≡ (frame_of c e number).payload
  payload_of_values elements is =
      ap (λ (f : Fields). f.payload) (frame_is P count c laws header blocks row kept e view number below elements is)

  pub payload_long : length (frame_of c e number).payload ≡ c.width * length (plan_ends header.table.layers)
  payload_long =
      ap length (sym (payload_of_values (values_at c e number) refl))
      ∙ fits P count c laws header blocks row kept e view number below (values_at c e number) refl

  -- and with this payload its frame is that of the packet
  pub frame_with_is : (payload : List ℕ) → payload ≡ (frame_of c e number).payload
      → fields_with header number payload ≡ frame_of c e number
  frame_with_is payload is =
      ap (λ (p : List ℕ). fields_with header number p) (is ∙ sym (payload_of_values (values_at c e number) refl))
      ∙ frame_is P count c laws header blocks row kept e view number below (values_at c e number) refl

-- no rows
pub rows_none : {E : Type 0} (w : ℕ) (row : ℕ → List E) (items : List E) → items ≡ [] → HasRows w 0 row items
rows_none w row items none = record {
  long = ap length none ∙ omega arith;
  each = λ p l. absurd (omega arith);
}

-- one row more
pub rows_more : {E : Type 0} (w n : ℕ) (row : ℕ → List E) (before one after : List E) → HasRows w n row before
    → after ≡ before ++ one → one ≡ row n → length one ≡ w → HasRows w (n + 1) row after
rows_more {E = E} w n row before one after h grown is wide =
    let long : length before ≡ n * w = h.long in
    let both : length after ≡ length before + length one = ap length grown ∙ length-append before one in
    record {
      long = omega (arith, both, long, wide);
      each =
          λ q l.
          ap (λ (xs : List E). take w (drop (q * w) xs)) grown
          ∙ elim (cases_lt q n) [
            | inl m ↦
                sym (drop-take (q * w) w (before ++ one))
                ∙ ap (drop (q * w))
                (take-append-le (q * w + w) before one (omega (arith, row_within q n w m, long)))
                ∙ drop-take (q * w) w before ∙ h.each q m
            | inr m ↦
                let at : q ≡ n = omega arith in
                ap (λ k. take w (drop (k * w) (before ++ one))) at
                ∙ ap (take w) (drop_at before one (n * w) long) ∙ take_all w one (omega (arith, wide)) ∙ is
                ∙ ap row (sym at)
          ];
    }
