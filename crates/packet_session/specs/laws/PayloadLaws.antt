-- What callers may conclude about payloads: their length, and the payload by the words of a row.
use Rattle.std.proofs.Common.{◌≡◌, ℕ, ◌+◌, ◌*◌, ◌<◌, List, [], ◌∷◌, All, length, take, drop, map, sym, ap, ◌∙◌, arith}
use Rattle.std.specs.List.{flat_map}
use Rattle.std.proofs.lemmas.List.{length-append, length-map}
use Rattle.std.proofs.lemmas.List.Elements.{All-nil, All-cons, All-head, All-tail, All-take, All-drop}
use Rattle.field_elements.specs.Field.{Coding, IsCoding}
use Rattle.pet_poly.specs.Value.{value}
use Rattle.pet_poly.specs.laws.HornerLaws.{value_is}
use Rattle.pet_poly.specs.Rows.{words}
use Rattle.pet_poly.specs.laws.RowLaws.{words_are, words_of_spellings}
use Rattle.stripe_plan.specs.Layers.{needs_of, plan_ends, plan_stripes, stripes_from}
use Rattle.stripe_plan.specs.Plan.{plan_from}
use Rattle.stripe_plan.specs.laws.StripeLaws.{length-stripes_of}
use Rattle.stripe_plan.specs.declared.layer.LayerSize.{LayerSize}
use Rattle.packet_session.specs.Payload.{cut_in_stripes, payload_at, values_of}

-- there is a stripe for each end of the plan
pub stripe_count : (layers : List LayerSize) → length (plan_stripes layers) ≡ length (plan_ends layers)
unfolding stripes_from
stripe_count layers = length-stripes_of 0 (plan_from (needs_of layers) 0)

module _ {E : Type 0} (P : E → Type 0) (count : ℕ) (c : Coding E) (laws : IsCoding P count c) where
  -- a value takes `width` bytes
  pub length-values : (stripes : List (List E)) (x : E) → All (All P) stripes → P x
      → length (values_of c stripes x) ≡ c.width * length stripes
  length-values [] x h hx = omega arith
  length-values (stripe ∷ stripes) x h hx =
      let one : length (c.spelling (value c.ops stripe x)) ≡ c.width =
      laws.spellings.spelling_width (value c.ops stripe x)
      (value_is P c.ops laws.field stripe x (All-head (All P) stripe stripes h) hx) in
      let more : length (values_of c stripes x) ≡ c.width * length stripes =
      length-values stripes x (All-tail (All P) stripe stripes h) hx in
      let sum : c.width + c.width * length stripes ≡ c.width * length (stripe ∷ stripes) = omega arith in
      length-append (c.spelling (value c.ops stripe x)) (values_of c stripes x) ∙ omega (arith, one, more, sum)

  -- the stripes of a row of elements have elements
  pub cut_are : (row : List E) (stripes : List (ℕ × ℕ)) → All P row
      → All (All P) (map (λ s. take s.1 (drop s.0 row)) stripes)
  cut_are row [] h = All-nil (All P)
  cut_are row (s ∷ stripes) h =
      All-cons (All P) (take s.1 (drop s.0 row)) (map (λ t. take t.1 (drop t.0 row)) stripes)
      (All-take P s.1 (drop s.0 row) (All-drop P s.0 row h)) (cut_are row stripes h)

  -- the payload of the message that these words make
  pub payload_of_words : (layers : List LayerSize) (row : List E) (x : E) → All P row
      → length row ≡ length (needs_of layers)
      → payload_at c layers (flat_map c.spelling row) x ≡ values_of c (cut_in_stripes layers row) x
  payload_of_words layers row x h whole =
      let back : words c.spelt c.width (length (needs_of layers)) (flat_map c.spelling row) ≡ row =
      ap (λ n. words c.spelt c.width n (flat_map c.spelling row)) (sym whole)
      ∙ words_of_spellings P c.width c.spelt c.spelling laws.spellings row h in
      ap (λ ws. values_of c (cut_in_stripes layers ws) x) back

  -- a payload has `width` bytes for each stripe of the plan
  pub length-payload : (layers : List LayerSize) (message : List ℕ) (x : E)
      → length message ≡ length (needs_of layers) * c.width → All (λ b. b < 256) message → P x
      → length (payload_at c layers message x) ≡ c.width * length (plan_ends layers)
  length-payload layers message x whole bytes hx =
      let row = words c.spelt c.width (length (needs_of layers)) message in
      length-values (cut_in_stripes layers row) x
      (cut_are row (plan_stripes layers)
      (words_are P c.width c.spelt c.spelling laws.spellings (length (needs_of layers)) message whole bytes)) hx
      ∙ ap (◌*◌ c.width) (length-map (plan_stripes layers) (λ s. take s.1 (drop s.0 row)) ∙ stripe_count layers)
