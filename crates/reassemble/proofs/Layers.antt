-- The leading layers, one by one, and the lengths of their bytes.
use Rattle.std.proofs.Common.{◌≡◌, ℕ, ◌+◌, ◌*◌, ◌<◌, ◌≤◌, Bool, List, [], ◌∷◌, ◌++◌, length, map, drop, get_or, Option}
use Rattle.std.proofs.Common.{None, Some, Result, Ok, Err, refl, sym, ap, subst, ◌∙◌, arith, inl, inr}
use Rattle.std.specs.Prelude.{IfOk, OnOk, option_map}
use Rattle.std.specs.List.{range_with_len}
use Rattle.std.proofs.lemmas.Bool.{cases_eq}
use Rattle.std.proofs.lemmas.List.{length-take-le, length-drop, length-map, length_push, get_or_append_left}
use Rattle.std.proofs.lemmas.List.{get_or_push, get_or-map, map_push}
use Rattle.std.proofs.lemmas.Option.{MatchOption-at_some, same_Some}
use Rattle.std.proofs.lemmas.List.FromFn.{map-range_with_len_more}
use Rattle.field_elements.specs.Field.{Coding}
use Rattle.stripe_plan.specs.declared.layer.LayerSize.{LayerSize}
use Rattle.stripe_plan.specs.Layers.{words_before}
use Rattle.packet_frame.specs.declared.frame.Header.{Header}
use Rattle.packet_set.specs.Packets.{Packets}
use Rattle.packet_session.specs.Session.{length_of_layer}
use Rattle.pet_receive.specs.Arrivals.{layers_of}
use Rattle.packet_verdicts.specs.KeptSet.{KeptSet, open_group}
use Rattle.pet_receive.specs.ShownBytes.{IsShown, IsShownIn, IsShownBytes}
use Rattle.packet_group.specs.laws.Needs.{layer_inside, length_is, length_all}
use Rattle.reassemble.specs.declared.leading.ShownLayer.{ShownLayer}
use Rattle.reassemble.specs.Leading.{AreShownBytes, lengths_in}
use Rattle.reassemble.specs.inside.Taking.{bytes_each, first_of}
use Rattle.layer_split.specs.RunTable.{fits}

-- one element more
pub at_push : {X : Type 0} (Q : ℕ → X → Type 0) (xs : List X) (x d : X) (n : ℕ) → length xs ≡ n
    → ((i : ℕ) → i < length xs → Q i (get_or xs i d)) → Q n x → (i : ℕ) → i < length (xs ++ x ∷ [])
    → Q i (get_or (xs ++ x ∷ []) i d)
at_push Q xs x d n many so_far last i lt = elim (cases_eq i n) [
  | inl here ↦ subst (λ k. Q k (get_or (xs ++ x ∷ []) k d)) (sym here)
      (subst (Q n) (sym (get_or_push xs x d n many)) last)
  | inr other ↦
      (let inside : i < length xs = omega (arith, length_push xs x) in
      subst (Q i) (sym (get_or_append_left xs (x ∷ []) d i inside)) (so_far i inside))
]

abbrev bytes_at : List ShownLayer → List (List ℕ)
bytes_at layers = map (λ (e : ShownLayer). e.bytes.now) layers

module _ {E : Type 0} (P : E → Type 0) (c : Coding E) where
  pub bytes_more : (p : Packets) (numbers : List ℕ) (layers new : List ShownLayer) (one : ShownLayer) (n : ℕ)
      → length layers ≡ n → new ≡ layers ++ one ∷ []
      → AreShownBytes P c p numbers (bytes_at layers) → IsShownBytes P c p numbers n one.bytes.now
      → AreShownBytes P c p numbers (bytes_at new)
  bytes_more p numbers layers new one n many items so_far last =
      subst (AreShownBytes P c p numbers)
      (sym (ap bytes_at items ∙ map_push (λ (e : ShownLayer). e.bytes.now) layers one))
      (at_push (IsShownBytes P c p numbers) (bytes_at layers) one.bytes.now [] n
      (length-map layers (λ (e : ShownLayer). e.bytes.now) ∙ many) so_far last)

  -- the bytes of a layer are as many as the table says
  pub shown_length : (p : Packets) (numbers : List ℕ) (layer : ℕ) (bytes : List ℕ) → 2 ≤ c.width
      → layer < length (layers_of p) → IsShownBytes P c p numbers layer bytes
      → length bytes ≡ get_or (lengths_in p) layer 0
  shown_length p numbers layer bytes wide lt s =
      let layers : List LayerSize = layers_of p in
      let d : LayerSize = record { length = 0; need = 0 } in
      let start : ℕ = words_before layers layer * c.width in
      let size : length_of_layer c.width layers layer ≡ (get_or layers layer d).length =
      length_all c.width layers layer d wide lt in
      let inside = layer_inside c.width layers layer d lt in
      let room : length_of_layer c.width layers layer ≤ length (drop start s.message) =
      omega (arith, length_is c.width layers layer d lt, inside, s.is_message.whole, length-drop start s.message) in
      ap length s.bytes_are
      ∙ (length-take-le (length_of_layer c.width layers layer) (drop start s.message) room
      ∙ (size ∙ sym (get_or-map (λ (l : LayerSize). l.length) layers layer d 0 lt)))

pub shown_in : (set : KeptSet) (group layer : ℕ) (p : Packets) → open_group set group ≡ Some p
    → IsShown set group layer → IsShownIn p layer
shown_in set group layer p opened shown = MatchOption-at_some ⊥ (λ (q : Packets). IsShownIn q layer) p opened shown

pub map_more : (f : ℕ → List ℕ) (layers new : List ShownLayer) (one : ShownLayer) (n : ℕ) → new ≡ layers ++ one ∷ []
    → bytes_at layers ≡ map f (range_with_len 0 n) → one.bytes.now ≡ f n
    → bytes_at new ≡ map f (range_with_len 0 (n + 1))
map_more f layers new one n items so_far last =
    ap bytes_at items
    ∙ (map_push (λ (e : ShownLayer). e.bytes.now) layers one
    ∙ (ap (λ l. l ++ one.bytes.now ∷ []) so_far
    ∙ (ap (λ b. map f (range_with_len 0 n) ++ b ∷ []) last ∙ sym (map-range_with_len_more f 0 n n (omega arith)))))

-- a group that is open has the header that a receiver lends out
pub opened : (o : Option Packets) (h : Header) → Some h ≡ option_map (λ (p : Packets). p.header) o
    → (p : Packets) × (o ≡ Some p)
opened None h e = absurd (cc)
opened (Some p) h e = (p, refl)

pub lent : (o : Option Packets) (h : Header) (p : Packets) → Some h ≡ option_map (λ (q : Packets). q.header) o
    → o ≡ Some p → h ≡ p.header
lent o h p e is = same_Some h p.header (e ∙ ap (option_map (λ (q : Packets). q.header)) is)

-- the lengths that are read of it are those of the group's layers
pub lengths_read : (o : Option Packets) (h : Header) (p : Packets) (layers : List LayerSize) (lengths : List ℕ)
    → Some h ≡ option_map (λ (q : Packets). q.header) o → o ≡ Some p → layers ≡ h.table.layers
    → lengths ≡ map (λ (l : LayerSize). l.length) layers → lengths ≡ lengths_in p
lengths_read o h p layers lengths e is layers_are lengths_are =
    lengths_are
    ∙ ap (map (λ (l : LayerSize). l.length)) (layers_are ∙ ap (λ (x : Header). x.table.layers) (lent o h p e is))

-- layer 0 of the layers that are lent out as this slice has a run table that fits these, or has none
pub fits_so : (items slice : List ShownLayer) (lengths : List ℕ) (p : Packets) (so : Bool) → slice ≡ items
    → lengths ≡ lengths_in p → fits (first_of (bytes_each slice)) lengths ≡ so
    → fits (first_of (bytes_each items)) (lengths_in p) ≡ so
fits_so items slice lengths p so same lengths_are is =
    ap (fits (first_of (bytes_each items))) (sym lengths_are)
    ∙ (ap (λ (l : List ShownLayer). fits (first_of (bytes_each l)) lengths) (sym same) ∙ is)

-- what three clauses on an answer come to
pub on_ok : {F : Type 0} (r : Result ℕ F) {P R : ℕ → Type 0} {A B : Type 0} → IfOk r P → OnOk r A → OnOk r B
    → ((k : ℕ) → P k → A → B → R k) → IfOk r R
on_ok (Ok k) p a b f = f k p a b
on_ok (Err e) p a b f = tt
