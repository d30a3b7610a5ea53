-- The message of a group's layers is the group's, where that has the byte 0 past each odd end.
use Rattle.std.proofs.Common.{◌≡◌, ℕ, true, zero, suc, ◌+◌, ◌*◌, ◌%◌, ◌<◌, ◌≤◌, List, [], ◌∷◌, ◌++◌, length, take}
use Rattle.std.proofs.Common.{drop, refl, sym, ap, ap₂, subst, ◌∙◌, arith, inl, inr}
use Rattle.std.specs.Prelude.{◌==◌, slice_index, slice_index_or, Some}
use Rattle.std.specs.Int.{div_ceil}
use Rattle.std.proofs.lemmas.Bool.{cond-true, cond-false, cases_Bool, cases_lt, eq-eqb}
use Rattle.std.proofs.lemmas.Grind.{flat_map-append}
use Rattle.std.proofs.lemmas.Bool.Decides.{nat_tests}
use Rattle.std.proofs.lemmas.List.{length-append, length-take-le, length-drop, get_or-drop, drop-drop}
use Rattle.std.proofs.lemmas.List.{take-append-drop, nil_from_length, length_push, append-nil, get_or_append_left}
use Rattle.std.proofs.Math.Seq.{take-suc}
use Rattle.std.proofs.lemmas.List.Sums.{sum_by-cons}
use Rattle.stripe_plan.specs.declared.layer.LayerSize.{LayerSize}
use Rattle.stripe_plan.specs.Layers.{words_of, words_before, needs_of}
use Rattle.stripe_plan.proofs.LayerLemmas.{length-needs_of}
use Rattle.packet_set.specs.Packets.{Packets}
use Rattle.field_elements.specs.Field.{Coding}
use Rattle.packet_session.specs.Session.{IsMessage, bytes_of_layer, length_of_layer}
use Rattle.packet_verdicts.specs.KeptSet.{open_group}
use Rattle.packet_group.specs.laws.Needs.{layer_inside, length_is, bytes_all}
use Rattle.pet_receive.specs.Arrivals.{Order, ReceiverState, HasKept, kept_set, layers_of}
use Rattle.pet_receive.specs.ShownBytes.{Agrees}
use Rattle.packet_rebuild.specs.Message.{padded, message_of, HasZeroEnds}
use Rattle.packet_rebuild.specs.Making.{HasLayer, HasLayers}

pub padded_length : (bytes : List ℕ) → length (padded bytes) ≡ div_ceil (length bytes) 2 * 2
padded_length bytes = elim (cases_Bool (length bytes % 2 == 1)) [
  | inl e ↦
      let odd : length bytes % 2 ≡ 1 = grind (arith, nat_tests) in
      ap length (cond-true (length bytes % 2 == 1) (bytes ++ 0 ∷ []) bytes e) ∙ length-append bytes (0 ∷ [])
      ∙ (omega arith)
  | inr e ↦
      let even : length bytes % 2 ≡ 0 = grind (arith, nat_tests) in
      ap length (cond-false (length bytes % 2 == 1) (bytes ++ 0 ∷ []) bytes e) ∙ (omega arith)
]

-- the front of a message, in whole words
front_padded : (n : ℕ) (m : List ℕ) → div_ceil n 2 * 2 ≤ length m → (n % 2 ≡ 1 → slice_index m n ≡ 0)
    → padded (take n m) ≡ take (div_ceil n 2 * 2) m
front_padded n m room zeros =
    let inside : n ≤ length m = omega (arith, room) in
    let long : length (take n m) ≡ n = length-take-le n m inside in
    elim (cases_Bool (n % 2 == 1)) [
      | inl e ↦
          let odd : n % 2 ≡ 1 = grind (arith, nat_tests) in
          let test : (length (take n m) % 2 == 1) ≡ (n % 2 == 1) = ap (λ (k : ℕ). k % 2 == 1) long in
          let size : div_ceil n 2 * 2 ≡ suc n = omega arith in
          cond-true (length (take n m) % 2 == 1) (take n m ++ 0 ∷ []) (take n m) (test ∙ e)
          ∙ ap (λ (b : ℕ). take n m ++ b ∷ []) (sym (zeros odd))
          ∙ sym (take-suc m n 0 (omega (arith, room, size)))
          ∙ ap (λ (k : ℕ). take k m) (sym size)
      | inr e ↦
          let even : n % 2 ≡ 0 = grind (arith, nat_tests) in
          let test : (length (take n m) % 2 == 1) ≡ (n % 2 == 1) = ap (λ (k : ℕ). k % 2 == 1) long in
          let size : div_ceil n 2 * 2 ≡ n = omega arith in
          cond-false (length (take n m) % 2 == 1) (take n m ++ 0 ∷ []) (take n m) (test ∙ e)
          ∙ ap (λ (k : ℕ). take k m) (sym size)
    ]

-- one layer more at the front: where the later ones stand
later_at : (l : LayerSize) (layers : List LayerSize) (i : ℕ)
    → words_before (l ∷ layers) (suc i) * 2 ≡ words_of l * 2 + words_before layers i * 2
later_at l layers i = omega (arith, sum_by-cons words_of l (Rattle.std.specs.Prelude.take i layers))

pub message_whole : (layers : List LayerSize) (m : List ℕ) (ls : List (List ℕ))
    → length m ≡ length (needs_of layers) * 2 → length ls ≡ length layers
    → ((i : ℕ) → i < length ls → slice_index_or ls i [] ≡ bytes_of_layer 2 layers m i) → HasZeroEnds layers m
    → message_of ls ≡ m
message_whole [] m [] whole many each zeros = sym (nil_from_length m (omega (arith, whole)))
message_whole [] m (b ∷ ls) whole many each zeros = absurd (omega (arith, many))
message_whole (l ∷ layers) m [] whole many each zeros = absurd (omega (arith, many))
message_whole (l ∷ layers) m (b ∷ ls) whole many each zeros =
    let k = words_of l * 2 in
    let words : length (needs_of (l ∷ layers)) ≡ words_of l + length (needs_of layers) =
    omega (arith, length-needs_of (l ∷ layers), length-needs_of layers, sum_by-cons words_of l layers) in
    let size : k ≡ div_ceil l.length 2 * 2 = refl in
    let long : length m ≡ k + length (needs_of layers) * 2 = omega (arith, whole, words) in
    let all : length_of_layer 2 (l ∷ layers) 0 ≡ l.length = bytes_all 2 l (omega arith) in
    let here : b ≡ take l.length m = each 0 (omega arith) ∙ ap (λ (n : ℕ). take n m) all in
    let start : l.length ≡ words_before (l ∷ layers) 0 * 2 + length_of_layer 2 (l ∷ layers) 0 = omega (arith, all) in
    let first : padded b ≡ take k m = ap padded here ∙ front_padded l.length m (omega (arith, long, size))
    (λ odd. ap (slice_index m) start ∙ zeros 0 (omega arith) (ap (λ (n : ℕ). n % 2) all ∙ odd)) in
    let rest : message_of ls ≡ drop k m =
    message_whole layers (drop k m) ls (length-drop k m ∙ omega (arith, long)) (omega (arith, many))
    (λ i lt. each (suc i) (omega (arith, lt))
    ∙ ap (take (length_of_layer 2 layers i)) (ap (λ (n : ℕ). drop n m) (later_at l layers i ∙ omega arith)
    ∙ sym (drop-drop (words_before layers i * 2) k m)))
    (λ i lt odd.
    let at : k + (words_before layers i * 2 + length_of_layer 2 layers i) ≡ words_before (l ∷ layers)
    (suc i) * 2 + length_of_layer 2 layers i = omega (arith, later_at l layers i) in
    get_or-drop k m (words_before layers i * 2 + length_of_layer 2 layers i) 0 ∙ ap (slice_index m) at
    ∙ zeros (suc i) (omega (arith, lt)) odd) in
    ap₂ (λ (x y : List ℕ). x ++ y) first rest ∙ take-append-drop k m

-- so what a receiver tells of a whole group is the group's message, where what it has kept agrees with that
pub message_is : {E : Type 0} (P : E → Type 0) (c : Coding E) (r : ReceiverState E) (group : ℕ) (message m : List ℕ)
    (p : Packets) → c.width ≡ 2 → HasLayers P c r group (length (layers_of p)) message
    → open_group (kept_set r) group ≡ Some p → IsMessage c.width (layers_of p) m → Agrees c p m
    → HasZeroEnds (layers_of p) m → message ≡ m
message_is P c r group message m p two has opened is agrees zeros =
    has.message_is
    ∙ message_whole (layers_of p) m has.layers (is.whole ∙ ap (λ (w : ℕ). length (needs_of (layers_of p)) * w) two)
    has.many
    (λ i lt. (has.each i (omega (arith, lt, has.many))).agreed p m opened is agrees
    ∙ ap (λ (w : ℕ). bytes_of_layer w (layers_of p) m i) two) zeros

push_last : (xs : List (List ℕ)) (x : List ℕ) → slice_index_or (xs ++ x ∷ []) (length xs) [] ≡ x
push_last [] x = refl
push_last (y ∷ xs) x = push_last xs x

-- ---- how long it is

bytes_long : (layers : List LayerSize) (m : List ℕ) (layer : ℕ) → length m ≡ length (needs_of layers) * 2
    → layer < length layers → length (bytes_of_layer 2 layers m layer) ≡ length_of_layer 2 layers layer
bytes_long layers m layer whole lt =
    let d : LayerSize = record { length = 0; need = 0 } in
    let at = words_before layers layer * 2 in
    let inside = layer_inside 2 layers layer d lt in
    let is = length_is 2 layers layer d lt in
    let rest = length-drop at m in
    length-take-le (length_of_layer 2 layers layer) (drop at m) (omega (arith, inside, is, rest, whole))

message_words : (layers : List LayerSize) (ls : List (List ℕ)) → length ls ≡ length layers
    → ((i : ℕ) → i < length ls → length (slice_index_or ls i []) ≡ length_of_layer 2 layers i)
    → length (message_of ls) ≡ length (needs_of layers) * 2
message_words [] [] many each = refl
message_words [] (b ∷ ls) many each = absurd (omega (arith, many))
message_words (l ∷ layers) [] many each = absurd (omega (arith, many))
message_words (l ∷ layers) (b ∷ ls) many each =
    let rest = message_words layers ls (omega (arith, many)) (λ i lt. each (suc i) (omega (arith, lt))) in
    let here : length b ≡ l.length = each 0 (omega arith) ∙ bytes_all 2 l (omega arith) in
    let first : length (padded b) ≡ words_of l * 2 = padded_length b ∙ ap (λ (n : ℕ). div_ceil n 2 * 2) here in
    let words : length (needs_of (l ∷ layers)) ≡ words_of l + length (needs_of layers) =
    omega (arith, length-needs_of (l ∷ layers), length-needs_of layers, sum_by-cons words_of l layers) in
    length-append (padded b) (message_of ls) ∙ omega (arith, first, rest, words)

-- two bytes for each word of the table
pub message_long : {E : Type 0} (P : E → Type 0) (c : Coding E) (r : ReceiverState E) (group count : ℕ)
    (message : List ℕ) (p : Packets) (order : Order) → c.width ≡ 2 → HasLayers P c r group count message
    → count ≡ length (layers_of p) → HasKept P c r order → open_group (kept_set r) group ≡ Some p
    → length message ≡ length (needs_of (layers_of p)) * 2
message_long P c r group count message p order two has count_is held opened =
    ap length has.message_is
    ∙ message_words (layers_of p) has.layers (has.many ∙ count_is)
    (λ i lt.
    let s = (has.each i (omega (arith, lt, has.many))).shown order p held opened in
    ap length s.bytes_are ∙ ap (λ (w : ℕ). length (bytes_of_layer w (layers_of p) s.message i)) two
    ∙ bytes_long (layers_of p) s.message i (s.is_message.whole
    ∙ ap (λ (w : ℕ). length (needs_of (layers_of p)) * w) two) (omega (arith, lt, has.many, count_is)))

-- ---- layer by layer

pub layers_none : {E : Type 0} (P : E → Type 0) (c : Coding E) (r : ReceiverState E) (group : ℕ)
    → HasLayers P c r group 0 []
layers_none P c r group =
    record { layers = []; many = refl; each = λ layer lt. absurd (omega (arith, lt)); message_is = refl }

pub layers_more : {E : Type 0} (P : E → Type 0) (c : Coding E) (r : ReceiverState E) (group n : ℕ)
    (before bytes now : List ℕ) → HasLayers P c r group n before → HasLayer P c r group n bytes
    → now ≡ before ++ padded bytes
    → HasLayers P c r group (n + 1) now
layers_more P c r group n before bytes now has one is = record {
  layers = has.layers ++ bytes ∷ [];
  many = length_push has.layers bytes ∙ omega (arith, has.many);
  each =
      λ layer lt.
      elim (cases_lt layer n) [
        | inl low ↦ subst (HasLayer P c r group layer)
            (sym (get_or_append_left has.layers (bytes ∷ []) [] layer (omega (arith, low, has.many))))
            (has.each layer low)
        | inr high ↦
            let here : layer ≡ n = omega (arith, lt, high) in
            let last : n ≡ length has.layers = sym has.many in
            let at : slice_index_or (has.layers ++ bytes ∷ []) layer [] ≡ bytes =
            ap (λ (i : ℕ). slice_index_or (has.layers ++ bytes ∷ []) i []) (here ∙ last)
            ∙ at_end has.layers bytes in
            subst (HasLayer P c r group layer) (sym at)
            (subst (λ (i : ℕ). HasLayer P c r group i bytes) (sym here) one)
      ];
  message_is =
      is ∙ ap (λ (t : List ℕ). t ++ padded bytes) has.message_is
      ∙ ap (λ (t : List ℕ). message_of has.layers ++ t) (sym (append-nil (padded bytes)))
      ∙ sym (flat_map-append padded has.layers (bytes ∷ []));
}
  where
    at_end : (xs : List (List ℕ)) (x : List ℕ) → slice_index_or (xs ++ x ∷ []) (length xs) [] ≡ x
    at_end xs x = push_last xs x

-- ---- where its layers end

last_byte : (xs : List ℕ) (x : ℕ) → slice_index (xs ++ x ∷ []) (length xs) ≡ x
last_byte [] x = refl
last_byte (y ∷ xs) x = last_byte xs x

odd_end : (b rest : List ℕ) → length b % 2 ≡ 1 → slice_index (padded b ++ rest) (length b) ≡ 0
odd_end b rest odd =
    let test : (length b % 2 == 1) ≡ true = eq-eqb (length b % 2) 1 odd in
    let is : padded b ≡ b ++ 0 ∷ [] = cond-true (length b % 2 == 1) (b ++ 0 ∷ []) b test in
    ap (λ (t : List ℕ). slice_index (t ++ rest) (length b)) is
    ∙ get_or_append_left (b ++ 0 ∷ []) rest 0 (length b) (omega (arith, length_push b 0)) ∙ last_byte b 0

behind : (xs ys : List ℕ) (i : ℕ) → slice_index (xs ++ ys) (length xs + i) ≡ slice_index ys i
behind [] ys i = let z : 0 + i ≡ i = omega arith in ap (slice_index ys) z
behind (x ∷ xs) ys i = let z : length (x ∷ xs) + i ≡ suc (length xs + i) = omega arith in
    ap (slice_index (x ∷ (xs ++ ys))) z ∙ behind xs ys i

-- what is made of layers in whole words has the byte 0 past each odd end
pub zero_ends : (layers : List LayerSize) (ls : List (List ℕ)) → length ls ≡ length layers
    → ((i : ℕ) → i < length ls → length (slice_index_or ls i []) ≡ length_of_layer 2 layers i)
    → HasZeroEnds layers (message_of ls)
zero_ends [] ls many each layer lt odd = absurd (omega (arith, lt))
zero_ends (l ∷ layers) [] many each layer lt odd = absurd (omega (arith, many))
zero_ends (l ∷ layers) (b ∷ ls) many each zero lt odd =
    let here : length b ≡ l.length = each 0 (omega arith) ∙ bytes_all 2 l (omega arith) in
    let size : length_of_layer 2 (l ∷ layers) 0 ≡ length b = sym (each 0 (omega arith)) in
    let place : words_before (l ∷ layers) 0 * 2 + length_of_layer 2 (l ∷ layers) 0 ≡ length b =
    omega (arith, each 0 (omega arith)) in
    ap (slice_index (padded b ++ message_of ls)) place
    ∙ odd_end b (message_of ls) (ap (λ (n : ℕ). n % 2) (each 0 (omega arith)) ∙ odd)
zero_ends (l ∷ layers) (b ∷ ls) many each (suc i) lt odd =
    let here : length b ≡ l.length = each 0 (omega arith) ∙ bytes_all 2 l (omega arith) in
    let first : length (padded b) ≡ words_of l * 2 = padded_length b ∙ ap (λ (n : ℕ). div_ceil n 2 * 2) here in
    let at = words_before layers i * 2 + length_of_layer 2 layers i in
    let place : words_before (l ∷ layers) (suc i) * 2 + length_of_layer 2 (l ∷ layers) (suc i) ≡ length
    (padded b) + at = omega (arith, later_at l layers i, first) in
    ap (slice_index (padded b ++ message_of ls)) place ∙ behind (padded b) (message_of ls) at
    ∙ zero_ends layers ls (omega (arith, many)) (λ k k_lt. each (suc k) (omega (arith, k_lt))) i
    (omega (arith, lt)) odd
