-- Where the kept payloads are those of a message, a shown layer has the message's bytes.
use Rattle.std.specs.Prelude.{flat_map, map, unwrap_or, IsSome, Contains, min}
use Rattle.std.proofs.Common.{◌≡◌, ℕ, suc, ◌+◌, ◌-◌, ◌*◌, ◌<◌, ◌≤◌, List, [], ◌∷◌, ◌++◌, Option, None, Some, length}
use Rattle.std.proofs.Common.{get_or, take, drop, All, refl, sym, ap, ◌∙◌, arith, subst, inl, inr}
use Rattle.std.proofs.lemmas.Bool.{cases_lt}
use Rattle.std.proofs.Math.Nat.{mul-le-mul_right}
use Rattle.std.proofs.lemmas.List.{length-map, length-take, length-drop, length-take-le, get_or-map, get_or-take}
use Rattle.std.proofs.lemmas.List.{get_or-drop, get_or_default, same_lists, take-append-drop, take-take}
use Rattle.std.proofs.lemmas.List.Elements.{All-map, All-take, All-drop, Contains-get_or}
use Rattle.field_elements.specs.Field.{Coding, IsCoding, AreSpellings}
use Rattle.pet_poly.specs.Value.{value}
use Rattle.pet_poly.specs.laws.HornerLaws.{value_is}
use Rattle.pet_poly.specs.Rows.{words}
use Rattle.pet_poly.specs.laws.RowLaws.{length-words, words_are, words_of_spellings, spellings_of_words}
use Rattle.pet_interp.specs.Points.{IsOnlyThrough, GoesThrough}
use Rattle.pet_interp.specs.Progressive.{column}
use Rattle.stripe_plan.specs.declared.layer.LayerSize.{LayerSize}
use Rattle.stripe_plan.specs.Layers.{needs_of, words_of, words_before, plan_ends, plan_stripes, stripes_from}
use Rattle.stripe_plan.specs.Counts.{Meets}
use Rattle.stripe_plan.specs.Stripes.{IsPlan, stripes_of}
use Rattle.packet_set.specs.Packets.{Packets, slot_at}
use Rattle.packet_session.specs.Payload.{cut_in_stripes, stripes_in, payload_at}
use Rattle.packet_session.specs.Session.{IsMessage, bytes_of_layer, length_of_layer}
use Rattle.packet_group.specs.OpenGroup.{points_of, layers_of}
use Rattle.packet_group.specs.ShownBytes.{IsShownBytes, Agrees}
use Rattle.packet_group.proofs.Rows.{take_words, drop_words, words_front}
use Rattle.packet_group.proofs.Cuts.{cut_at, length-cut}
use Rattle.packet_group.specs.laws.Needs.{length_is, bytes_short, next_words, words_within}

-- ---- each word is in a stripe

pub record IsWithin (stripes : List (ℕ × ℕ)) (word : ℕ) : Type 0 where
  pub stripe : ℕ
  pub inside : stripe < length stripes
  pub from : (get_or stripes stripe (0, 0)).0 ≤ word
  pub below : word < (get_or stripes stripe (0, 0)).0 + (get_or stripes stripe (0, 0)).1

within_plan : (needs : List ℕ) (start : ℕ) (ends : List ℕ) → IsPlan needs start ends → (word : ℕ) → start ≤ word
    → word < length needs → IsWithin (stripes_of start ends) word
within_plan needs start [] plan word l m = absurd (omega (arith, plan))
within_plan needs start (end ∷ ends) plan word l m =
    elim (cases_lt word end) [
      | inl here ↦ record { stripe = 0; inside = omega arith; from = l; below = omega (arith, here, l) }
      | inr later ↦
          let rest = within_plan needs end ends plan.1 word later m in
          record { stripe = suc rest.stripe; inside = omega (arith, rest.inside); from = rest.from; below = rest.below }
    ]

pub each_within : (layers : List LayerSize) → IsPlan (needs_of layers) 0 (plan_ends layers) → (word : ℕ)
    → word < length (needs_of layers) → IsWithin (plan_stripes layers) word
unfolding stripes_from
each_within layers plan word l = within_plan (needs_of layers) 0 (plan_ends layers) plan word (omega arith) l

-- ---- rows with the same stripes where these meet a stretch

same_word : {E : Type 0} (layers : List LayerSize) (row other : List E) (first last word : ℕ)
    → IsPlan (needs_of layers) 0 (plan_ends layers) → last ≤ length (needs_of layers)
    → ((j : ℕ) → j < length (plan_stripes layers) → Meets first last (get_or (plan_stripes layers) j (0, 0))
    → get_or (cut_in_stripes layers row) j [] ≡ get_or (cut_in_stripes layers other) j [])
    → first ≤ word → word < last → (d : E) → get_or row word d ≡ get_or other word d
same_word layers row other first last word plan top same l m d =
    let w = each_within layers plan word (omega arith) in
    let j = w.stripe in
    let s = get_or (plan_stripes layers) j (0, 0) in
    let k = word - s.0 in
    let at : s.0 + k ≡ word = omega (arith, w.from) in
    let short : k < s.1 = omega (arith, w.from, w.below) in
    let is = same j w.inside (word, w.from, w.below, l, m) in
    let cut : take s.1 (drop s.0 row) ≡ take s.1 (drop s.0 other) =
    sym (cut_at layers row j w.inside) ∙ is ∙ cut_at layers other j w.inside in
    sym (ap (λ i. get_or row i d) at) ∙ sym (get_or-drop s.0 row k d) ∙ sym (get_or-take s.1 (drop s.0 row) k d short)
    ∙ ap (λ t. get_or t k d) cut
    ∙ get_or-take s.1 (drop s.0 other) k d short ∙ get_or-drop s.0 other k d ∙ ap (λ i. get_or other i d) at

same_stretch : {E : Type 0} (row other : List E) (first size : ℕ) → length row ≡ length other
    → first + size ≤ length row
    → ((word : ℕ) (d : E) → first ≤ word → word < first + size → get_or row word d ≡ get_or other word d)
    → take size (drop first row) ≡ take size (drop first other)
same_stretch row other first size long room each =
    let n : length (take size (drop first row)) ≡ size =
    length-take-le size (drop first row) (omega (arith, length-drop first row)) in
    let m : length (take size (drop first other)) ≡ size =
    length-take-le size (drop first other) (omega (arith, length-drop first other)) in
    same_lists (take size (drop first row)) (take size (drop first other)) (n ∙ sym m)
    (λ k d l.
    let short : k < size = omega (arith, n) in
    get_or-take size (drop first row) k d short ∙ get_or-drop first row k d
    ∙ each (first + k) d (omega arith) (omega arith)
    ∙ sym (get_or-drop first other k d) ∙ sym (get_or-take size (drop first other) k d short))

-- ---- bytes by their words

-- the bytes of a stretch of words are their spellings
stretch_bytes : {E : Type 0} (P : E → Type 0) (c : Coding E) → AreSpellings P c.width c.spelt c.spelling
    → (n first size : ℕ) (bytes : List ℕ)
    → length bytes ≡ n * c.width → All (λ b. b < 256) bytes → first + size ≤ n
    → take (size * c.width) (drop (first * c.width) bytes)
    ≡ flat_map c.spelling (take size (drop first (words c.spelt c.width n bytes)))
stretch_bytes P c laws n first size bytes long fits room =
    let w = c.width in
    let rest = drop (first * w) bytes in
    let part = take (size * w) rest in
    let inside : (first + size) * w ≤ n * w = mul-le-mul_right w room in
    let split : (first + size) * w ≡ first * w + size * w = omega arith in
    let enough : size * w ≤ length rest = omega (arith, inside, split, long, length-drop (first * w) bytes) in
    let part_long : length part ≡ size * w = length-take-le (size * w) rest enough in
    let e : n ≡ first + (n - first) = omega arith in
    let same : take size (drop first (words c.spelt w n bytes)) ≡ words c.spelt w size part =
    ap (take size) (drop_words c.spelt w n first (n - first) bytes e)
    ∙ take_words c.spelt w (n - first) size rest (omega arith)
    ∙ ap (words c.spelt w size) (sym (take-append-drop (size * w) rest))
    ∙ words_front c.spelt w size part (drop (size * w) rest) (omega (arith, part_long)) in
    sym (spellings_of_words P w c.spelt c.spelling laws size part part_long
    (All-take (λ b. b < 256) (size * w) rest (All-drop (λ b. b < 256) (first * w) bytes fits)))
    ∙ ap (flat_map c.spelling) (sym same)

pub same_bytes : {E : Type 0} (P : E → Type 0) (c : Coding E) → AreSpellings P c.width c.spelt c.spelling
    → (layers : List LayerSize) (layer : ℕ) → layer < length layers → IsPlan (needs_of layers) 0 (plan_ends layers)
    → (message other : List ℕ) → IsMessage c.width layers message → IsMessage c.width layers other
    → ((j : ℕ) → j < length (plan_stripes layers)
    → Meets (words_before layers layer) (words_before layers (layer + 1)) (get_or (plan_stripes layers) j (0, 0))
    → get_or (stripes_in c layers message) j [] ≡ get_or (stripes_in c layers other) j [])
    → bytes_of_layer c.width layers message layer ≡ bytes_of_layer c.width layers other layer
same_bytes P c laws layers layer l plan message other is is_other same =
    let w = c.width in
    let d : LayerSize = record { length = 0; need = 0 } in
    let n = length (needs_of layers) in
    let first = words_before layers layer in
    let size = words_of (get_or layers layer d) in
    let next = next_words layers layer d l in
    let top : words_before layers (layer + 1) ≤ n = words_within layers (layer + 1) in
    let row = words c.spelt w n message in
    let row' = words c.spelt w n other in
    let long : length row ≡ length row' = length-words c.spelt w n message ∙ sym (length-words c.spelt w n other) in
    let words_same : take size (drop first row) ≡ take size (drop first row') =
    same_stretch row row' first size long (omega (arith, next, top, length-words c.spelt w n message))
    (λ word e from below. same_word layers row row' first (words_before layers (layer + 1)) word plan top same from
    (omega (arith, below, next)) e) in
    let stretch : take (size * w) (drop (first * w) message) ≡ take (size * w) (drop (first * w) other) =
    stretch_bytes P c laws n first size message is.whole is.bytes (omega (arith, next, top))
    ∙ ap (flat_map c.spelling) words_same
    ∙ sym (stretch_bytes P c laws n first size other is_other.whole is_other.bytes (omega (arith, next, top))) in
    let bytes = length_of_layer w layers layer in
    let short : bytes ≤ size * w = omega (arith, length_is w layers layer d l, bytes_short w (get_or layers layer d)) in
    sym (take-take bytes (size * w) (drop (first * w) message) short) ∙ ap (take bytes) stretch
    ∙ take-take bytes (size * w) (drop (first * w) other) short

-- ---- the stripes of a message that the payloads agree with

module _ {E : Type 0} (P : E → Type 0) (count : ℕ) (c : Coding E) (laws : IsCoding P count c) (p : Packets)
    (message : List ℕ) (is : IsMessage c.width (layers_of p) message) where
  stripe_is : (j : ℕ) → j < length (plan_stripes (layers_of p))
      → All P (get_or (stripes_in c (layers_of p) message) j [])
  stripe_is j l =
      let layers = layers_of p in
      let row = words c.spelt c.width (length (needs_of layers)) message in
      let s = get_or (plan_stripes layers) j (0, 0) in
      subst (All P) (sym (cut_at layers row j l))
      (All-take P s.1 (drop s.0 row) (All-drop P s.0 row
      (words_are P c.width c.spelt c.spelling laws.spellings (length (needs_of layers)) message is.whole is.bytes)))

  values_at : E → List E
  values_at x = map (λ s. value c.ops s x) (stripes_in c (layers_of p) message)

  flat_values : (x : E) (ss : List (List E))
      → flat_map (λ s. c.spelling (value c.ops s x)) ss ≡ flat_map c.spelling (map (λ s. value c.ops s x) ss)
  flat_values x [] = refl
  flat_values x (s ∷ ss) = ap (λ t. c.spelling (value c.ops s x) ++ t) (flat_values x ss)

  words_at : (x : E) → P x
      → words c.spelt c.width (length (plan_stripes (layers_of p))) (payload_at c (layers_of p) message x)
      ≡ map (λ s. value c.ops s x) (stripes_in c (layers_of p) message)
  words_at x px =
      let layers = layers_of p in
      let row = words c.spelt c.width (length (needs_of layers)) message in
      let ss = stripes_in c layers message in
      let vs = map (λ s. value c.ops s x) ss in
      let many : length (plan_stripes layers) ≡ length vs =
      sym (length-cut layers row) ∙ sym (length-map ss (λ s. value c.ops s x)) in
      let elements : All P vs = All-map P (λ s. value c.ops s x) ss
      (λ k d l. let i : k < length (plan_stripes layers) = omega (arith, l, length-cut layers row) in
      subst (λ s. P (value c.ops s x)) (get_or_default ss k [] d l)
      (value_is P c.ops laws.field (get_or ss k []) x (stripe_is k i) px)) in
      ap (λ n. words c.spelt c.width n (payload_at c layers message x)) many
      ∙ ap (words c.spelt c.width (length vs)) (flat_values x ss)
      ∙ words_of_spellings P c.width c.spelt c.spelling laws.spellings vs elements

  -- the message's stripe goes through the points of the kept packets
  goes_through : (numbers : List ℕ) (j k : ℕ) → j < length (plan_stripes (layers_of p))
      → ((i : ℕ) → Contains numbers i → IsSome (slot_at p i) × P (c.point_of i)) → Agrees c p message
      → GoesThrough c.ops (get_or (stripes_in c (layers_of p) message) j [])
      (column c.ops j (take k (points_of c p numbers)))
  goes_through numbers j k l kept agrees =
      let layers = layers_of p in
      let n = length (plan_stripes layers) in
      let row = words c.spelt c.width (length (needs_of layers)) message in
      let ss = stripes_in c layers message in
      let cs = get_or ss j [] in
      let point : ℕ → E × List E = λ i. (c.point_of i, words c.spelt c.width n (unwrap_or (slot_at p i) [])) in
      let one : E × List E → E × E = λ q. (q.0, get_or q.1 j c.ops.nought) in
      let each : All (λ i. value c.ops cs (point i).0 ≡ get_or (point i).1 j c.ops.nought) numbers =
      λ m d inside.
      let i = get_or numbers m d in
      let h = kept i (Contains-get_or numbers m d inside) in
      let got = some_is (slot_at p i) h.0 in
      let payload = agrees i got.0 got.1 in
      let said : words c.spelt c.width n (unwrap_or (slot_at p i) []) ≡ map (λ s. value c.ops s (c.point_of i)) ss =
      ap (λ t. words c.spelt c.width n (unwrap_or t [])) got.1 ∙ ap (words c.spelt c.width n) payload
      ∙ words_at (c.point_of i) h.1 in
      sym (ap (λ t. get_or t j c.ops.nought) said
      ∙ get_or-map (λ s. value c.ops s (c.point_of i)) ss j [] c.ops.nought
      (omega (arith, l, length-cut layers row))) in
      All-map (λ q. value c.ops cs q.0 ≡ q.1) one (take k (map point numbers))
      (All-take (λ q. value c.ops cs q.0 ≡ get_or q.1 j c.ops.nought) k (map point numbers)
      (All-map (λ q. value c.ops cs q.0 ≡ get_or q.1 j c.ops.nought) point numbers each))
    where
      some_is : (s : Option (List ℕ)) → IsSome s → (x : List ℕ) × (s ≡ Some x)
      some_is None e = absurd (cc)
      some_is (Some x) e = (x, refl)

  pub agreed_stripe : (numbers : List ℕ) (j : ℕ) (other : List ℕ) → j < length (plan_stripes (layers_of p))
      → ((i : ℕ) → Contains numbers i → IsSome (slot_at p i) × P (c.point_of i)) → Agrees c p message
      → IsOnlyThrough P c.ops (column c.ops j
      (take (get_or (plan_stripes (layers_of p)) j (0, 0)).1 (points_of c p numbers)))
      (get_or (stripes_in c (layers_of p) other) j [])
      → get_or (stripes_in c (layers_of p) message) j [] ≡ get_or (stripes_in c (layers_of p) other) j []
  agreed_stripe numbers j other l kept agrees only =
      let layers = layers_of p in
      let row = words c.spelt c.width (length (needs_of layers)) message in
      let row' = words c.spelt c.width (length (needs_of layers)) other in
      let s = get_or (plan_stripes layers) j (0, 0) in
      let long : length row ≡ length row' = length-words c.spelt c.width (length (needs_of layers)) message
      ∙ sym (length-words c.spelt c.width (length (needs_of layers)) other) in
      let rest : length (drop s.0 row) ≡ length (drop s.0 row') =
      length-drop s.0 row ∙ ap (λ n. n - s.0) long ∙ sym (length-drop s.0 row') in
      let same : length (get_or (stripes_in c layers message) j []) ≡ length (get_or (stripes_in c layers other) j []) =
      ap length (cut_at layers row j l) ∙ length-take s.1 (drop s.0 row) ∙ ap (min s.1) rest
      ∙ sym (length-take s.1 (drop s.0 row')) ∙ sym (ap length (cut_at layers row' j l)) in
      only.only (get_or (stripes_in c layers message) j []) (same ∙ only.long) (stripe_is j l)
      (goes_through numbers j s.1 l kept agrees)

pub agreed_bytes : {E : Type 0} (P : E → Type 0) (count : ℕ) (c : Coding E) → IsCoding P count c
    → (p : Packets) (message : List ℕ)
    → IsMessage c.width (layers_of p) message → IsPlan (needs_of (layers_of p)) 0 (plan_ends (layers_of p))
    → (numbers : List ℕ)
    → ((i : ℕ) → Contains numbers i → IsSome (slot_at p i) × P (c.point_of i)) → Agrees c p message
    → (layer : ℕ) (bytes : List ℕ) → layer < length (layers_of p) → IsShownBytes P c p numbers layer bytes
    → bytes ≡ bytes_of_layer c.width (layers_of p) message layer
agreed_bytes P count c laws p message is plan numbers kept agrees layer bytes l shown =
    shown.bytes_are
    ∙ same_bytes P c laws.spellings (layers_of p) layer l plan shown.message message shown.is_message is
    (λ j inside meets. sym (agreed_stripe P count c laws p message is numbers j shown.message inside kept agrees
    (shown.stripes j inside meets)))
