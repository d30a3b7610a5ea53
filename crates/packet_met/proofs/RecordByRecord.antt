-- The records of the layers of a set, put one after the other.
use Rattle.std.proofs.Common.{◌≡◌, ℕ, ◌+◌, ◌<◌, Bool, true, false, cond, take, drop, List, [], ◌∷◌, ◌++◌, length}
use Rattle.std.proofs.Common.{get_or, map, sym, ap, subst, ◌∙◌, eqb}
use Rattle.std.specs.Prelude.{filter}
use Rattle.std.specs.List.{flat_map, range_with_len}
use Rattle.std.specs.Int.{bit_at}
use Rattle.std.proofs.lemmas.List.{append-nil, take-append-drop, take_more, map_push}
use Rattle.std.proofs.lemmas.Grind.{flat_map-append}
use Rattle.pet_base.specs.Seen.{Seen}
use Rattle.outside_files.specs.laws.OutputLaws.{puts_then, part_then}
use Rattle.packet_verdicts.specs.laws.LayerSetLaws.{filter_more}
use Rattle.packet_met.specs.LayersText.{record_text}
use Rattle.packet_met.specs.Records.{records_text}
use Rattle.outside_files.specs.Outputs.{Puts, PutsPart}
use Rattle.packet_met.specs.declared.records.ShownLayer.{ShownLayer}

-- the text of one record more
pub text_more : (arrival group : ℕ) (shown : List ShownLayer) (i : ℕ) (d : ShownLayer) → i < length shown
    → records_text arrival group (take (i + 1) shown)
    ≡ records_text arrival group (take i shown)
    ++ record_text arrival group (get_or shown i d).layer (get_or shown i d).bytes.now
text_more arrival group shown i d lt =
    let f = λ (e : ShownLayer). record_text arrival group e.layer e.bytes.now in
    let e = get_or shown i d in
    ap (flat_map f) (take_more shown i d lt) ∙ flat_map-append f (take i shown) (e ∷ [])
    ∙ ap (λ (t : List ℕ). flat_map f (take i shown) ++ t) (append-nil (f e))

pub text_split : (arrival group : ℕ) (shown : List ShownLayer) (i : ℕ)
    → records_text arrival group shown
    ≡ records_text arrival group (take i shown) ++ records_text arrival group (drop i shown)
text_split arrival group shown i =
    let f = λ (e : ShownLayer). record_text arrival group e.layer e.bytes.now in
    ap (flat_map f) (sym (take-append-drop i shown)) ∙ flat_map-append f (take i shown) (drop i shown)

-- the layers of a set, up to one more
pub layers_more : (bits n : ℕ) (shown : List ShownLayer) (e : ShownLayer)
    → map (λ x. x.layer) shown ≡ filter (λ j. eqb (bit_at bits j) 1) (range_with_len 0 n)
    → eqb (bit_at bits n) 1 ≡ true → e.layer ≡ n
    → map (λ x. x.layer) (shown ++ e ∷ []) ≡ filter (λ j. eqb (bit_at bits j) 1) (range_with_len 0 (n + 1))
layers_more bits n shown e so_far has is =
    map_push (λ x. x.layer) shown e ∙ ap (λ (t : List ℕ). t ++ e.layer ∷ []) so_far
    ∙ ap (λ (m : ℕ). filter (λ j. eqb (bit_at bits j) 1) (range_with_len 0 n) ++ m ∷ []) is
    ∙ ap (λ (b : Bool). filter (λ j. eqb (bit_at bits j) 1) (range_with_len 0 n) ++ cond b (n ∷ []) []) (sym has)
    ∙ sym (filter_more (λ j. eqb (bit_at bits j) 1) n)

pub layers_same : (bits n : ℕ) (shown : List ShownLayer)
    → map (λ x. x.layer) shown ≡ filter (λ j. eqb (bit_at bits j) 1) (range_with_len 0 n)
    → eqb (bit_at bits n) 1 ≡ false
    → map (λ x. x.layer) shown ≡ filter (λ j. eqb (bit_at bits j) 1) (range_with_len 0 (n + 1))
layers_same bits n shown so_far has =
    so_far ∙ sym (append-nil (filter (λ j. eqb (bit_at bits j) 1) (range_with_len 0 n)))
    ∙ ap (λ (b : Bool). filter (λ j. eqb (bit_at bits j) 1) (range_with_len 0 n) ++ cond b (n ∷ []) []) (sym has)
    ∙ sym (filter_more (λ j. eqb (bit_at bits j) 1) n)

pub puts_here : (arrival group : ℕ) (shown : List ShownLayer) (i : ℕ) (d : ShownLayer) (first before after : Seen)
    → i < length shown → before.target ≡ first.target
    → Puts (records_text arrival group (take i shown)) first before
    → Puts (record_text arrival group (get_or shown i d).layer (get_or shown i d).bytes.now) before after
    → Puts (records_text arrival group (take (i + 1) shown)) first after
puts_here arrival group shown i d first before after lt same p q =
    subst (λ (t : List ℕ). Puts t first after) (sym (text_more arrival group shown i d lt))
    (puts_then (records_text arrival group (take i shown))
    (record_text arrival group (get_or shown i d).layer (get_or shown i d).bytes.now) first before after same p q)

pub part_here : (arrival group : ℕ) (shown : List ShownLayer) (i : ℕ) (d : ShownLayer) (first before after : Seen)
    → i < length shown → before.target ≡ first.target
    → Puts (records_text arrival group (take i shown)) first before
    → PutsPart (record_text arrival group (get_or shown i d).layer (get_or shown i d).bytes.now) before after
    → PutsPart (records_text arrival group shown) first after
part_here arrival group shown i d first before after lt same p part =
    let one = record_text arrival group (get_or shown i d).layer (get_or shown i d).bytes.now in
    let whole : records_text arrival group shown
    ≡ (records_text arrival group (take i shown) ++ one) ++ records_text arrival group (drop (i + 1) shown) =
    text_split arrival group shown (i + 1)
    ∙ ap (λ (t : List ℕ). t ++ records_text arrival group (drop (i + 1) shown))
    (text_more arrival group shown i d lt) in
    subst (λ (t : List ℕ). PutsPart t first after) (sym whole)
    (part_then (records_text arrival group (take i shown)) one
    (records_text arrival group (drop (i + 1) shown)) first before after same p part)
