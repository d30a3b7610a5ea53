-- What callers know of a group's message: it has the bytes of each layer, at the place that the group's table tells.
-- This project's
-- own.
use Rattle.std.proofs.Common.{◌≡◌, ℕ, zero, suc, ◌+◌, ◌*◌, ◌%◌, ◌<◌, ◌≤◌, true, List, [], ◌∷◌, ◌++◌, length, map, take}
use Rattle.std.proofs.Common.{drop, get_or, refl, sym, ap, ◌∙◌, arith, inl, inr}
use Rattle.std.specs.Prelude.{All, ◌==◌, nat_lt}
use Rattle.std.specs.List.{filter, flat_map, sum_by, range_with_len}
use Rattle.std.specs.Int.{div_ceil}
use Rattle.std.proofs.lemmas.Bool.{cond-true, cond-false, cases_Bool}
use Rattle.std.proofs.lemmas.List.{append-nil, append_assoc, length-append, length-map, get_or-map, drop_at, take_at}
use Rattle.std.proofs.lemmas.List.FromFn.{length-map-range_with_len, get_or-map-range_with_len}
use Rattle.std.proofs.lemmas.List.Sums.{sum_by-cons}
use Rattle.stripe_plan.specs.declared.layer.LayerSize.{LayerSize}
use Rattle.stripe_plan.specs.Layers.{words_of, words_before}
use Rattle.layer_split.proofs.Beginning.{layer_size}
use Rattle.layer_split.specs.declared.cut.Run.{Run}
use Rattle.layer_split.specs.RunTable.{fits}
use Rattle.layer_split.specs.Layers.{bytes_of_run, layer_bytes, layer_length, lengths_of, padded, message}
use Rattle.layer_split.specs.laws.PaddedLaws.{padded_length}
use Rattle.packet_session.specs.Session.{length_of_layer, bytes_of_layer}
use Rattle.packet_group.specs.laws.Needs.{length_all}
use Rattle.reassemble.specs.Video.{group_video}
use Rattle.reassemble.specs.laws.TableFits.{CanBeNamed, table_fits}
use Rattle.reassemble.specs.laws.VideoOfCut.{video_of_cut}

-- whole words: the bytes, and what fills them
padded_is : (bytes : List ℕ) → (fill : List ℕ) × (padded bytes ≡ bytes ++ fill)
padded_is bytes = elim (cases_Bool (length bytes % 2 == 1)) [
  | inl e ↦ (0 ∷ [], cond-true (length bytes % 2 == 1) (bytes ++ 0 ∷ []) bytes e)
  | inr e ↦ ([], cond-false (length bytes % 2 == 1) (bytes ++ 0 ∷ []) bytes e ∙ sym (append-nil bytes))
]

-- what stands at one of some numbers
flat_at : (f : ℕ → List ℕ) (a n i : ℕ) → i < n
    → (rest : List ℕ) × (flat_map f (range_with_len a n) ≡ flat_map f (range_with_len a i) ++ (f (a + i) ++ rest))
flat_at f a zero i lt = absurd (omega arith)
flat_at f a (suc n) zero lt = (
  flat_map f (range_with_len (a + 1) n),
  ap (λ k. f k ++ flat_map f (range_with_len (a + 1) n)) (let e : a ≡ a + 0 = omega arith in e),
)
flat_at f a (suc n) (suc i) lt =
    let later = flat_at f (a + 1) n i (omega arith) in (
      later.0,
      ap (λ l. f a ++ l) later.1
          ∙ (sym (append_assoc (f a) (flat_map f (range_with_len (a + 1) i)) (f ((a + 1) + i) ++ later.0))
          ∙ ap (λ k. (f a ++ flat_map f (range_with_len (a + 1) i)) ++ (f k ++ later.0))
          (let e : (a + 1) + i ≡ a + suc i = omega arith in e)),
    )

-- the layers of the table have the lengths of the layers from `a` on
record HaveLengths (runs : List Run) (a : ℕ) (layers : List LayerSize) : Type 0 where
  each : (i : ℕ) (d : LayerSize) → i < length layers → (get_or layers i d).length ≡ layer_length runs (a + i)

words_front : (stream : List ℕ) (runs : List Run) (a i : ℕ) (layers : List LayerSize)
    → All (λ (r : Run). r.at + r.len ≤ length stream) runs → HaveLengths runs a layers → i ≤ length layers
    → length (flat_map (λ layer. padded (layer_bytes stream runs layer)) (range_with_len a i))
    ≡ sum_by words_of (take i layers) * 2
words_front stream runs a zero layers inside h le = refl
words_front stream runs a (suc i) [] inside h le = absurd (omega arith)
words_front stream runs a (suc i) (l ∷ layers) inside h le =
    let f : ℕ → List ℕ = λ layer. padded (layer_bytes stream runs layer) in
    let next : HaveLengths runs (a + 1) layers = record {
      each = λ k d lt. h.each (suc k) d (omega arith)
          ∙ ap (layer_length runs) (let e : a + suc k ≡ (a + 1) + k = omega arith in e);
    } in
    let later : length (flat_map f (range_with_len (a + 1) i)) ≡ sum_by words_of (take i layers) * 2 =
    words_front stream runs (a + 1) i layers inside next (omega arith) in
    let own : l.length ≡ layer_length runs a =
    h.each 0 l (omega arith) ∙ ap (layer_length runs) (let e : a + 0 ≡ a = omega arith in e) in
    let here : length (f a) ≡ words_of l * 2 =
    padded_length (layer_bytes stream runs a)
    ∙ ap (λ n. div_ceil n 2 * 2) (layer_size stream runs a inside ∙ sym own) in
    by_sum (length (f a)) (length (flat_map f (range_with_len (a + 1) i))) (words_of l)
    (sum_by words_of (take i layers)) _ _
    (length-append (f a) (flat_map f (range_with_len (a + 1) i))) (sum_by-cons words_of l (take i layers)) here later
  where
    by_sum : (p q w n x y : ℕ) → x ≡ p + q → y ≡ w + n → p ≡ w * 2 → q ≡ n * 2 → x ≡ y * 2
    by_sum p q w n x y a b c e = omega arith

lengths_had : (runs : List Run) (n : ℕ) (layers : List LayerSize) → map (λ l. l.length) layers ≡ lengths_of runs n
    → length layers ≡ n → HaveLengths runs 0 layers
lengths_had runs n layers same many = record {
  each =
      λ i d lt.
      sym (get_or-map (λ (l : LayerSize). l.length) layers i d 0 lt)
      ∙ (ap (λ l. get_or l i 0) same
      ∙ (get_or-map-range_with_len (layer_length runs) 0 n i i 0 (omega arith) (omega arith)
      ∙ ap (layer_length runs) (let e : i ≡ 0 + i = omega arith in e)));
}

-- the bytes of a layer in the message of a cut
pub layer_of_message : (stream : List ℕ) (runs : List Run) (n layer : ℕ) (layers : List LayerSize)
    → All (λ (r : Run). r.at + r.len ≤ length stream) runs
    → map (λ l. l.length) layers ≡ lengths_of runs n → layer < n
    → bytes_of_layer 2 layers (message stream runs n) layer ≡ layer_bytes stream runs layer
layer_of_message stream runs n layer layers inside same lt =
    let f : ℕ → List ℕ = λ l. padded (layer_bytes stream runs l) in
    let bytes : List ℕ = layer_bytes stream runs layer in
    let d : LayerSize = record { length = 0; need = 0 } in
    let many : length layers ≡ n = sym (length-map layers (λ (l : LayerSize). l.length))
    ∙ (ap length same ∙ length-map-range_with_len (layer_length runs) 0 n) in
    let had = lengths_had runs n layers same many in
    let front : List ℕ = flat_map f (range_with_len 0 layer) in
    let at = flat_at f 0 n layer lt in
    let pad = padded_is bytes in
    let before : length front ≡ words_before layers layer * 2 =
    words_front stream runs 0 layer layers inside had (omega arith) in
    let whole : message stream runs n ≡ front ++ (bytes ++ (pad.0 ++ at.0)) =
    at.1
    ∙ ap (λ l. front ++ l)
    (ap (λ k. f k ++ at.0) (let e : 0 + layer ≡ layer = omega arith in e)
    ∙ (ap (λ l. l ++ at.0) pad.1 ∙ append_assoc bytes pad.0 at.0)) in
    let size : length bytes ≡ length_of_layer 2 layers layer =
    layer_size stream runs layer inside
    ∙ (ap (layer_length runs) (let e : layer ≡ 0 + layer = omega arith in e)
    ∙ sym (length_all 2 layers layer d (omega arith) (omega arith) ∙ had.each layer d (omega arith))) in
    ap (λ m. take (length_of_layer 2 layers layer) (drop (words_before layers layer * 2) m)) whole
    ∙ (ap (take (length_of_layer 2 layers layer))
    (drop_at front (bytes ++ (pad.0 ++ at.0)) (words_before layers layer * 2) before)
    ∙ take_at bytes (pad.0 ++ at.0) (length_of_layer 2 layers layer) size)

each_same : (g h : ℕ → List ℕ) (a k : ℕ) → ((i : ℕ) → a ≤ i → i < a + k → g i ≡ h i)
    → map g (range_with_len a k) ≡ map h (range_with_len a k)
each_same g h a zero e = refl
each_same g h a (suc k) e =
    ap (λ b. b ∷ map g (range_with_len (a + 1) k)) (e a (omega arith) (omega arith))
    ∙ ap (λ l. h a ∷ l) (each_same g h (a + 1) k (λ i le lt. e i (omega arith) (omega arith)))

-- so the message of a cut has a run table that fits
pub message_fits : (stream : List ℕ) (runs : List Run) (n : ℕ) (layers : List LayerSize) → CanBeNamed stream runs n
    → map (λ l. l.length) layers ≡ lengths_of runs n → 0 < n
    → fits (bytes_of_layer 2 layers (message stream runs n) 0) (map (λ l. l.length) layers) ≡ true
message_fits stream runs n layers h same some =
    ap (λ b. fits b (map (λ (l : LayerSize). l.length) layers))
    (layer_of_message stream runs n 0 layers h.inside same some)
    ∙ (ap (fits (layer_bytes stream runs 0)) same ∙ table_fits stream runs n h)

-- and the video of its leading layers is the runs of these
pub video_of_message : (stream : List ℕ) (runs : List Run) (n k : ℕ) (layers : List LayerSize)
    → CanBeNamed stream runs n → map (λ l. l.length) layers ≡ lengths_of runs n → 0 < k → k ≤ n
    → group_video (map (bytes_of_layer 2 layers (message stream runs n)) (range_with_len 0 k))
    ≡ flat_map (bytes_of_run stream) (filter (λ run. nat_lt run.layer k) runs)
video_of_message stream runs n k layers h same some few =
    ap group_video (each_same (bytes_of_layer 2 layers (message stream runs n)) (layer_bytes stream runs) 0 k
    (λ i le lt. layer_of_message stream runs n i layers h.inside same (omega arith)))
    ∙ video_of_cut stream runs n k h some
