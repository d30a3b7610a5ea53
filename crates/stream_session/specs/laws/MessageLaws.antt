-- What callers know of a group's message: it has the words of the group's table, and bytes alone where the stream has
-- no
-- others. This project's own.
use Rattle.std.proofs.Common.{◌≡◌, ℕ, zero, suc, ◌+◌, ◌*◌, ◌%◌, ◌<◌, ◌≤◌, Bool, true, false, List, [], ◌∷◌, ◌++◌, length, drop, map}
use Rattle.std.proofs.Common.{replicate, refl, sym, ◌∙◌, ap, subst, arith, inl, inr}
use Rattle.std.specs.Prelude.{◌==◌, All, get_or, if◌then◌else◌}
use Rattle.std.specs.List.{flat_map, range_with_len}
use Rattle.std.specs.Int.{div_ceil, to_be_bytes, w32}
use Rattle.std.proofs.lemmas.Bool.{cond-true, cond-false, cases_Bool}
use Rattle.std.proofs.lemmas.List.{length-append, length-replicate}
use Rattle.std.proofs.lemmas.List.Elements.{All-append, All-cons, All-drop, All-head, All-nil, All-tail, All-take}
use Rattle.stripe_plan.specs.Layers.{needs_of}
use Rattle.stripe_plan.specs.Sizes.{planned, twofold}
use Rattle.packet_frame.specs.declared.format.Format.{Format}
use Rattle.stripe_plan.specs.declared.layer.LayerSize.{LayerSize}
use Rattle.priority_file.specs.Priority.{Rule, Priorities}
use Rattle.layer_split.proofs.Beginning.{layer_size}
use Rattle.layer_split.specs.declared.cut.Run.{Run}
use Rattle.layer_split.specs.Layers.{run_entry, run_table, runs_in, bytes_of_run, layer_bytes, layer_length, lengths_of}
use Rattle.layer_split.specs.Layers.{padded, padded_by, message, message_by}
use Rattle.layer_split.specs.laws.PaddedLaws.{padded_length, padded_bytewise}
use Rattle.stream_groups.specs.CutGroups.{CutGroup}
use Rattle.stream_groups.specs.laws.FittingLaws.{IsWhole}
use Rattle.stream_session.specs.Tables.{sizes_of, sizes_with}

words_from : (s : List ℕ) (runs : List Run) → All (λ (r : Run). r.at + r.len ≤ length s) runs
    → (rules : List Rule) (a : ℕ)
    → length (flat_map (λ layer. padded (layer_bytes s runs layer)) (range_with_len a (length rules)))
    ≡ length (needs_of (sizes_with (map (layer_length runs) (range_with_len a (length rules))) rules)) * 2
words_from s runs inside [] a = refl
words_from s runs inside (rule ∷ rules) a =
    let rest = words_from s runs inside rules (a + 1) in
    let later : List ℕ = flat_map (λ layer. padded (layer_bytes s runs layer))
    (range_with_len (a + 1) (length rules)) in
    let needs : List ℕ = needs_of
    (sizes_with (map (layer_length runs) (range_with_len (a + 1) (length rules))) rules) in
    let here : length (padded (layer_bytes s runs a)) ≡ div_ceil (layer_length runs a) 2 * 2 =
    padded_length (layer_bytes s runs a) ∙ ap (λ n. div_ceil n 2 * 2) (layer_size s runs a inside) in
    let words : length (replicate (div_ceil (layer_length runs a) 2) rule.need) ≡ div_ceil (layer_length runs a) 2 =
    length-replicate (div_ceil (layer_length runs a) 2) rule.need in
    by_sum (length (padded (layer_bytes s runs a))) (length later) (div_ceil (layer_length runs a) 2)
    (length (replicate (div_ceil (layer_length runs a) 2) rule.need)) (length needs)
    _ _ (length-append (padded (layer_bytes s runs a)) later)
    (length-append (replicate (div_ceil (layer_length runs a) 2) rule.need) needs) here words rest
  where
    by_sum : (p l d w n x y : ℕ) → x ≡ p + l → y ≡ w + n → p ≡ d * 2 → w ≡ d → l ≡ n * 2 → x ≡ y * 2
    by_sum p l d w n x y a b c e f = omega arith

-- the message of a whole group has the words of its table
pub message_words : (priority : Priorities) (g : CutGroup) → IsWhole (length priority.layers) g
    → length (message g.bytes g.cut.runs (length g.cut.lengths)) ≡ length (needs_of (sizes_of priority g.cut)) * 2
message_words priority g whole =
    ap (λ n. length (message g.bytes g.cut.runs n)) whole.count
    ∙ words_from g.bytes g.cut.runs whole.inside priority.layers 0
    ∙ ap (λ l. length (needs_of (sizes_with l priority.layers)) * 2)
    (ap (lengths_of g.cut.runs) (sym whole.count) ∙ sym whole.lengths)

-- in words of one byte: a layer of twice the length has a word for each byte
words_bytewise : (s : List ℕ) (runs : List Run) → All (λ (r : Run). r.at + r.len ≤ length s) runs
    → (rules : List Rule) (a : ℕ)
    → length (flat_map (λ layer. padded_by 1 (layer_bytes s runs layer)) (range_with_len a (length rules)))
    ≡ length (needs_of (map twofold (sizes_with (map (layer_length runs) (range_with_len a (length rules))) rules))) * 1
words_bytewise s runs inside [] a = refl
words_bytewise s runs inside (rule ∷ rules) a =
    let rest = words_bytewise s runs inside rules (a + 1) in
    let later : List ℕ = flat_map (λ layer. padded_by 1 (layer_bytes s runs layer))
    (range_with_len (a + 1) (length rules)) in
    let needs : List ℕ = needs_of
    (map twofold (sizes_with (map (layer_length runs) (range_with_len (a + 1) (length rules))) rules)) in
    let here : length (padded_by 1 (layer_bytes s runs a)) ≡ layer_length runs a =
    ap length (padded_bytewise (layer_bytes s runs a)) ∙ layer_size s runs a inside in
    let half : div_ceil (2 * layer_length runs a) 2 ≡ layer_length runs a = omega arith in
    let words : length (replicate (div_ceil (2 * layer_length runs a) 2) rule.need) ≡ layer_length runs a =
    length-replicate (div_ceil (2 * layer_length runs a) 2) rule.need ∙ half in
    by_sum (length (padded_by 1 (layer_bytes s runs a))) (length later) (layer_length runs a)
    (length (replicate (div_ceil (2 * layer_length runs a) 2) rule.need)) (length needs)
    _ _ (length-append (padded_by 1 (layer_bytes s runs a)) later)
    (length-append (replicate (div_ceil (2 * layer_length runs a) 2) rule.need) needs) here words rest
  where
    by_sum : (p l d w n x y : ℕ) → x ≡ p + l → y ≡ w + n → p ≡ d → w ≡ d → l ≡ n * 1 → x ≡ y * 1
    by_sum p l d w n x y a b c e f = omega arith

message_bytewise : (priority : Priorities) (g : CutGroup) → IsWhole (length priority.layers) g
    → length (message_by 1 g.bytes g.cut.runs (length g.cut.lengths))
    ≡ length (needs_of (map twofold (sizes_of priority g.cut))) * 1
message_bytewise priority g whole =
    ap (λ n. length (message_by 1 g.bytes g.cut.runs n)) whole.count
    ∙ words_bytewise g.bytes g.cut.runs whole.inside priority.layers 0
    ∙ ap (λ l. length (needs_of (map twofold (sizes_with l priority.layers))) * 1)
    (ap (lengths_of g.cut.runs) (sym whole.count) ∙ sym whole.lengths)

-- in a format: the message has the words of the plan
pub message_words_in : (t : Format) → t.word ≡ (if t.bounds.doubled then 1 else 2) → (priority : Priorities)
    (g : CutGroup) → IsWhole (length priority.layers) g
    → length (message_by t.word g.bytes g.cut.runs (length g.cut.lengths))
    ≡ length (needs_of (planned t.bounds (sizes_of priority g.cut))) * t.word
message_words_in t word priority g whole = by_flag t.bounds.doubled word
  where
    cut : Bool → List LayerSize
    cut flag = if flag then map twofold (sizes_of priority g.cut) else sizes_of priority g.cut

    words : ℕ → Bool → Type 0
    words n flag =
        length (message_by n g.bytes g.cut.runs (length g.cut.lengths)) ≡ length (needs_of (cut flag)) * n

    by_flag : (flag : Bool) → t.word ≡ (if flag then 1 else 2) → words t.word flag
    by_flag true e = subst (λ n. words n true) (sym e) (message_bytewise priority g whole)
    by_flag false e = subst (λ n. words n false) (sym e) (message_words priority g whole)

-- a byte, or the number of a layer, as a run table writes both
abbrev pub IsByte : ℕ → Type 0
IsByte b = b < 256

abbrev HasByteLayer : Run → Type 0
HasByteLayer run = IsByte run.layer

-- the bytes of a word of 32 bits
pub word_bytes : (n : ℕ) → All IsByte (to_be_bytes w32 n)
word_bytes n zero d h = omega arith
word_bytes n (suc zero) d h = omega arith
word_bytes n (suc (suc zero)) d h = omega arith
word_bytes n (suc (suc (suc zero))) d h = omega arith
word_bytes n (suc (suc (suc (suc k)))) d h = absurd (omega arith)

flat_bytes : {X : Type 0} (f : X → List ℕ) (xs : List X) → All (λ x. All IsByte (f x)) xs → All IsByte (flat_map f xs)
flat_bytes f [] h = All-nil IsByte
flat_bytes f (x ∷ xs) h =
    All-append IsByte (f x) (flat_map f xs) (All-head (λ y. All IsByte (f y)) x xs h)
    (flat_bytes f xs (All-tail (λ y. All IsByte (f y)) x xs h))

-- the run table
entry_bytes : (run : Run) → HasByteLayer run → All IsByte (run_entry run)
entry_bytes run small = All-cons IsByte run.layer (to_be_bytes w32 run.len) small (word_bytes run.len)

table_bytes : (runs : List Run) → All HasByteLayer runs → All IsByte (run_table runs)
table_bytes runs small =
    All-append IsByte (to_be_bytes w32 (length runs)) (flat_map run_entry runs) (word_bytes (length runs))
    (flat_bytes run_entry runs (λ k d lt. entry_bytes (get_or runs k d) (small k d lt)))

run_bytes : (s : List ℕ) (run : Run) → All IsByte s → All IsByte (bytes_of_run s run)
run_bytes s run small = All-take IsByte run.len (drop run.at s) (All-drop IsByte run.at s small)

-- a layer, and its whole words
part_bytes : (s : List ℕ) (runs : List Run) (layer : ℕ) → All IsByte s → All HasByteLayer runs
    → All IsByte (layer_bytes s runs layer)
part_bytes s runs layer small few =
    All-append IsByte (if layer == 0 then run_table runs else []) (flat_map (bytes_of_run s) (runs_in layer runs))
    (elim (cases_Bool (layer == 0)) [
      | inl e ↦ subst (All IsByte) (sym (cond-true (layer == 0) (run_table runs) [] e)) (table_bytes runs few)
      | inr e ↦ subst (All IsByte) (sym (cond-false (layer == 0) (run_table runs) [] e)) (All-nil IsByte)
    ])
    (flat_bytes (bytes_of_run s) (runs_in layer runs) (λ k d lt. run_bytes s (get_or (runs_in layer runs) k d) small))

padded_bytes : (word : ℕ) (bytes : List ℕ) → All IsByte bytes → All IsByte (padded_by word bytes)
padded_bytes word bytes small = elim (cases_Bool (length bytes % word == 1)) [
  | inl e ↦
      subst (All IsByte) (sym (cond-true (length bytes % word == 1) (bytes ++ 0 ∷ []) bytes e))
      (All-append IsByte bytes (0 ∷ []) small (All-cons IsByte 0 [] (omega arith) (All-nil IsByte)))
  | inr e ↦ subst (All IsByte) (sym (cond-false (length bytes % word == 1) (bytes ++ 0 ∷ []) bytes e)) small
]

-- the message of a stream of bytes has bytes, where the runs are of layers that a run table can name
pub message_bytes_by : (word : ℕ) (s : List ℕ) (runs : List Run) (layers : ℕ) → All (λ b. b < 256) s
    → All (λ (run : Run). run.layer < 256) runs → All (λ b. b < 256) (message_by word s runs layers)
message_bytes_by word s runs layers small few =
    flat_bytes (λ layer. padded_by word (layer_bytes s runs layer)) (range_with_len 0 layers)
    (λ k d lt. each_bytes (get_or (range_with_len 0 layers) k d))
  where
    each_bytes : (layer : ℕ) → All IsByte (padded_by word (layer_bytes s runs layer))
    each_bytes layer = padded_bytes word (layer_bytes s runs layer) (part_bytes s runs layer small few)

pub message_bytes : (s : List ℕ) (runs : List Run) (layers : ℕ) → All (λ b. b < 256) s
    → All (λ (run : Run). run.layer < 256) runs → All (λ b. b < 256) (message s runs layers)
message_bytes s runs layers small few = message_bytes_by 2 s runs layers small few
