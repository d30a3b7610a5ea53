-- What no row refuses is a frame, and the bytes are its text.
use Rattle.std.proofs.Common.{◌≡◌, ℕ, zero, suc, ◌+◌, ◌-◌, ◌*◌, ◌<◌, ◌≤◌, List, [], ◌∷◌, ◌++◌, length, get_or, take}
use Rattle.std.proofs.Common.{drop, None, refl, sym, ap, ◌∙◌, arith}
use Rattle.std.specs.List.{flat_map}
use Rattle.std.specs.Int.{w16, w32, to_be_bytes}
use Rattle.std.proofs.Math.Seq.{take-add}
use Rattle.std.proofs.lemmas.List.{length-take, length-drop, get_or-take, get_or_past, get_or-drop, take-append-drop}
use Rattle.std.proofs.lemmas.Bool.{cases_lt}
use Rattle.std.proofs.lemmas.Nat.{be_bytes_2, be_bytes_4}
use Rattle.packet_frame.specs.declared.format.Format.{Format}
use Rattle.packet_frame.specs.Format.{IsFormat, bare_length}
use Rattle.pet_base.specs.declared.limits.TheConstants.{HEAD_LENGTH, LAYER_LENGTH}
use Rattle.packet_frame.specs.Frame.{IsFrameIn, tag_of, layer_text, head_text, text_before_tag, text_in}
use Rattle.packet_frame.specs.Refusals.{number, layer_in, layers_at, count_of, fields_in, first_fault_in}
use Rattle.packet_frame.specs.laws.LayerLaws.{layers_length}
use Rattle.packet_frame.specs.laws.Passed.{passes_in, needs_are}
use mathlib.Core.Logic.{inl, inr}

pub is_frame : (t : Format) → IsFormat t → (bytes : List ℕ) → first_fault_in t bytes ≡ None
    → IsFrameIn t (fields_in t bytes)
unfolding first_fault_in
is_frame t is bytes h =
    let f = fields_in t bytes in
    let p = passes_in t bytes f h in
    let needs = needs_are f.packets f.layers p.needs in
    let count = layers_length (count_of bytes) (drop HEAD_LENGTH bytes) in
    record {
      session = omega (arith, length-take 8 (drop 4 bytes), length-drop 4 bytes, p.long);
      some_groups = p.some_groups;
      few_groups = p.few_groups;
      group = p.group;
      number = p.number;
      table = record {
        some_packets = p.some_packets;
        few_packets = p.few_packets;
        some_layers = omega (arith, p.some_layers);
        few_layers = omega (arith, p.few_layers);
        needed = needs.0;
        within = needs.1;
        few_bytes = p.lengths;
        narrow = p.narrow;
      };
      payload =
          omega (
            arith,
            p.whole,
            p.room,
            length-take (length bytes - bare_length t (count_of bytes))
                (drop (HEAD_LENGTH + LAYER_LENGTH * count_of bytes) bytes),
            length-drop (HEAD_LENGTH + LAYER_LENGTH * count_of bytes) bytes,
          );
    }

abbrev pub IsBytes : List ℕ → Type 0
IsBytes bytes = (i : ℕ) → get_or bytes i 0 < 256

IsBytes-drop : (n : ℕ) (bytes : List ℕ) → IsBytes bytes → IsBytes (drop n bytes)
IsBytes-drop n bytes h i = rw get_or-drop (h (n + i))

IsBytes-take : (n : ℕ) (bytes : List ℕ) → IsBytes bytes → IsBytes (take n bytes)
IsBytes-take n bytes h i =
    elim (cases_lt i n) [
      | inl lt ↦ rw (get_or-take n bytes i 0 lt) (h i)
      | inr le ↦ rw (get_or_past (take n bytes) i 0 (omega (arith, length-take n bytes))) (omega arith)
    ]

four_at : (at : ℕ) (bytes : List ℕ) → IsBytes bytes → at + 4 ≤ length bytes
    → to_be_bytes w32 (number w32 at bytes) ≡ take 4 (drop at bytes)
four_at at bytes fits le =
    be_bytes_4 (take 4 (drop at bytes)) _ (omega (arith, length-take 4 (drop at bytes), length-drop at bytes))
    (IsBytes-take 4 (drop at bytes) (IsBytes-drop at bytes fits)) refl

two_at : (at : ℕ) (bytes : List ℕ) → IsBytes bytes → at + 2 ≤ length bytes
    → to_be_bytes w16 (number w16 at bytes) ≡ take 2 (drop at bytes)
two_at at bytes fits le =
    be_bytes_2 (take 2 (drop at bytes)) _ (omega (arith, length-take 2 (drop at bytes), length-drop at bytes))
    (IsBytes-take 2 (drop at bytes) (IsBytes-drop at bytes fits)) refl

one_at : (at : ℕ) (bytes : List ℕ) → at < length bytes → get_or bytes at 0 ∷ [] ≡ take 1 (drop at bytes)
one_at at [] lt = absurd (omega arith)
one_at zero (b ∷ bytes) lt = refl
one_at (suc at) (b ∷ bytes) lt = one_at at bytes (omega arith)

-- one more piece
grow : (n m : ℕ) (bytes front piece : List ℕ) → front ≡ take n bytes → piece ≡ take m (drop n bytes)
    → front ++ piece ≡ take (n + m) bytes
grow n m bytes front piece p q = rw (p, q) (sym (take-add n m bytes))

layers_spelled : (count : ℕ) (bytes : List ℕ) → IsBytes bytes → LAYER_LENGTH * count ≤ length bytes
    → flat_map layer_text (layers_at count bytes) ≡ take (LAYER_LENGTH * count) bytes
unfolding layers_at
layers_spelled zero bytes fits le = refl
layers_spelled (suc count) bytes fits le =
    let one : layer_text (layer_in bytes) ≡ take LAYER_LENGTH bytes =
    grow 4 2 bytes _ _ (four_at 0 bytes fits (omega arith)) (two_at 4 bytes fits (omega arith)) in
    let more = layers_spelled count (drop LAYER_LENGTH bytes) (IsBytes-drop LAYER_LENGTH bytes fits)
    (omega (arith, length-drop LAYER_LENGTH bytes)) in
    let k : LAYER_LENGTH * suc count ≡ LAYER_LENGTH + LAYER_LENGTH * count = omega arith in
    rw k (grow LAYER_LENGTH (LAYER_LENGTH * count) bytes _ _ one more)

head_spelled : (t : Format) (bytes : List ℕ) → IsBytes bytes → HEAD_LENGTH ≤ length bytes → take 4 bytes ≡ t.mark
    → head_text t (fields_in t bytes) ≡ take HEAD_LENGTH bytes
head_spelled t bytes fits long is_magic =
    let f = fields_in t bytes in
    let p1 = grow 4 8 bytes t.mark f.session (sym is_magic) refl in
    let p2 = grow 12 4 bytes _ (to_be_bytes w32 f.groups) p1 (four_at 12 bytes fits (omega arith)) in
    let p3 = grow 16 4 bytes _ (to_be_bytes w32 f.group) p2 (four_at 16 bytes fits (omega arith)) in
    let p4 = grow 20 2 bytes _ (to_be_bytes w16 f.packets) p3 (two_at 20 bytes fits (omega arith)) in
    let p5 = grow 22 2 bytes _ (to_be_bytes w16 f.number) p4 (two_at 22 bytes fits (omega arith)) in
    let count : length f.layers ∷ [] ≡ take 1 (drop 24 bytes) =
    rw (layers_length (count_of bytes) (drop HEAD_LENGTH bytes)) (one_at 24 bytes (omega arith)) in
    grow 24 1 bytes _ (length f.layers ∷ []) p5 count

pub is_text : (t : Format) → (bytes : List ℕ) → IsBytes bytes → first_fault_in t bytes ≡ None
    → bytes ≡ text_in t (fields_in t bytes)
unfolding text_in first_fault_in
is_text t bytes fits h =
    let f = fields_in t bytes in
    let p = passes_in t bytes f h in
    let room = p.room in
    let c = count_of bytes in
    let p6 = head_spelled t bytes fits (omega arith) p.magic in
    let p7 = grow HEAD_LENGTH (LAYER_LENGTH * c) bytes _ (flat_map layer_text f.layers) p6
    (layers_spelled c (drop HEAD_LENGTH bytes) (IsBytes-drop HEAD_LENGTH bytes fits)
    (omega (arith, length-drop HEAD_LENGTH bytes))) in
    let p8 = grow (HEAD_LENGTH + LAYER_LENGTH * c) (length bytes - bare_length t c) bytes _ f.payload p7 refl in
    let k : (HEAD_LENGTH + LAYER_LENGTH * c) + (length bytes - bare_length t c) ≡ length bytes - t.tag = omega arith in
    let most = take (length bytes - t.tag) bytes in
    let front : text_before_tag t f ≡ most = rw (← k) p8 in
    sym (take-append-drop (length bytes - t.tag) bytes) ∙ ap (λ (l : List ℕ). most ++ l) p.tag
    ∙ ap (λ (l : List ℕ). l ++ tag_of t l) (sym front)
