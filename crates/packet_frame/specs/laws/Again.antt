-- The text of a frame is read as that frame.
use Rattle.std.proofs.Common.{◌≡◌, ℕ, ◌+◌, ◌-◌, ◌*◌, ◌<◌, ◌^◌, List, [], ◌∷◌, ◌++◌, length, take, drop, None, refl, sym}
use Rattle.std.proofs.Common.{ap, ◌∙◌, append_assoc, arith}
use Rattle.std.specs.Prelude.{sum_by}
use Rattle.std.specs.List.{flat_map, All}
use Rattle.std.specs.Int.{w16, w32, from_be_bytes}
use Rattle.std.proofs.lemmas.List.{length-append, length-take, drop-drop, drop_at, take_at}
use Rattle.std.proofs.lemmas.List.Elements.{All-head, All-tail}
use Rattle.std.proofs.lemmas.List.Sums.{sum_by-cons}
use Rattle.std.proofs.lemmas.Nat.{from_be_bytes-to_be_bytes_2, from_be_bytes-to_be_bytes_4}
use Rattle.sha2.specs.Sha256.{sha256}
use Rattle.sha2.proofs.Facts256.{length-sha256}
use Rattle.stripe_plan.specs.declared.layer.LayerSize.{LayerSize}
use Rattle.stripe_plan.specs.laws.ByteLaws.{few_bytes_in}
use Rattle.packet_frame.specs.declared.format.Format.{Format}
use Rattle.packet_frame.specs.Format.{IsFormat, bare_length, frame_length_in}
use Rattle.pet_base.specs.declared.limits.TheConstants.{HEAD_LENGTH, LAYER_LENGTH}
use Rattle.packet_frame.specs.Frame.{Fields, IsFrameIn, tag_of, layer_text, head_text, text_before_tag, text_in}
use Rattle.packet_frame.specs.Refusals.{layers_at, fields_in, first_of, rows, first_fault_in}
use Rattle.packet_frame.specs.laws.Passed.{not_refused, no_wrong_need}

layer_again : (layer : LayerSize) (rest : List ℕ) → layer.length < 2 ^ 32 → layer.need < 2 ^ 16
    → (let made : LayerSize = record {
      length = from_be_bytes w32 (take 4 (layer_text layer ++ rest));
      need = from_be_bytes w16 (take 2 (drop 4 (layer_text layer ++ rest)));
    } in made ≡ layer)
layer_again layer rest length need = λ i. record {
  length = from_be_bytes-to_be_bytes_4 layer.length length i;
  need = from_be_bytes-to_be_bytes_2 layer.need need i;
}

pub layers_again : (layers : List LayerSize) (rest : List ℕ) → sum_by (λ (l : LayerSize). l.length) layers < 2 ^ 32
    → All (λ (l : LayerSize). l.need < 2 ^ 16) layers
    → layers_at (length layers) (flat_map layer_text layers ++ rest) ≡ layers
unfolding layers_at
layers_again [] rest lengths needs = refl
layers_again (layer ∷ layers) rest lengths needs =
    let bytes = flat_map layer_text layers in
    let sum = sum_by-cons (λ (l : LayerSize). l.length) layer layers in
    λ i. layer_again layer (bytes ++ rest) (omega arith)
    (All-head (λ (l : LayerSize). l.need < 2 ^ 16) layer layers needs) i
    ∷ layers_again layers rest (omega arith) (All-tail (λ (l : LayerSize). l.need < 2 ^ 16) layer layers needs) i

pub length-layers : (layers : List LayerSize) → length (flat_map layer_text layers) ≡ LAYER_LENGTH * length layers
length-layers [] = refl
length-layers (layer ∷ layers) = omega (arith, length-layers layers)

pub length-tag : (t : Format) → IsFormat t → (bytes : List ℕ) → length (tag_of t bytes) ≡ t.tag
length-tag t format bytes = omega (arith, format.tag, length-take t.tag (sha256 bytes), length-sha256 bytes)

length-head : (t : Format) → IsFormat t → (f : Fields) → length f.session ≡ 8 → length (head_text t f) ≡ HEAD_LENGTH
length-head t format f session = simp length-append (omega (arith, format.mark, session))

pub length-text : (t : Format) → IsFormat t → (f : Fields) → IsFrameIn t f
    → length (text_in t f) ≡ frame_length_in t f.layers
unfolding text_in
length-text t format f is =
    let tag = tag_of t (text_before_tag t f) in
    let flat = flat_map layer_text f.layers in
    let payload = is.payload in
    omega (
      arith,
      length-head t format f is.session,
      length-append (head_text t f ++ flat ++ f.payload) tag,
      length-append (head_text t f ++ flat) f.payload,
      length-append (head_text t f) flat,
      length-layers f.layers,
      length-tag t format (text_before_tag t f),
    )

-- a piece behind others, cut at offsets that are variables
piece_again : (n m : ℕ) (flat payload tag : List ℕ) → length flat ≡ n → length payload ≡ m
    → take m (drop n ((flat ++ payload) ++ tag)) ≡ payload
piece_again n m flat payload tag p q =
    ap (λ (t : List ℕ). take m (drop n t)) (append_assoc flat payload tag)
    ∙ ap (λ (t : List ℕ). take m t) (drop_at flat (payload ++ tag) n p) ∙ take_at payload tag m q

-- the format with another mark
abbrev marked : Format → List ℕ → Format
marked t mark = record { mark = mark; tag = t.tag; word = t.word; bounds = t.bounds }

-- the fields with another session
abbrev numbered : Fields → List ℕ → Fields
numbered m session =
    record {
      session = session;
      groups = m.groups;
      group = m.group;
      packets = m.packets;
      number = m.number;
      layers = m.layers;
      payload = m.payload;
    }

-- what is said of a format with this mark, and of a frame with this session
abbrev Again : Format → Fields → List ℕ → List ℕ → Type 0
Again t m mark session =
    IsFormat (marked t mark) → IsFrameIn (marked t mark) (numbered m session)
    → (fields_in (marked t mark) (text_in (marked t mark) (numbered m session)) ≡ numbered m session)
    × (first_of (rows (marked t mark) (text_in (marked t mark) (numbered m session)) (numbered m session)) ≡ None)

-- where the mark and the session are written out, the places compute
module _ (t : Format) (m : Fields) (p q r s a b c d e f g h : ℕ) where
  abbrev with_mark : Format
  with_mark = marked t (p ∷ q ∷ r ∷ s ∷ [])

  abbrev with_session : Fields
  with_session = numbered m (a ∷ b ∷ c ∷ d ∷ e ∷ f ∷ g ∷ h ∷ [])

  whole : IsFormat with_mark
      → length (text_in with_mark with_session) ≡ bare_length t (length m.layers) + length m.payload
  unfolding text_in
  whole format =
      let tag = tag_of with_mark (text_before_tag with_mark with_session) in
      let flat = flat_map layer_text m.layers in
      omega (
        arith,
        length-append (flat ++ m.payload) tag,
        length-append flat m.payload,
        length-layers m.layers,
        length-tag with_mark format (text_before_tag with_mark with_session),
      )

  fields_again : IsFormat with_mark → IsFrameIn with_mark with_session
      → fields_in with_mark (text_in with_mark with_session) ≡ with_session
  unfolding text_in
  fields_again format is =
      let tag = tag_of with_mark (text_before_tag with_mark with_session) in
      let flat = flat_map layer_text m.layers in
      let n = length m.layers in
      let few = is.few_groups in
      let below = is.group in
      let most = is.table.few_packets in
      let wide = format.packets in
      let at = is.number in
      let lengths : sum_by (λ (l : LayerSize). l.length) m.layers < 2 ^ 32 =
      omega (arith, is.table.few_bytes, few_bytes_in t.bounds format.bounds) in
      let needs : All (λ (l : LayerSize). l.need < 2 ^ 16) m.layers = λ k d lt. omega (arith, is.table.within k d lt) in
      let all = whole format in
      let l : layers_at n ((flat ++ m.payload) ++ tag) ≡ m.layers =
      ap (λ (t : List ℕ). layers_at n t) (append_assoc flat m.payload tag)
      ∙ layers_again m.layers (m.payload ++ tag) lengths needs in
      let left = length (text_in with_mark with_session) - bare_length t n in
      let len : length m.payload ≡ left = omega arith in
      let y : take left (drop (HEAD_LENGTH + LAYER_LENGTH * n) (text_in with_mark with_session)) ≡ m.payload =
      ap (λ (t : List ℕ). take left t) (sym (drop-drop (LAYER_LENGTH * n) HEAD_LENGTH
      (text_in with_mark with_session)))
      ∙ piece_again (LAYER_LENGTH * n) left flat m.payload tag (length-layers m.layers) len in
      λ i. record {
        session = a ∷ b ∷ c ∷ d ∷ e ∷ f ∷ g ∷ h ∷ [];
        groups = from_be_bytes-to_be_bytes_4 m.groups (omega arith) i;
        group = from_be_bytes-to_be_bytes_4 m.group (omega arith) i;
        packets = from_be_bytes-to_be_bytes_2 m.packets (omega arith) i;
        number = from_be_bytes-to_be_bytes_2 m.number (omega arith) i;
        layers = l i;
        payload = y i;
      }

  rows_again : IsFormat with_mark → IsFrameIn with_mark with_session
      → first_of (rows with_mark (text_in with_mark with_session) with_session) ≡ None
  unfolding text_in
  rows_again format is =
      let front = text_before_tag with_mark with_session in
      let bytes = text_in with_mark with_session in
      let tag = tag_of with_mark front in
      let flat = flat_map layer_text m.layers in
      let pay = is.payload in
      let table = is.table in
      let all = whole format in
      let before : length front ≡ length bytes - t.tag =
      omega (arith, length-append flat m.payload, length-layers m.layers) in
      let back : drop (length bytes - t.tag) bytes ≡ tag = drop_at front tag (length bytes - t.tag) before in
      let fore : take (length bytes - t.tag) bytes ≡ front = take_at front tag (length bytes - t.tag) before in
      not_refused with_mark bytes with_session (record {
        long = omega (arith, table.some_layers);
        magic = refl;
        some_groups = is.some_groups;
        few_groups = is.few_groups;
        group = is.group;
        some_packets = table.some_packets;
        few_packets = table.few_packets;
        number = is.number;
        some_layers = table.some_layers;
        few_layers = table.few_layers;
        room = omega arith;
        needs = no_wrong_need m.packets m.layers table.needed table.within;
        lengths = table.few_bytes;
        whole = omega arith;
        narrow = table.narrow;
        tag = back ∙ ap (tag_of with_mark) (sym fore);
      })

  written_out : Again t m (p ∷ q ∷ r ∷ s ∷ []) (a ∷ b ∷ c ∷ d ∷ e ∷ f ∷ g ∷ h ∷ [])
  written_out format is = (fields_again format is, rows_again format is)

-- what holds of every list of four holds of a list of that length
fours : (P : List ℕ → Type 0) → ((a b c d : ℕ) → P (a ∷ b ∷ c ∷ d ∷ [])) → (l : List ℕ) → length l ≡ 4 → P l
fours P h (a ∷ b ∷ c ∷ d ∷ []) e = h a b c d
fours P h [] e = absurd (omega arith)
fours P h (a ∷ []) e = absurd (omega arith)
fours P h (a ∷ b ∷ []) e = absurd (omega arith)
fours P h (a ∷ b ∷ c ∷ []) e = absurd (omega arith)
fours P h (a ∷ b ∷ c ∷ d ∷ x ∷ more) e = absurd (omega arith)

eights : (P : List ℕ → Type 0) → ((a b c d e f g h : ℕ) → P (a ∷ b ∷ c ∷ d ∷ e ∷ f ∷ g ∷ h ∷ [])) → (l : List ℕ)
    → length l ≡ 8 → P l
eights P k (a ∷ b ∷ c ∷ d ∷ l) e = fours (λ r. P (a ∷ b ∷ c ∷ d ∷ r)) (k a b c d) l (omega arith)
eights P k [] e = absurd (omega arith)
eights P k (a ∷ []) e = absurd (omega arith)
eights P k (a ∷ b ∷ []) e = absurd (omega arith)
eights P k (a ∷ b ∷ c ∷ []) e = absurd (omega arith)

again_at : (t : Format) (m : Fields) → IsFormat t → IsFrameIn t m
    → (fields_in t (text_in t m) ≡ m) × (first_of (rows t (text_in t m) m) ≡ None)
again_at t m format is =
    fours (λ mark. Again t m mark m.session)
    (λ p q r s. eights (Again t m (p ∷ q ∷ r ∷ s ∷ [])) (written_out t m p q r s) m.session is.session) t.mark
    format.mark format is

pub is_read : (t : Format) → IsFormat t → (m : Fields) → IsFrameIn t m
    → (first_fault_in t (text_in t m) ≡ None) × (fields_in t (text_in t m) ≡ m)
unfolding first_fault_in
is_read t format m is =
    let p = again_at t m format is in
    (ap (λ (f : Fields). first_of (rows t (text_in t m) f)) p.0 ∙ p.1, p.0)
