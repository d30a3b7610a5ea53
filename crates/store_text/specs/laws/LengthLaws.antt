-- How long a store is: an entry of its packet for each frame, 16 bytes before and 16 behind. A store of a session that
-- fits
-- is short enough.
use Rattle.std.proofs.Common.{◌≡◌, ℕ, ◌+◌, ◌*◌, ◌≤◌, cond, suc, List, [], ◌∷◌, ◌++◌, length, get_or, All, Option, None}
use Rattle.std.proofs.Common.{Some, refl, sym, ap, ◌∙◌, arith, flat_map, sum_by, subst}
use Rattle.std.specs.Prelude.{is_some}
use Rattle.std.specs.Int.{w16, w32, to_be_bytes}
use Rattle.std.proofs.Math.Nat.{mul-le-mul_left, mul-le-mul_right}
use Rattle.std.proofs.lemmas.List.{length-append}
use Rattle.std.proofs.lemmas.List.Sums.{sum_by-cons, sum_by-append, count_by-le-length}
use Rattle.pet_base.specs.declared.limits.TheConstants.{MAX_SESSION, MAX_STORE}
use Rattle.stripe_plan.specs.Sizes.{datagram_length_of, cost_by}
use Rattle.packet_frame.specs.Frame.{Fields, IsFrame, text}
use Rattle.packet_frame.specs.View.{fields_with}
use Rattle.packet_frame.specs.declared.frame.Header.{Header}
use Rattle.packet_frame.specs.laws.Laws.{texts_have_length}
use Rattle.packet_set.specs.Packets.{Packets, count_held, count_in}
use Rattle.pet_base.specs.Entries.{entry_text}
use Rattle.packet_verdicts.specs.KeptSet.{KeptSet, IsKeptSet, IsKeptGroup, cost_in, cost_kept}
use Rattle.packet_verdicts.specs.Union.{frames_in_group, frames_in}
use Rattle.packet_verdicts.specs.laws.FramesInOrder.{frames_from, group_from}
use Rattle.store_text.specs.declared.format.TheConstants.{STORE_FORM}
use Rattle.store_text.specs.Form.{store_tag}
use Rattle.store_text.specs.Store.{store_text, store_of, store_of_in, entries_in, text_before_tag}
use Rattle.store_text.specs.laws.FormLaws.{store_form_is, length-store_tag}
use Rattle.store_text.specs.laws.ManyFrames.{each_kept, group_frame}

-- the length of the entry of a frame
abbrev pub entry_bytes : Fields → ℕ
entry_bytes f = 2 + length (text f)

length_entries : (frames : List Fields) → length (entries_in STORE_FORM frames) ≡ sum_by entry_bytes frames
length_entries [] = refl
length_entries (f ∷ rest) =
    omega (
      arith,
      length-append (entry_text (text f)) (entries_in STORE_FORM rest),
      length-append (to_be_bytes w16 (length (text f))) (text f),
      length_entries rest,
      sum_by-cons entry_bytes f rest,
    )

length_store : (session : List ℕ) (frames : List Fields) → length session ≡ 8
    → length (store_of session frames) ≡ 32 + sum_by entry_bytes frames
unfolding store_of_in
length_store session frames eight =
    let mark = STORE_FORM.mark in
    let count = to_be_bytes w32 (length frames) in
    let entries = entries_in STORE_FORM frames in
    let before = text_before_tag session frames in
    omega (
      arith,
      length-append before (store_tag STORE_FORM before),
      length-store_tag STORE_FORM store_form_is before,
      length-append (mark ++ session ++ count) entries,
      length-append (mark ++ session) count,
      length-append mark session,
      eight,
      length_entries frames,
    )

-- A store has 32 bytes, and an entry for each frame that is kept.
pub store_length : (set : KeptSet) → length set.session ≡ 8
    → length (store_text set) ≡ 32 + sum_by entry_bytes (frames_in set)
store_length set eight = length_store set.session (frames_in set) eight

-- ---- by what the groups cost

-- the entries of a group's frames, of so many bytes each
from_length : (h : Header) (at : ℕ) (slots : List (Option (List ℕ)))
    → ((i : ℕ) (payload : List ℕ) → get_or slots i None ≡ Some payload → IsFrame (fields_with h (at + i) payload))
    → sum_by entry_bytes (frames_from h at slots) ≡ count_held slots * (2 + datagram_length_of h.table.layers)
from_length h at [] frames = omega arith
from_length h at (slot ∷ rest) frames =
    by slot (frames 0) (from_length h (at + 1) rest
    (λ i payload e. let next : at + suc i ≡ (at + 1) + i = omega arith in
    subst (λ k. IsFrame (fields_with h k payload)) next (frames (suc i) payload e)))
  where
    by : (o : Option (List ℕ)) → ((payload : List ℕ) → o ≡ Some payload → IsFrame (fields_with h (at + 0) payload))
        → sum_by entry_bytes (frames_from h (at + 1) rest) ≡ count_held rest * (2 + datagram_length_of h.table.layers)
        → sum_by entry_bytes (frames_from h at (o ∷ rest))
        ≡ count_held (o ∷ rest) * (2 + datagram_length_of h.table.layers)
    by None one later =
        later ∙ ap (λ n. n * (2 + datagram_length_of h.table.layers))
        (omega (arith, sum_by-cons (λ (x : Option (List ℕ)). cond (is_some x) 1 0) None rest))
    by (Some payload) one later =
        let here : at + 0 ≡ at = omega arith in
        let f = fields_with h at payload in
        let frame : IsFrame f = subst (λ k. IsFrame (fields_with h k payload)) here (one payload refl) in
        let each = 2 + datagram_length_of h.table.layers in
        let more : count_held (Some payload ∷ rest) ≡ 1 + count_held rest =
        omega (arith, sum_by-cons (λ (x : Option (List ℕ)). cond (is_some x) 1 0) (Some payload) rest) in
        let first : entry_bytes f ≡ each = ap (λ n. 2 + n) (texts_have_length f frame) in
        let times : (1 + count_held rest) * each ≡ each + count_held rest * each = omega arith in
        sum_by-cons entry_bytes f (frames_from h (at + 1) rest)
        ∙ ap (λ n. n + sum_by entry_bytes (frames_from h (at + 1) rest)) first ∙ ap (λ n. each + n) later ∙ sym times
        ∙ sym (ap (λ n. n * each) more)

-- two bytes more for each packet of at least 47
few_more : (count packets each : ℕ) → count ≤ packets → 47 ≤ each → 47 * (count * (2 + each)) ≤ 49 * (packets * each)
few_more count packets each le long =
    let least : count * 47 ≤ count * each = mul-le-mul_left count long in
    let most : count * each ≤ packets * each = mul-le-mul_right each le in
    let split : count * (2 + each) ≡ 2 * count + count * each = omega arith in
    omega (arith, least, most, split)

group_length : (session : List ℕ) (group : ℕ) (p : Packets) → IsKeptGroup session group p
    → 47 * sum_by entry_bytes (frames_in_group p) ≤ 49 * cost_in p
group_length session group p kept =
    let each = datagram_length_of p.header.table.layers in
    let table = (group_frame session group p kept).frame.table in
    let frames : (i : ℕ) (payload : List ℕ) → get_or p.slots i None ≡ Some payload
    → IsFrame (fields_with p.header (0 + i) payload) =
    λ i payload e. let same : i ≡ 0 + i =
    omega arith in subst (λ k. IsFrame (fields_with p.header k payload)) same (kept.frames i payload e) in
    let long : sum_by entry_bytes (frames_in_group p) ≡ count_in p * (2 + each) =
    ap (sum_by entry_bytes) (group_from p) ∙ from_length p.header 0 p.slots frames in
    let few : count_in p ≤ p.header.table.packets =
    omega (arith, count_by-le-length (is_some {T = List ℕ}) p.slots, kept.slots) in
    let most = few_more (count_in p) p.header.table.packets each few (omega (arith, table.some_layers)) in
    let cost = ap (λ (w : ℕ). cost_by w p.header.table.packets p.header.table.layers) kept.word_is in
    omega (arith, long, most, cost)

all_length : (session : List ℕ) (es : List (ℕ × Packets)) → All (λ e. IsKeptGroup session e.0 e.1) es
    → 47 * sum_by entry_bytes (flat_map (λ e. frames_in_group e.1) es) ≤ 49 * sum_by (λ e. cost_in e.1) es
all_length session [] kept = omega arith
all_length session (e ∷ es) kept =
    omega (
      arith,
      group_length session e.0 e.1 (kept 0 e (omega arith)),
      all_length session es (λ i d lt. kept (suc i) d (omega (arith, lt))),
      sum_by-append entry_bytes (frames_in_group e.1) (flat_map (λ (d : ℕ × Packets). frames_in_group d.1) es),
      sum_by-cons (λ (d : ℕ × Packets). cost_in d.1) e es,
    )

-- 47 bytes of it, but for head and tag, are at most 49 of what the groups cost
pub store_cost : (set : KeptSet) → IsKeptSet set → length set.session ≡ 8
    → 47 * length (store_text set) ≤ 1504 + 49 * cost_kept set
store_cost set sound eight =
    omega (arith, store_length set eight, all_length set.session set.groups (each_kept set sound))

-- A store whose groups cost at most what those of a session may is no longer than a store may be.
pub store_fits : (set : KeptSet) → IsKeptSet set → length set.session ≡ 8 → cost_kept set ≤ MAX_SESSION
    → length (store_text set) ≤ MAX_STORE
store_fits set sound eight fits = omega (arith, store_cost set sound eight, fits)
