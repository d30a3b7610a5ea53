-- The lines that a world prints: the bytes of a layer that is shown, and what each receiver has kept.
use Rattle.std.proofs.Common.{◌≡◌, ◌≢◌, ℕ, suc, ◌+◌, ◌*◌, ◌<◌, List, [], ◌∷◌, ◌++◌, length, Option}
use Rattle.std.proofs.Common.{Some, sym, ap, subst, ◌∙◌, arith, get_or, take, drop, append_assoc, length-take}
use Rattle.std.specs.Prelude.{◌==◌, min, slice_get, IfSome, if◌then◌else◌}
use Rattle.std.specs.List.{sum_by}
use Rattle.std.specs.Option.{option_map_or}
use Rattle.std.proofs.lemmas.Bool.{cond-true, cond-false, eq-eqb, ne_eqb}
use Rattle.std.proofs.lemmas.List.{take_more, append-nil}
use Rattle.std.proofs.lemmas.List.Sums.{get_or-le-sum_by}
use Rattle.std.proofs.lemmas.Option.{slice_get-get_or}
use Rattle.pet_base.specs.declared.event.Shown.{Shown}
use Rattle.field_elements.specs.Gf16.{gf16_coding}
use Rattle.stripe_plan.specs.declared.layer.LayerSize.{LayerSize}
use Rattle.stripe_plan.specs.Layers.{words_of, words_before}
use Rattle.packet_session.specs.Session.{Session, SessionGroup, IsSession, IsMessage, bytes_in_layer, length_of_layer}
use Rattle.packet_session.specs.Session.{bytes_of_layer}
use Rattle.packet_set.specs.Packets.{Packets}
use Rattle.packet_verdicts.specs.KeptSet.{KeptSet, open_group, kept_in_all}
use Rattle.packet_met.specs.Met.{Pair, count_met}
use Rattle.packet_met.specs.MetStore.{pairs_store}
use Rattle.packet_met.specs.laws.ExactlyKept.{KeepsExactly, store_is}
use Rattle.packet_met.specs.laws.LayersKept.{layer_shown, layer_bytes_are, kept_count}
use Rattle.packet_met.specs.laws.CountsAreMet.{group_at}
use Rattle.pet_receive.specs.Arrivals.{ReceiverState, kept_set, layers_of}
use Rattle.pet_receive.specs.ShownBytes.{Agrees, IsShown}
use Rattle.store_text.specs.Store.{store_text}
use Rattle.pet_world.specs.ReceivedSets.{Sets, set_of}
use Rattle.pet_world.specs.World.{WorldState}
use Rattle.text_world.specs.ReplayLines.{kept_text}
use Rattle.command_replay.specs.ReplayText.{digest_of, layer_in, store_line_of, store_lines_from}
use Rattle.command_replay.specs.inside.Playing.{IsShownIn, session_in}

module _ (w : WorldState ℕ) (x : Shown) (h : IsShownIn w x) (lawful : IsSession 2 (session_in w))
    (r : ReceiverState ℕ) (at : slice_get w.receivers x.receiver ≡ Some r) where
  -- the layer is lent out
  pub is_lent : IsShown (kept_set r) x.group x.layer
  is_lent =
      layer_shown gf16_coding (session_in w) w.limit (set_of h.sets x.receiver) (kept_set r) lawful
      (h.met.each x.receiver r at) x.group h.source x.layer h.group h.layer h.shown

  layer_of_group : layer_in (session_in w) x ≡ bytes_of_layer 2 h.source.layers h.source.message x.layer
  layer_of_group =
      ap (λ (o : Option SessionGroup). option_map_or (λ g. bytes_of_layer 2 g.layers g.message x.layer) o []) h.group

  -- with the bytes of the session
  pub lent_bytes : {B : Type 0} (now : B → List ℕ) (found : Option B)
      → ((p : Packets) (message : List ℕ) → open_group (kept_set r) x.group ≡ Some p
      → IsMessage 2 (layers_of p) message → Agrees gf16_coding p message
      → IfSome found (λ bytes. now bytes ≡ bytes_of_layer 2 (layers_of p) message x.layer))
      → IfSome found (λ bytes. now bytes ≡ layer_in (session_in w) x)
  lent_bytes now found agreed =
      subst (λ (t : List ℕ). IfSome found (λ bytes. now bytes ≡ t)) (sym layer_of_group)
      (layer_bytes_are gf16_coding (session_in w) w.limit (set_of h.sets x.receiver) (kept_set r) lawful
      (h.met.each x.receiver r at) now found x.group h.source x.layer h.group h.layer h.shown agreed)

  -- of which there are not too many
  pub few_bytes : length (layer_in (session_in w) x) < 4294967296
  few_bytes =
      let layers : List LayerSize = h.source.layers in
      let none : LayerSize = record { length = 0; need = 0 } in
      let size : LayerSize = get_or layers x.layer none in
      let long : length_of_layer 2 layers x.layer ≡ min size.length (words_of size * 2) =
      ap (λ (o : Option LayerSize). Rattle.std.specs.Prelude.unwrap_or
      (Rattle.std.specs.Prelude.option_map (bytes_in_layer 2) o) 0)
      (slice_get-get_or layers x.layer none h.layer) in
      let table = (group_at (session_in w).groups x.group h.source h.group lawful.groups).table in
      omega (
        arith,
        ap (λ (t : List ℕ). length t) layer_of_group,
        length-take (length_of_layer 2 layers x.layer) (drop (words_before layers x.layer * 2) h.source.message),
        long,
        get_or-le-sum_by (λ (l : LayerSize). l.length) layers x.layer none h.layer,
        table.few_bytes,
      )

module _ (s : Session) (limit : ℕ) (pairs : List Pair) (kept : KeptSet) (lawful : IsSession 2 s)
    (is : KeepsExactly gf16_coding s limit pairs kept) (receiver count : ℕ) (as_many : count ≡ kept_in_all kept) where
  met : count ≡ count_met s pairs
  met = as_many ∙ kept_count gf16_coding s limit pairs kept lawful is

  -- nothing is kept, so nothing was met
  pub no_line : count ≡ 0 → store_line_of s receiver pairs ≡ []
  no_line none =
      cond-true (count_met s pairs == 0) [] _ (eq-eqb (count_met s pairs) 0 (sym met ∙ none))

  -- else the line tells of the store of what was met
  pub its_line : count ≢ 0
      → store_line_of s receiver pairs ≡ kept_text receiver count (digest_of (store_text kept))
  its_line some =
      cond-false (count_met s pairs == 0) [] _ (ne_eqb (count_met s pairs) 0 (λ none. some (met ∙ none)))
      ∙ ap (λ n. kept_text receiver n (digest_of (pairs_store s pairs))) (sym met)
      ∙ ap (λ (t : List ℕ). kept_text receiver count (digest_of t))
      (sym (store_is gf16_coding s limit pairs kept is))

lines_push : (s : Session) (first : ℕ) (sets : Sets) (pairs : List Pair)
    → store_lines_from s first (sets ++ pairs ∷ [])
    ≡ store_lines_from s first sets ++ store_line_of s (first + length sets) pairs
lines_push s first [] pairs =
    append-nil (store_line_of s first pairs)
    ∙ ap (λ n. store_line_of s n pairs) (let same : first ≡ first + 0 = omega arith in same)
lines_push s first (set ∷ sets) pairs =
    let here = store_line_of s first set in
    let at : (first + 1) + length sets ≡ first + suc (length sets) = omega arith in
    ap (λ (t : List ℕ). here ++ t)
    (lines_push s (first + 1) sets pairs
    ∙ ap (λ n. store_lines_from s (first + 1) sets ++ store_line_of s n pairs) at)
    ∙ sym (append_assoc here (store_lines_from s (first + 1) sets)
    (store_line_of s (first + suc (length sets)) pairs))

-- the line of one receiver more
pub store_more : (s : Session) (sets : Sets) (i : ℕ) (old before after : List ℕ) → i < length sets
    → before ≡ old ++ store_lines_from s 0 (take i sets) → after ≡ before ++ store_line_of s i (set_of sets i)
    → after ≡ old ++ store_lines_from s 0 (take (i + 1) sets)
store_more s sets i old before after lt so one =
    let long : 0 + length (take i sets) ≡ i = omega (arith, length-take i sets, lt) in
    one ∙ ap (λ (t : List ℕ). t ++ store_line_of s i (set_of sets i)) so
    ∙ append_assoc old (store_lines_from s 0 (take i sets)) (store_line_of s i (set_of sets i))
    ∙ ap (λ (t : List ℕ). old ++ t)
    (ap (λ n. store_lines_from s 0 (take i sets) ++ store_line_of s n (set_of sets i)) (sym long)
    ∙ sym (lines_push s 0 (take i sets) (set_of sets i))
    ∙ ap (store_lines_from s 0) (sym (take_more sets i [] lt)))
