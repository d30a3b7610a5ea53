-- What is told: the video of each group, and the figures.
use Rattle.std.proofs.Common.{◌≡◌, ◌≢◌, ◌↔◌, ℕ, zero, suc, ◌+◌, ◌-◌, ◌*◌, ◌<◌, ◌≤◌, true, false, List, [], ◌∷◌, ◌++◌, length}
use Rattle.std.proofs.Common.{map, take, Option, None, Some, All, Result, Ok, Err, refl, sym, ap, ap₂, subst, ◌∙◌, arith}
use Rattle.std.proofs.Common.{get_or, inl, inr}
use Rattle.std.specs.Prelude.{slice_get, option_map, MatchOption, IfOk, IsErrOf}
use Rattle.std.specs.List.{flat_map, range_with_len}
use Rattle.std.proofs.lemmas.Bool.{cases_lt, both_ways}
use Rattle.std.proofs.lemmas.List.{append-nil, append_assoc}
use Rattle.std.proofs.lemmas.List.Elements.{All-head, All-tail}
use Rattle.std.proofs.lemmas.Option.{none-some, same_Some, slice_get-get_or, slice_get-map}
use Rattle.pet_base.specs.declared.limits.TheConstants.{MAX_SESSION}
use Rattle.stripe_plan.specs.declared.layer.LayerSize.{LayerSize}
use Rattle.stripe_plan.specs.Layers.{count_of}
use Rattle.stripe_plan.specs.Sizes.{Sizes}
use Rattle.layer_split.specs.RunTable.{fits}
use Rattle.field_elements.specs.Gf16.{gf16_coding}
use Rattle.packet_frame.specs.declared.frame.Header.{Header}
use Rattle.packet_set.specs.Packets.{Packets}
use Rattle.packet_session.specs.Session.{Session, SessionGroup, IsMessage, bytes_of_layer}
use Rattle.packet_verdicts.specs.KeptSet.{KeptSet, open_group}
use Rattle.pet_receive.specs.Arrivals.{ReceiverState, kept_set, layers_of}
use Rattle.pet_receive.specs.ShownBytes.{Agrees, IsComplete, IsShown, IsShownIn}
use Rattle.packet_met.specs.Met.{all_shown}
use Rattle.packet_met.specs.laws.CountsAreMet.{complete_is, group_at, told_is}
use Rattle.packet_met.specs.laws.DatagramMore.{agrees, made as payloads_made}
use Rattle.packet_met.specs.laws.KeptIsMet.{HasMet}
use Rattle.reassemble.specs.declared.fault.Assemble.{Assemble}
use Rattle.reassemble.specs.declared.fault.Assemble.TheVariants as assemble
use Rattle.reassemble.specs.Leading.{AreLeading, lengths_in}
use Rattle.reassemble.specs.Video.{group_video}
use Rattle.stream_session.specs.Accepted.{session_of}
use Rattle.packet_verdicts.specs.KeptSet.{empty_set}
use Rattle.packet_verdicts.specs.laws.KeptSetLaws.{empty_sound}
use Rattle.pet_receive.specs.Arrivals.{HasKept}
use Rattle.packet_met.specs.MetStore.{pairs_store}
use Rattle.packet_met.specs.laws.ExactlyKept.{KeepsExactly, store_is}
use Rattle.packet_met.specs.laws.KeptIsMet.{follows_nothing}
use Rattle.store_text.specs.Store.{store_text}
use Rattle.stream_sample.specs.SampleStream.{sample_text}
use Rattle.stream_session.specs.Accepted.{IsAcceptedSession}
use Rattle.pet_base.specs.declared.faults.NoMemory.{NoMemory}
use Rattle.pet_base.specs.declared.limits.TheConstants.{MAX_SAMPLE_GROUPS}
use Rattle.command_sample.specs.Arrivals.{arrivals_of}
use Rattle.command_sample.specs.Samples.{AreEnds, Samples, contents_of, figures_of, showing_of}
use Rattle.command_sample.specs.SampleSteps.{sample_steps, steps_behind}
use Rattle.command_sample.specs.Summary.{summary_of}
use Rattle.command_sample.specs.SamplePriority.{sample_priority}
use Rattle.command_sample.specs.SampleSession.{sample_session, whole_group_video, whole_session_video}
use Rattle.command_sample.specs.Showings.{shown_after}
use Rattle.command_sample.specs.declared.made.Made.{Made}
use Rattle.command_sample.specs.declared.printed.Contents.{Contents}
use Rattle.command_sample.specs.declared.printed.Figures.{Figures}
use Rattle.command_sample.specs.declared.printed.Showing.{Showing}
use Rattle.command_sample.specs.inside.Making.{IsMade, session_made}
use Rattle.command_sample.specs.inside.Receiving.{HasReceived}
use Rattle.command_sample.specs.laws.SessionLaws.{IsLikeAll, groups_alike, groups_count, sample_layers}
use Rattle.command_sample.proofs.WholeVideo.{video_is_stream}
use Rattle.command_sample.proofs.Arrived.{all_are_shown, few, shown_at}
use Rattle.command_sample.proofs.Encoders.{accepted, as_many, session, table_is, tables_here}
use Rattle.command_sample.proofs.Encoders.{group_message_fits}
use Rattle.stream_session.specs.Tables.{table_of}
use Rattle.command_sample.specs.laws.SamplePriorityLaws.{sample_rules}
use Rattle.layer_split.specs.Layers.{Cut}

like_at : (gs : List SessionGroup) → All IsLikeAll gs → (i : ℕ) (g : SessionGroup) → slice_get gs i ≡ Some g
    → IsLikeAll g
like_at [] all i g at = absurd (none-some g at)
like_at (x ∷ gs) all zero g at = subst IsLikeAll (same_Some x g at) (All-head IsLikeAll x gs all)
like_at (x ∷ gs) all (suc i) g at = like_at gs (All-tail IsLikeAll x gs all) i g at

module _ (made : Made) (is : IsMade made) where
  abbrev s : Session
  s = session_made made

  abbrev n : ℕ
  n = length made.cuts.items

  alike : All IsLikeAll s.groups
  alike =
      subst (λ (l : List ℕ). All IsLikeAll (session_of sample_priority l).groups) (sym is.stream_is)
      (groups_alike is.seed is.before)

  pub complete : all_shown s (arrivals_of n) ≡ true
  complete = all_are_shown s n alike (as_many made is)

  pub like : (i : ℕ) (g : SessionGroup) → slice_get s.groups i ≡ Some g → IsLikeAll g
  like = like_at s.groups alike

  -- ---- the tables

  pub any_table : (i : ℕ) (t : Sizes) → slice_get made.plan.tables.items i ≡ Some t
      → t ≡ record { packets = 100; layers = sample_layers }
  any_table i t there = by (slice_get made.cuts.items i) refl
    where
      by : (o : Option Cut) → slice_get made.cuts.items i ≡ o → t ≡ record { packets = 100; layers = sample_layers }
      by None none =
          absurd (none-some t (sym (ap (λ (ts : List Sizes). slice_get ts i) (tables_here made is)
          ∙ slice_get-map (table_of sample_rules) made.cuts.items i ∙ ap (option_map (table_of sample_rules)) none)
          ∙ there))
      by (Some cut) at = table_is made is i cut at t there

  -- ---- the showings

  pub showing_so : (first last : SessionGroup) → AreEnds n s first last → (layer a b place : ℕ) → layer < 3
      → place + 1 ≡ n → a ≡ count_of sample_layers layer → b ≡ count_of sample_layers layer
      → ◌≡◌ {A = Showing} (record { first = a; last = 96 * place + b }) (showing_of n first last layer)
  showing_so first last ends layer a b place inside at a_is b_is =
      let past : place ≡ n - 1 = omega (arith, at) in
      let one = shown_at n 0 (omega (arith, at)) first (like 0 first ends.first_there) layer inside in
      let two = shown_at n (n - 1) (omega (arith, at)) last (like (n - 1) last ends.last_there) layer inside in
      ap₂ (λ (x y : ℕ). record { first = x; last = y })
      (let e : a ≡ shown_after (arrivals_of n) 0 first layer = omega (arith, one, a_is) in e)
      (let e : 96 * place + b ≡ shown_after (arrivals_of n) (n - 1) last layer = omega (arith, two, b_is, past) in e)

  pub first_layers : (first last : SessionGroup) → AreEnds n s first last → first.layers ≡ sample_layers
  first_layers first last ends = (like 0 first ends.first_there).layers

  -- ---- the video of a group

  module _ (r : ReceiverState ℕ) (has : HasReceived s (arrivals_of n) r) (group : ℕ) (low : group < n) where
    abbrev kept : KeptSet
    kept = kept_set r

    whole : IsComplete kept
    whole =
        (complete_is (payloads_made gf16_coding) s MAX_SESSION (arrivals_of n) kept (session made is)
        has.exactly.follows).1 complete

    record IsOpen (p : Packets) : Type 0 where
      here : open_group kept group ≡ Some p
      shown : (layer : ℕ) → layer < length (layers_of p) → IsShownIn p layer

    opened : (p : Packets) × IsOpen p
    opened =
        by (open_group kept group) refl (whole.shown group
        (omega (
          arith,
          low,
          as_many made is,
          told_is (payloads_made gf16_coding) s MAX_SESSION (arrivals_of n) kept (session made is) has.exactly.follows
              whole.some,
        )))
      where
        by : (o : Option Packets) → open_group kept group ≡ o
            → MatchOption o ⊥ (λ p. (layer : ℕ) → layer < length (layers_of p) → IsShownIn p layer)
            → (p : Packets) × IsOpen p
        by None here none = absurd none
        by (Some p) here shown = (p, record { here = here; shown = shown })

    abbrev p : Packets
    p = opened.0

    -- the group of the session that it is
    met : (g : SessionGroup) × (slice_get s.groups group ≡ Some g)
        × HasMet (payloads_made gf16_coding) s (arrivals_of n) group g p
    met = has.exactly.follows.opened group p opened.1.here

    layers_are : layers_of p ≡ met.0.layers
    layers_are = ap (λ (h : Header). h.table.layers) met.2.header

    three : length (layers_of p) ≡ 3
    three =
        ap (λ (l : List LayerSize). length l) layers_are
        ∙ ap (λ (l : List LayerSize). length l) (like group met.0 met.1).layers

    message_is : IsMessage 2 (layers_of p) met.0.message
    message_is =
        subst (λ (l : List LayerSize). IsMessage 2 l met.0.message) (sym layers_are)
        (group_at s.groups group met.0 met.1 (session made is).groups).message

    agreed : Agrees gf16_coding p met.0.message
    agreed = agrees gf16_coding s (arrivals_of n) group met.0 p met.2

    shown_here : (layer : ℕ) → layer < 3 → IsShown kept group layer
    shown_here layer inside =
        subst (λ (o : Option Packets). MatchOption o ⊥ (λ q. IsShownIn q layer)) (sym opened.1.here)
        (opened.1.shown layer (omega (arith, inside, three)))

    not_past : IsShown kept group 3 → ⊥
    not_past past =
        let inside : IsShownIn p 3 =
        subst (λ (o : Option Packets). MatchOption o ⊥ (λ q. IsShownIn q 3)) opened.1.here past in
        omega (arith, inside.0, three)

    leads : (k : ℕ) → AreLeading kept group k → k ≡ 3
    leads k leading = elim (cases_lt k 3) [
      | inl less ↦ absurd (leading.next (shown_here k less))
      | inr more ↦ elim (cases_lt 3 k) [
        | inl greater ↦ absurd (not_past (leading.shown 3 greater))
        | inr same ↦ omega arith
      ]
    ]

    pub video_so : (k : ℕ) (old new : List ℕ) → AreLeading kept group k
        → ((q : Packets) (message : List ℕ) → open_group kept group ≡ Some q → IsMessage 2 (layers_of q) message
        → Agrees gf16_coding q message
        → new ≡ old ++ group_video (map (bytes_of_layer 2 (layers_of q) message) (range_with_len 0 k)))
        → (g : SessionGroup) → slice_get s.groups group ≡ Some g → new ≡ old ++ whole_group_video g
    video_so k old new leading says g at =
        let same : met.0 ≡ g = same_Some met.0 g (sym met.1 ∙ at) in
        let many : k ≡ length met.0.layers =
        leads k leading ∙ sym three ∙ ap (λ (l : List LayerSize). length l) layers_are in
        says p met.0.message opened.1.here message_is agreed
        ∙ ap₂ (λ (l : List LayerSize) (m : ℕ). old
        ++ group_video (map (bytes_of_layer 2 l met.0.message) (range_with_len 0 m))) layers_are many
        ∙ ap (λ (x : SessionGroup). old ++ whole_group_video x) same

    fits_here : fits (bytes_of_layer 2 (layers_of p) met.0.message 0) (lengths_in p) ≡ true
    fits_here =
        ap (λ (l : List LayerSize). fits (bytes_of_layer 2 l met.0.message 0) (map (λ (x : LayerSize). x.length) l))
        layers_are
        ∙ group_message_fits made is group met.0 met.1

    pub no_fault : (q : Result ℕ Assemble) (fault : Assemble) → q ≡ Err fault → fault ≢ assemble.NoMemory
        → (IsErrOf q assemble.NoTable ↔ (IsShown kept group 0 → ⊥))
        → (IsErrOf q assemble.BadTable → (x : Packets) (message : List ℕ) → open_group kept group ≡ Some x
        → IsMessage 2 (layers_of x) message → Agrees gf16_coding x message
        → fits (bytes_of_layer 2 (layers_of x) message 0) (lengths_in x) ≡ false)
        → ⊥
    no_fault q assemble.NoTable err other none bad =
        none.0 err (shown_here 0 (omega arith))
    no_fault q assemble.BadTable err other none bad =
        both_ways (fits (bytes_of_layer 2 (layers_of p) met.0.message 0) (lengths_in p))
        (bad err p met.0.message opened.1.here message_is agreed)
        fits_here
    no_fault q assemble.NoMemory err other none bad = other refl

-- ---- the video of all groups

flat_more : (xs : List SessionGroup) (i : ℕ) (g : SessionGroup) → slice_get xs i ≡ Some g
    → flat_map whole_group_video (take (suc i) xs) ≡ flat_map whole_group_video (take i xs) ++ whole_group_video g
flat_more [] i g at = absurd (none-some g at)
flat_more (x ∷ xs) zero g at = append-nil (whole_group_video x) ∙ ap whole_group_video (same_Some x g at)
flat_more (x ∷ xs) (suc i) g at =
    ap (λ (l : List ℕ). whole_group_video x ++ l) (flat_more xs i g at)
    ∙ sym (append_assoc (whole_group_video x) (flat_map whole_group_video (take i xs)) (whole_group_video g))

group_there : (xs : List SessionGroup) (i : ℕ) → i < length xs → (g : SessionGroup) × (slice_get xs i ≡ Some g)
group_there [] i low = absurd (omega arith)
group_there (x ∷ xs) zero low = (x, refl)
group_there (x ∷ xs) (suc i) low = group_there xs i (omega arith)

pub video_more : (gs : List SessionGroup) (k : ℕ) (old new : List ℕ) → k < length gs
    → old ≡ flat_map whole_group_video (take k gs)
    → ((g : SessionGroup) → slice_get gs k ≡ Some g → new ≡ old ++ whole_group_video g)
    → new ≡ flat_map whole_group_video (take (k + 1) gs)
video_more gs k old new low so says =
    let got = group_there gs k low in
    says got.0 got.1 ∙ ap (λ (l : List ℕ). l ++ whole_group_video got.0) so ∙ sym (flat_more gs k got.0 got.1)
    ∙ ap (λ (m : ℕ). flat_map whole_group_video (take m gs)) (let e : suc k ≡ k + 1 = omega arith in e)

-- ---- the figures

pub same_figures : (a b : Contents) (number other : List ℕ) (length_a length_b many_a many_b : ℕ)
    (base_a base_b mid_a mid_b end_a end_b : Showing) (store video : Contents)
    → a ≡ b → number ≡ other → length_a ≡ length_b → many_a ≡ many_b → base_a ≡ base_b → mid_a ≡ mid_b → end_a ≡ end_b
    → ◌≡◌ {A = Figures} (record {
      stream = a;
      session = number;
      datagram = length_a;
      arrivals = many_a;
      base = base_a;
      predicted = mid_a;
      between = end_a;
      store = store;
      video = video;
    }) (record {
      stream = b;
      session = other;
      datagram = length_b;
      arrivals = many_b;
      base = base_b;
      predicted = mid_b;
      between = end_b;
      store = store;
      video = video;
    })
same_figures a b number other length_a length_b many_a many_b base_a base_b mid_a mid_b end_a end_b store video
    e1 e2 e3 e4 e5 e6 e7 = cc

-- ---- all of it

module _ (made : Made) (is : IsMade made) where
  -- a table that was found at a place
  pub table_so : (i : ℕ) (t : Sizes) → i < length made.plan.tables.items → t ≡ get_or made.plan.tables.items i t
      → t ≡ record { packets = 100; layers = sample_layers }
  table_so i t low so =
      any_table made is i t (slice_get-get_or made.plan.tables.items i t low ∙ ap Some (sym so))

  pub none_received : (r : ReceiverState ℕ) → kept_set r ≡ empty_set made.plan.number MAX_SESSION
      → HasKept (λ a. a < 65536) gf16_coding r [] → HasReceived (session_made made) [] r
  none_received r empty held =
      let x = session_made made in
      let nothing : KeepsExactly gf16_coding x MAX_SESSION [] (empty_set x.number MAX_SESSION) = record {
        sound = empty_sound x.number MAX_SESSION;
        follows = follows_nothing (payloads_made gf16_coding) x MAX_SESSION;
      } in
      record {
        exactly =
            subst (KeepsExactly gf16_coding x MAX_SESSION [])
            (sym (empty ∙ ap (λ (k : List ℕ). empty_set k MAX_SESSION) is.number)) nothing;
        order = [];
        held = held;
      }

  module _ (seed groups : ℕ) (some : 0 < groups) (small : groups ≤ MAX_SAMPLE_GROUPS)
      (stream_so : made.stream.items ≡ sample_text seed groups) where
    same_session : session_made made ≡ sample_session seed groups
    same_session = ap (session_of sample_priority) stream_so

    as_many_so : length made.cuts.items ≡ groups
    as_many_so =
        sym (as_many made is) ∙ ap (λ (x : Session). length x.groups) same_session ∙ by groups some
      where
        by : (m : ℕ) → 0 < m → length (sample_session seed m).groups ≡ m
        by zero low = absurd (omega arith)
        by (suc m) low = groups_count seed m

    again_so : whole_session_video (sample_session seed groups) ≡ sample_text seed groups
    again_so = by groups some
      where
        by : (m : ℕ) → 0 < m → whole_session_video (sample_session seed m) ≡ sample_text seed m
        by zero low = absurd (omega arith)
        by (suc m) low = video_is_stream seed m

    pub cost_so : (start past : ℕ)
        → past ≤ start + steps_behind (session_made made) [] (arrivals_of (length made.cuts.items))
        → past ≤ start + sample_steps seed groups
    cost_so start past few =
        omega (
          arith,
          few,
          ap₂ (λ (x : Session) (m : ℕ). steps_behind x [] (arrivals_of m)) same_session as_many_so,
        )

    -- what a receiver that has received all of it tells
    module _ (r : ReceiverState ℕ) (has : HasReceived (session_made made) (arrivals_of (length made.cuts.items)) r)
        (figures : Figures) (store video : Contents) (store_so : store ≡ contents_of (store_text (kept_set r)))
        (video_so : video ≡ contents_of (whole_session_video (session_made made)))
        (told : (first last : SessionGroup) → AreEnds (length made.cuts.items) (session_made made) first last
        → figures
        ≡ record (figures_of (length made.cuts.items) made.stream.items (session_made made) first last) {
          store = store;
          video = video;
        }) where
      told_so : (text : List ℕ) → text ≡ summary_of figures → Samples seed groups text
      told_so text text_is =
          let x = session_made made in
          let n = length made.cuts.items in
          let first = group_there x.groups 0 (omega (arith, as_many made is, as_many_so, some)) in
          let last = group_there x.groups (n - 1) (omega (arith, as_many made is, as_many_so, some)) in
          let ends : AreEnds n x first.0 last.0 =
          record { many = as_many made is; first_there = first.1; last_there = last.1 } in
          let store_is_so : store ≡ contents_of (pairs_store x (arrivals_of n)) =
          store_so ∙ ap contents_of (store_is gf16_coding x MAX_SESSION (arrivals_of n) (kept_set r) has.exactly) in
          let all : figures ≡ figures_of n made.stream.items x first.0 last.0 =
          told first.0 last.0 ends
          ∙ ap₂ (λ (a b : Contents). record (figures_of n made.stream.items x first.0 last.0) { store = a; video = b })
          store_is_so video_so in
          record {
            accepted = subst (IsAcceptedSession sample_priority) stream_so (accepted made is);
            complete =
                ap₂ (λ (y : Session) (m : ℕ). all_shown y (arrivals_of m)) (sym same_session) (sym as_many_so)
                ∙ complete made is;
            again = again_so;
            first = first.0;
            last = last.0;
            ends = subst (λ (m : ℕ). AreEnds m (sample_session seed groups) first.0 last.0) as_many_so
                (subst (λ (y : Session). AreEnds n y first.0 last.0) same_session ends);
            text_is =
                text_is
                ∙ ap summary_of (all
                ∙ ap (λ (m : ℕ). figures_of m made.stream.items x first.0 last.0) as_many_so
                ∙ ap₂ (λ (l : List ℕ) (y : Session). figures_of groups l y first.0 last.0) stream_so same_session);
          }

      pub samples_so : {A : Type 0} (items : A → List ℕ) (q : Result A NoMemory)
          → IfOk q (λ t. items t ≡ summary_of figures) → IfOk q (λ t. Samples seed groups (items t))
      samples_so items (Err e) so = tt
      samples_so items (Ok t) so = told_so (items t) so
