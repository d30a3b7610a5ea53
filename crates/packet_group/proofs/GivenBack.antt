-- The state of a group whose stripes are all known is given back: what it held stands in the message, and one packet more
-- changes only how many were met.
use Rattle.std.specs.Prelude.{IfSome, map, is_some}
use Rattle.std.proofs.Common.{◌≡◌, ℕ, ◌+◌, ◌*◌, ◌<◌, ◌≤◌, List, [], ◌∷◌, ◌++◌, Option, None, Some, length, get_or}
use Rattle.std.proofs.Common.{All, refl, sym, ap, ap₂, ◌∙◌, arith, subst, inl, inr}
use Rattle.std.proofs.lemmas.Bool.{cases_eq}
use Rattle.std.proofs.Math.ListN as M
use Rattle.std.proofs.lemmas.List.{ext_get_or, length-map}
use Rattle.std.proofs.lemmas.List.Elements.{All-from_get_or}
use Rattle.std.proofs.lemmas.List.Sums.{count_by-le-length}
use Rattle.field_elements.specs.Field.{Coding, IsCoding}
use Rattle.pet_poly.specs.Rows.{words}
use Rattle.pet_poly.specs.laws.RowLaws.{length-words, words_are}
use Rattle.pet_interp.specs.Progressive.{Held, StandsFor, stripe_of, lengths_of, step_bound}
use Rattle.pet_interp.proofs.Added.{stands_same}
use Rattle.stripe_plan.specs.declared.layer.LayerSize.{LayerSize}
use Rattle.stripe_plan.specs.Layers.{AllNeeded, count_of, needs_of, plan_ends, plan_stripes}
use Rattle.stripe_plan.specs.Stripes.{IsPlan}
use Rattle.stripe_plan.proofs.PlanLemmas.{plan_ends_plan}
use Rattle.packet_set.specs.Packets.{Packets, slot_at, with_packet, count_in}
use Rattle.packet_set.specs.laws.SlotCounts.{count_set}
use Rattle.packet_session.specs.Payload.{stripes_in}
use Rattle.packet_session.specs.Session.{IsMessage}
use Rattle.packet_group.specs.OpenGroup.{GroupState, HoldsAfter, points_of, layers_of, stripe_lengths}
use Rattle.packet_group.specs.Stored.{held_in, state_of, told_message, IsGivenBack}
use Rattle.packet_group.specs.Written.{HasLayer, HasStripe, whole_message}
use Rattle.packet_group.specs.inside.Learning.{CanLearn, HasShown, IsOneMore, IsWrittenOn, Learns}
use Rattle.packet_group.proofs.Cuts.{sizes_are}
use Rattle.packet_group.proofs.Holding.{IsKeeping, holds_more, apart, met_is, same_stripe, stands_after}
use Rattle.packet_group.proofs.Shown.{count_short, layer_of_stripe, stripe_short}
use Rattle.packet_group.proofs.Told.{told_is, told_words}

-- no stripe is longer than so many, of the plan and of what is held
short_held : {E : Type 0} (held : Held E) (layers : List LayerSize) (count : ℕ) → lengths_of held ≡ stripe_lengths layers
    → All (λ n. n ≤ count) (stripe_lengths layers) → (j : ℕ) → j < length held.stripes
    → length (stripe_of held j) ≤ count
short_held held layers count lengths short j l =
    let here = subst (All (λ n. n ≤ count)) (sym lengths) short j 0
    (omega (arith, l, length-map held.stripes length)) in
    omega (arith, here, M.get_or-map length held.stripes j [])

short_planned : {E : Type 0} (held : Held E) (layers : List LayerSize) (count : ℕ)
    → lengths_of held ≡ stripe_lengths layers
    → ((j : ℕ) → j < length held.stripes → length (stripe_of held j) ≤ count)
    → All (λ n. n ≤ count) (stripe_lengths layers)
short_planned held layers count lengths short =
    subst (All (λ n. n ≤ count)) lengths
    (All-from_get_or (λ n. n ≤ count) (lengths_of held) 0
    (λ j l.
    let inside : j < length held.stripes = omega (arith, l, length-map held.stripes length) in
    omega (arith, short j inside, M.get_or-map length held.stripes j [])))

module _ {E : Type 0} (P : E → Type 0) (c : Coding E) where
  -- what is held stands for the same packets once the state is given back
  pub holds_given_back : (p : Packets) (message : List ℕ) (held : Held E) (numbers : List ℕ)
      → HoldsAfter P c (record { packets = p; message = message; held = held }) numbers → held.met ≡ length numbers
      → ((j : ℕ) → j < length held.stripes → length (stripe_of held j) ≤ held.met)
      → HoldsAfter P c (record { packets = p; message = message; held = held_in c p message None }) numbers
  holds_given_back p message held numbers h met short =
      let layers = layers_of p in
      let st = h.stands in
      let sizes = sizes_are held layers h.lengths in
      let many : length (stripes_in c layers message) ≡ length held.stripes =
      length-map (plan_stripes layers) _ ∙ sym sizes.count in
      let same : stripes_in c layers message ≡ held.stripes =
      ext_get_or [] (stripes_in c layers message) held.stripes many
      (λ j l. let inside : j < length held.stripes = omega (arith, l, many) in
      h.known j inside (omega (arith, short j inside, met))) in
      let left : List (List E) → Held E = λ t. record { met = count_in p; stripes = t; product = [] } in
      let stands : StandsFor P c.ops (left held.stripes) (points_of c p numbers) = record {
        distinct = st.distinct;
        elements = st.elements;
        values = st.values;
        met = sym h.many ∙ sym met ∙ st.met;
        longer = st.longer;
        others = st.others;
        product = λ j l m. absurd (omega (arith, short j l, m, st.met));
      } in
      record {
        once = h.once;
        kept = h.kept;
        many = h.many;
        lengths = ap (λ (t : List (List E)). map length t) same ∙ h.lengths;
        stands = subst (λ t. StandsFor P c.ops (left t) (points_of c p numbers)) (sym same) stands;
        message = h.message;
        known = λ j l m. refl;
      }

  module _ (count : ℕ) (laws : IsCoding P count c) (p : Packets) (written : List ℕ) (number : ℕ) (payload : List ℕ)
      (needed : AllNeeded (layers_of p)) (inside : number < length p.slots) (absent : slot_at p number ≡ None)
      (few : length p.slots ≤ count) (long : length payload ≡ length (plan_stripes (layers_of p)) * c.width)
      (bytes : All (λ b. b < 256) payload) where
    abbrev whole : List ℕ
    whole = whole_message c.width (layers_of p) written

    abbrev given_back : Packets → Held E
    given_back q = held_in c q whole None

    abbrev next : Packets
    next = with_packet p number payload

    more : count_in next ≡ count_in p + 1
    more = count_set (List ℕ) p.slots number payload inside absent

    plan : IsPlan (needs_of (layers_of p)) 0 (plan_ends (layers_of p))
    plan = plan_ends_plan (layers_of p) needed

    -- a packet for a state that was given back before
    keeps_whole : (numbers : List ℕ) → HoldsAfter P c (state_of c p written None) numbers
        → IsGivenBack {E = E} p None
        → IsKeeping P c p (given_back p) (given_back next) number payload (c.point_of number)
    keeps_whole numbers h short =
        let held = given_back p in
        let n = length held.stripes in
        let sizes = sizes_are held (layers_of p) h.lengths in
        let size : length payload ≡ n * c.width = long ∙ ap (λ k. k * c.width) (sym sizes.count) in
        let all = short_held held (layers_of p) (count_in p) h.lengths short in
        record {
          inside = inside;
          absent = absent;
          stands =
              λ points st ne.
              subst (λ k. StandsFor P c.ops (record { met = k; stripes = held.stripes; product = [] })
              (points ++ ((c.point_of number, words c.spelt c.width n payload) ∷ []))) (sym more)
              (stands_same P c.ops laws.field held points st (c.point_of number)
              (laws.points.point_is number (omega arith)) ne (words c.spelt c.width n payload)
              (length-words c.spelt c.width n payload)
              (words_are P c.width c.spelt c.spelling laws.spellings n payload size bytes)
              (All-from_get_or (λ s. length s ≤ length points) held.stripes []
              (λ j l. omega (arith, all j l, st.met))) []);
          met = more;
          lengths = refl;
        }

    -- ---- a packet for a state that is there

    module _ (held held' : Held E) (one : IsOneMore P c (c.point_of number) payload held held') (numbers : List ℕ)
        (h : HoldsAfter P c (state_of c p written (Some held)) numbers) where
      abbrev before : GroupState E
      before = state_of c p written (Some held)

      met : held.met ≡ length numbers
      met = met_is P count c laws.points before numbers h few

      keeps_more : IsKeeping P c p held held' number payload (c.point_of number)
      keeps_more = record {
        inside = inside;
        absent = absent;
        stands = one.stands;
        met = one.met;
        lengths = one.lengths;
      }

      met_more : held'.met ≡ count_in next
      met_more = omega (arith, one.met, met, h.many, more)

      lengths_more : lengths_of held' ≡ stripe_lengths (layers_of p)
      lengths_more = one.lengths ∙ h.lengths

      -- what is held of a group whose message is as the new state has it
      holds_with : (message : List ℕ) → IsMessage c.width (layers_of p) message
          → ((j : ℕ) → j < length held'.stripes → length (stripe_of held' j) ≤ held'.met
          → get_or (stripes_in c (layers_of p) message) j [] ≡ stripe_of held' j)
          → HoldsAfter P c (record { packets = next; message = message; held = held' }) (numbers ++ (number ∷ []))
      holds_with = holds_more P count c laws.points before numbers h few held' number payload keeps_more

      holds_left : HoldsAfter P c (state_of c next written (Some held')) (numbers ++ (number ∷ []))
      holds_left =
          let points = points_of c next (numbers ++ (number ∷ [])) in
          let stands : StandsFor P c.ops held' points =
          stands_after P count c laws.points before numbers h few held' number payload keeps_more in
          holds_with (told_message c held')
          (told_is P c laws.spellings (layers_of p) plan held' points lengths_more stands)
          (told_words P c laws.spellings (layers_of p) plan held' points lengths_more stands)

      -- no stripe is longer than there are packets, where none is longer than there are points
      short_more : ((j : ℕ) → j < length held'.stripes → length (stripe_of held' j) ≤ held'.met)
          → IsGivenBack {E = E} next None
      short_more short =
          subst (λ n. All (λ k. k ≤ n) (stripe_lengths (layers_of p))) met_more
          (short_planned held' (layers_of p) held'.met lengths_more short)

      module _ (written' : List ℕ)
          (had : (layer : ℕ) → layer < length (layers_of p) → count_of (layers_of p) layer ≤ count_in p
          → HasLayer c (layers_of p) held written layer)
          (on : IsWrittenOn c (layers_of p) held' written written')
          (now : HasShown c (layers_of p) held' written') where
        -- each layer that is shown with the packet is written, and each that was shown before still is
        has_more : (layer : ℕ) → layer < length (layers_of p) → count_of (layers_of p) layer ≤ count_in next
            → HasLayer c (layers_of p) held' written' layer
        has_more layer l shown j m meets =
            elim (cases_eq (count_of (layers_of p) layer) held'.met) [
              | inl new ↦ now layer l new j m meets
              | inr old ↦
                  let low : count_of (layers_of p) layer ≤ count_in p = omega (arith, shown, old, met_more, more) in
                  let has = had layer l low j m meets in
                  let sizes = sizes_are held (layers_of p) h.lengths in
                  let short = stripe_short (layers_of p) needed layer l j m meets in
                  on.kept j m (record {
                    reached = has.reached;
                    words =
                        has.words
                        ∙ same_stripe P count c laws.points before numbers h few held' number payload keeps_more j
                        (omega (arith, m, sizes.count)) (omega (arith, sizes.each j, short, low, h.many));
                  })
            ]

        -- where no stripe is longer than there are packets, each is written
        has_all : IsGivenBack {E = E} next None → (j : ℕ) → j < length (plan_stripes (layers_of p))
            → HasStripe c (layers_of p) held' written' j
        has_all short j l =
            let at = layer_of_stripe (layers_of p) needed j l in
            has_more at.layer at.inside
            (count_short (layers_of p) needed at.layer at.inside j l at.meets (count_in next) short) j l at.meets

        holds_given : ((j : ℕ) → j < length held'.stripes → length (stripe_of held' j) ≤ held'.met)
            → HoldsAfter P c (state_of c next written' None) (numbers ++ (number ∷ []))
        holds_given short =
            let message = whole_message c.width (layers_of p) written' in
            let sizes = sizes_are held' (layers_of p) lengths_more in
            let done = holds_with message on.message
            (λ j l m. (has_all (short_more short) j (omega (arith, l, sizes.count))).words) in
            holds_given_back next message held' (numbers ++ (number ∷ [])) done (met_more ∙ sym done.many) short

    -- ---- a packet more, whether the state was given back or not

    -- what is held stands for it
    pub holds_learnt : (progress left : Option (Held E)) (written' numbers : List ℕ) → IsGivenBack p progress
        → HoldsAfter P c (state_of c p written progress) numbers
        → ((layer : ℕ) → layer < length (layers_of p) → count_of (layers_of p) layer ≤ count_in p
        → HasLayer c (layers_of p) (held_in c p whole progress) written layer)
        → Learns P c (layers_of p) (c.point_of number) payload progress left written written'
        → HoldsAfter P c (state_of c next written' left) (numbers ++ (number ∷ []))
    holds_learnt None left written' numbers short h had learns =
        let done = holds_more P count c laws.points (state_of c p written None) numbers h few (given_back next) number
        payload (keeps_whole numbers h short) whole h.message (λ j l m. refl) in
        subst (λ l. HoldsAfter P c (state_of c next written' l) (numbers ++ (number ∷ []))) (sym learns.0)
        (subst (λ m. HoldsAfter P c (state_of c next m None) (numbers ++ (number ∷ []))) (sym learns.1) done)
    holds_learnt (Some held) (Some left) written' numbers short h had learns =
        subst (λ t. HoldsAfter P c (state_of c next written' (Some t)) (numbers ++ (number ∷ []))) (sym learns.2)
        (holds_left held learns.0 learns.1 numbers h)
    holds_learnt (Some held) None written' numbers short h had learns =
        holds_given held learns.0 learns.1 numbers h written' had learns.3 learns.4 learns.2

    -- the state is given back only where no stripe is longer than there are packets
    pub given_back_learnt : (progress left : Option (Held E)) (written' numbers : List ℕ) → IsGivenBack p progress
        → HoldsAfter P c (state_of c p written progress) numbers
        → Learns P c (layers_of p) (c.point_of number) payload progress left written written'
        → IsGivenBack next left
    given_back_learnt None left written' numbers short h learns =
        subst (IsGivenBack next) (sym learns.0) (λ k d l. omega (arith, short k d l, more))
    given_back_learnt (Some held) (Some left) written' numbers short h learns = tt
    given_back_learnt (Some held) None written' numbers short h learns =
        short_more held learns.0 learns.1 numbers h learns.2

    -- the message has room for all words, and bytes alone
    pub message_learnt : (progress left : Option (Held E)) (written' : List ℕ) → IsMessage c.width (layers_of p) whole
        → Learns P c (layers_of p) (c.point_of number) payload progress left written written'
        → IsMessage c.width (layers_of p) (whole_message c.width (layers_of p) written')
    message_learnt None left written' message learns =
        subst (λ m. IsMessage c.width (layers_of p) (whole_message c.width (layers_of p) m)) (sym learns.1) message
    message_learnt (Some held) left written' message learns = learns.3.message

    -- the layers that are shown are written
    pub shown_learnt : (progress left : Option (Held E)) (written' numbers : List ℕ) → IsGivenBack p progress
        → HoldsAfter P c (state_of c p written progress) numbers
        → ((layer : ℕ) → layer < length (layers_of p) → count_of (layers_of p) layer ≤ count_in p
        → HasLayer c (layers_of p) (held_in c p whole progress) written layer)
        → Learns P c (layers_of p) (c.point_of number) payload progress left written written'
        → (layer : ℕ) → layer < length (layers_of p) → count_of (layers_of p) layer ≤ count_in next
        → HasLayer c (layers_of p) (held_in c next (whole_message c.width (layers_of p) written') left) written' layer
    shown_learnt None left written' numbers short h had learns layer l shown j m meets =
        let low = count_short (layers_of p) needed layer l j m meets (count_in p) short in
        let has = had layer l low j m meets in
        subst (λ t. HasStripe c (layers_of p) (held_in c next (whole_message c.width (layers_of p) written') t)
        written' j) (sym learns.0)
        (subst (λ b. HasStripe c (layers_of p) (held_in c next (whole_message c.width (layers_of p) b) None) b j)
        (sym learns.1) (record { reached = has.reached; words = refl }))
    shown_learnt (Some held) (Some left) written' numbers short h had learns layer l shown j m meets =
        subst (λ t. HasStripe c (layers_of p) t written' j) (sym learns.2)
        (has_more held learns.0 learns.1 numbers h written' had learns.3 learns.4 layer l shown j m meets)
    shown_learnt (Some held) None written' numbers short h had learns layer l shown j m meets =
        let has = has_more held learns.0 learns.1 numbers h written' had learns.3 learns.4 layer l shown j m meets in
        record { reached = has.reached; words = refl }

    -- what is left of the state can take the packet's point
    pub can_learn : (progress : Option (Held E)) (numbers : List ℕ) → length p.slots < 65536
        → HoldsAfter P c (state_of c p written progress) numbers
        → IfSome progress (CanLearn P c (layers_of p) (c.point_of number))
    can_learn None numbers narrow h = tt
    can_learn (Some held) numbers narrow h =
        let g = state_of c p written (Some held) in
        record {
          lengths = h.lengths;
          few =
              omega (
                arith,
                met_is P count c laws.points g numbers h few,
                h.many,
                count_by-le-length is_some p.slots,
                narrow,
              );
          points = points_of c p numbers;
          stands = h.stands;
          other = apart P count c laws.points g numbers h few number inside absent;
        }

    -- at most the steps of one point
    pub cost_learnt : (progress : Option (Held E)) (numbers : List ℕ) (before after_it : ℕ)
        → HoldsAfter P c (state_of c p written progress) numbers
        → IfSome progress (λ held. after_it ≤ before + step_bound held.met (lengths_of held))
        → (progress ≡ None → after_it ≡ before)
        → after_it ≤ before + step_bound (count_in p) (stripe_lengths (layers_of p))
    cost_learnt None numbers before after_it h cost idle = omega (arith, idle refl)
    cost_learnt (Some held) numbers before after_it h cost idle =
        let met = met_is P count c laws.points (state_of c p written (Some held)) numbers h few in
        subst (λ n. after_it ≤ before + n) (ap₂ step_bound (met ∙ h.many) h.lengths) cost
