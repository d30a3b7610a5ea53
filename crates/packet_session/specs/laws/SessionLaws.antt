-- What callers may conclude about the packets of a session.
use Rattle.std.proofs.Common.{◌≡◌, ◌↔◌, ℕ, zero, suc, ◌+◌, ◌*◌, ◌<◌, ◌≤◌, List, [], ◌∷◌, All, length, refl, sym, ap}
use Rattle.std.proofs.Common.{subst, ◌∙◌, true≢false, arith, inl, inr}
use Rattle.std.specs.Prelude.{Contains, slice_get, Some, is_some, unwrap_or}
use Rattle.std.proofs.lemmas.List.Elements.{Contains-append_cases, Contains-append_left, Contains-append_right}
use Rattle.std.proofs.lemmas.List.FromFn.{length-map-range_with_len, get_or-map-range_with_len}
use Rattle.pet_base.specs.declared.limits.TheConstants.{MAX_PACKETS}
use Rattle.field_elements.specs.Field.{Coding, IsCoding}
use Rattle.packet_frame.specs.declared.format.Format.{Format}
use Rattle.packet_frame.specs.declared.format.TheConstants.{FORMAT}
use Rattle.packet_frame.specs.Frame.{Fields, IsFrame, IsFrameBy}
use Rattle.packet_frame.specs.Planned.{IsPlannedFrame}
use Rattle.packet_frame.specs.laws.PlannedLaws.{planned_frame}
use Rattle.packet_session.specs.Encoding.{Encoding, IsGroupOf, frame_of}
use Rattle.stripe_plan.specs.Layers.{needs_of, plan_ends}
use Rattle.packet_session.specs.laws.PayloadLaws.{length-payload}
use Rattle.packet_session.specs.Session.{SessionGroup, Session, IsSession, IsSessionIn, IsSessionGroupIn, IsPacketOf, packet_of}
use Rattle.packet_session.specs.Session.{packets_of_group, packets_from, packets_of}

-- the element at a place, by the place
at_place : {X : Type 0} (P : X → Type 0) (xs : List X) (i : ℕ) (x : X) → slice_get xs i ≡ Some x → All P xs
    → (i < length xs) × P x
at_place P (y ∷ ys) zero x e h = (omega arith, subst P (ap (λ o. unwrap_or o y) e) (h 0 y (omega arith)))
at_place P (y ∷ ys) (suc i) x e h =
    let rest = at_place P ys i x e (λ k d l. h (suc k) d (omega arith)) in
    (omega (arith, rest.0), rest.1)
at_place P [] i x e h = absurd (true≢false (sym (ap is_some e)))

module _ {E : Type 0} (c : Coding E) (s : Session) where
  abbrev packet : ℕ → SessionGroup → ℕ → Fields
  packet = packet_of c s

  abbrev of_group : ℕ → SessionGroup → List Fields
  of_group = packets_of_group c s

  abbrev from_group : ℕ → List SessionGroup → List Fields
  from_group = packets_from c s

  -- it is a packet of the group `first + place`
  record IsFrom (first : ℕ) (groups : List SessionGroup) (f : Fields) : Type 0 where
    place : ℕ
    source : SessionGroup
    there : slice_get groups place ≡ Some source
    number : ℕ
    known : number < source.packets
    made : f ≡ packet (first + place) source number

  in_group : (group : ℕ) (g : SessionGroup) (f : Fields) → Contains (of_group group g) f
      → (number : ℕ) × (number < g.packets) × (f ≡ packet group g number)
  in_group group g f h =
      let below : h.0 < g.packets = omega (arith, h.1, length-map-range_with_len (packet group g) 0 g.packets) in
      (h.0, below, sym h.2 ∙ get_or-map-range_with_len (packet group g) 0 g.packets h.0 h.0 f below (omega arith))

  has_number : (group : ℕ) (g : SessionGroup) (number : ℕ) → number < g.packets
      → Contains (of_group group g) (packet group g number)
  has_number group g number below = (
    number,
    omega (arith, length-map-range_with_len (packet group g) 0 g.packets),
    get_or-map-range_with_len (packet group g) 0 g.packets number number (packet group g number) below (omega arith),
  )

  in_groups : (first : ℕ) (groups : List SessionGroup) (f : Fields) → Contains (from_group first groups) f
      → IsFrom first groups f
  in_groups first [] f h = absurd (omega (arith, h.1))
  in_groups first (g ∷ groups) f h =
      elim (Contains-append_cases (of_group first g) (from_group (first + 1) groups) f h) [
        | inl here ↦ (
            let w = in_group first g f here in
            let at : first ≡ first + 0 = omega arith in
            record {
              place = 0;
              source = g;
              there = refl;
              number = w.0;
              known = w.1;
              made = w.2 ∙ ap (λ k. packet k g w.0) at;
            }
            )
        | inr later ↦ (
            let w = in_groups (first + 1) groups f later in
            let at : first + 1 + w.place ≡ first + suc w.place = omega arith in
            record {
              place = suc w.place;
              source = w.source;
              there = w.there;
              number = w.number;
              known = w.known;
              made = w.made ∙ ap (λ k. packet k w.source w.number) at;
            }
            )
      ]

  has_packet : (first : ℕ) (groups : List SessionGroup) (place : ℕ) (g : SessionGroup) (f : Fields)
      → slice_get groups place ≡ Some g → Contains (of_group (first + place) g) f → Contains (from_group first groups) f
  has_packet first [] place g f there k = absurd (true≢false (sym (ap is_some there)))
  has_packet first (h ∷ groups) zero g f there p =
      let at : first + 0 ≡ first = omega arith in
      let same : h ≡ g = ap (λ o. unwrap_or o h) there in
      Contains-append_left (of_group first h) (from_group (first + 1) groups) f
      (subst (λ k. Contains (of_group k h) f) at (subst (λ x. Contains (of_group (first + 0) x) f) (sym same) p))
  has_packet first (h ∷ groups) (suc place) g f there p =
      let at : first + suc place ≡ first + 1 + place = omega arith in
      Contains-append_right (of_group first h) (from_group (first + 1) groups) f
      (has_packet (first + 1) groups place g f there (subst (λ k. Contains (of_group k g) f) at p))

  -- the list has exactly the packets of the session
  pub packets_are : (f : Fields) → Contains (packets_of c s) f ↔ IsPacketOf c s f
  packets_are f = (
    λ h.
        let w = in_groups 0 s.groups f h in
        let at : 0 + w.place ≡ w.place = omega arith in
        let made : f ≡ packet w.place w.source w.number = w.made ∙ ap (λ k. packet k w.source w.number) at in
        let group : w.place ≡ f.group = sym (ap (λ (h : Fields). h.group) made) in
        let number : w.number ≡ f.number = sym (ap (λ (h : Fields). h.number) made) in
        record {
          source = w.source;
          group = subst (λ k. slice_get s.groups k ≡ Some w.source) group w.there;
          number = subst (λ k. k < w.source.packets) number w.known;
          made = made ∙ ap (λ k. packet k w.source w.number) group ∙ ap (packet f.group w.source) number;
        },
    λ p.
        let at : f.group ≡ 0 + f.group = omega arith in
        let here : Contains (of_group (0 + f.group) p.source) f =
        subst (λ k. Contains (of_group k p.source) f) at
        (subst (Contains (of_group f.group p.source)) (sym p.made) (has_number f.group p.source f.number p.number)) in
        has_packet 0 s.groups f.group p.source f p.group here,
  )

  -- what an encoder of one of the groups makes is a packet of the session
  pub frames_are_packets : (e : Encoding) (number : ℕ) → IsGroupOf s e → number < e.header.table.packets
      → IsPacketOf c s (frame_of c e number)
  frames_are_packets e number g below = record {
    source = record { packets = e.header.table.packets; layers = e.header.table.layers; message = e.message };
    group = g.source;
    number = below;
    made = rw (g.number, g.groups) refl;
  }

-- the packets of a session of a format are frames of it
pub packets_are_frames_in : {E : Type 0} (P : E → Type 0) (count : ℕ) (c : Coding E) → IsCoding P count c → (t : Format)
    → t.word ≡ c.width → t.bounds.packets ≤ count
    → (s : Session) (f : Fields) → IsSessionIn t s → IsPacketOf c s f → IsPlannedFrame t f
packets_are_frames_in P count c laws t width enough s f session p =
    let at = at_place (IsSessionGroupIn t) s.groups f.group p.source p.group session.groups in
    let table = at.1.table in
    let x = laws.points.point_is f.number (omega (arith, p.number, table.few_packets)) in
    let whole = at.1.message.whole ∙ ap (λ k. length (needs_of p.source.layers) * k) width in
    subst (IsPlannedFrame t) (sym p.made)
    (planned_frame t (packet_of c s f.group p.source f.number) (record { table = table; whole = at.1.whole })
    session.number session.some session.few at.0 p.number
    (length-payload P count c laws p.source.layers p.source.message
    (c.point_of f.number) whole at.1.message.bytes x
    ∙ ap (λ k. k * length (plan_ends p.source.layers)) (sym width)))

-- so are those of a session of today
pub packets_are_frames : {E : Type 0} (P : E → Type 0) (count : ℕ) (c : Coding E) → IsCoding P count c → c.width ≡ 2
    → MAX_PACKETS ≤ count
    → (s : Session) (f : Fields) → IsSession c.width s → IsPacketOf c s f → IsFrame f
packets_are_frames P count c laws two enough s f session p =
    subst (λ width. IsFrameBy width f) two
    (packets_are_frames_in P count c laws (record FORMAT { word = c.width }) refl enough s f session p).frame
