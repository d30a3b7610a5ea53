-- Laws of the datagrams of packets, packet by packet and group by group, for the proofs of callers.
use Rattle.std.proofs.Common.{◌≡◌, ℕ, zero, suc, ◌+◌, ◌<◌, ◌≤◌, take, drop, List, [], ◌∷◌, ◌++◌, length, map}
use Rattle.std.proofs.Common.{append_assoc, refl, sym, ap, subst, ◌∙◌, arith, true≢false}
use Rattle.std.specs.Prelude.{slice_get, Some, is_some, unwrap_or}
use Rattle.std.specs.List.{flat_map, range_with_len}
use Rattle.std.proofs.lemmas.List.{append-nil, take-append-drop, take_all, map-append}
use Rattle.std.proofs.lemmas.List.Folds.{flat_map-map}
use Rattle.std.proofs.lemmas.List.FromFn.{map-range_with_len_more, take-map-range_with_len}
use Rattle.std.proofs.lemmas.Grind.{flat_map-append}
use Rattle.field_elements.specs.Field.{Coding}
use Rattle.field_elements.specs.Gf16.{gf16_coding}
use Rattle.packet_frame.specs.declared.format.Format.{Format}
use Rattle.packet_frame.specs.declared.format.TheConstants.{FORMAT}
use Rattle.packet_frame.specs.Frame.{Fields}
use Rattle.packet_frame.specs.Planned.{planned_text}
use Rattle.packet_session.specs.Encoding.{Encoding, IsGroupOf, frame_of}
use Rattle.packet_session.specs.Session.{Session, SessionGroup, packet_of, packets_of_group, packets_from, packets_of}
use Rattle.outside_routes.specs.Way.{Way}
use Rattle.outside_routes.specs.Sending.{Routes, AreFirstDatagrams, Sends, SendsPart}
use Rattle.pet_base.specs.Entries.{entry_text, entries_of}
use Rattle.outside_routes.specs.laws.SendingLaws.{sends_then, part_after, part_within}
use Rattle.packet_session.specs.Datagrams.{range_datagrams_in, first_datagrams_in, group_datagrams_in}
use Rattle.packet_session.specs.Datagrams.{session_datagrams_in, datagrams_text_in, first_groups_datagrams_in}
use Rattle.packet_session.specs.Datagrams.{AreEncoders, GroupsMakeDatagramsIn}
use Rattle.packet_session.specs.Datagrams.{session_datagrams, datagrams_text, GroupsMakeDatagrams}

module _ {E : Type 0} (format : Format) (c : Coding E) where
  -- the datagram of one packet more
  pub datagrams_more : (e : Encoding) (first n : ℕ)
      → range_datagrams_in format c e first (n + 1) ≡ range_datagrams_in format c e first n ++ (planned_text format (frame_of c e (first + n)) ∷ [])
  datagrams_more e first n = map-range_with_len_more (λ (k : ℕ). planned_text format (frame_of c e k)) first n (first + n) refl

  -- the first packets of a range are the first of more
  datagrams_first : (e : Encoding) (first n m : ℕ) → n ≤ m
      → AreFirstDatagrams (range_datagrams_in format c e first n) (range_datagrams_in format c e first m)
  datagrams_first e first n m le =
      let all = range_datagrams_in format c e first m in (
        drop n all,
        sym (take-append-drop n all)
            ∙ ap (λ (t : List (List ℕ)). t ++ drop n all)
            (take-map-range_with_len (λ (k : ℕ). planned_text format (frame_of c e k)) first m n le),
      )

  pub sends_packet : (way : Way) (e : Encoding) (from n : ℕ) (d : List ℕ) (first before after : Routes)
      → d ≡ planned_text format (frame_of c e (from + n)) → before.place.target ≡ first.place.target
      → Sends way (range_datagrams_in format c e from n) first before → Sends way (d ∷ []) before after
      → Sends way (range_datagrams_in format c e from (n + 1)) first after
  sends_packet way e from n d first before after is same p q =
      subst (λ (t : List (List ℕ)). Sends way t first after)
      (ap (λ (x : List ℕ). range_datagrams_in format c e from n ++ (x ∷ [])) is ∙ sym (datagrams_more e from n))
      (sends_then way (range_datagrams_in format c e from n) (d ∷ []) first before after same p q)

  pub part_packet : (way : Way) (e : Encoding) (from n m : ℕ) (d : List ℕ) (first before after : Routes)
      → d ≡ planned_text format (frame_of c e (from + n)) → n < m → before.place.target ≡ first.place.target
      → Sends way (range_datagrams_in format c e from n) first before → SendsPart way (d ∷ []) before after
      → SendsPart way (range_datagrams_in format c e from m) first after
  part_packet way e from n m d first before after is lt same p part =
      part_within way (range_datagrams_in format c e from (n + 1)) (range_datagrams_in format c e from m) first after
      (datagrams_first e from (n + 1) m (omega arith))
      (subst (λ (t : List (List ℕ)). SendsPart way t first after)
      (ap (λ (x : List ℕ). range_datagrams_in format c e from n ++ (x ∷ [])) is ∙ sym (datagrams_more e from n))
      (part_after way (range_datagrams_in format c e from n) (d ∷ []) first before after same p part))

  -- the datagrams of a range stand behind those of the packets before it
  pub range_behind : (e : Encoding) (n m : ℕ) → first_datagrams_in format c e (n + m) ≡ first_datagrams_in format c e n ++ range_datagrams_in format c e n m
  range_behind e n zero =
      let same : n + 0 ≡ n = omega arith in
      ap (first_datagrams_in format c e) same ∙ sym (append-nil (first_datagrams_in format c e n))
  range_behind e n (suc m) =
      let along : n + suc m ≡ n + m + 1 = omega arith in
      let more : m + 1 ≡ suc m = omega arith in
      let last : List (List ℕ) = planned_text format (frame_of c e (n + m)) ∷ [] in
      ap (first_datagrams_in format c e) along ∙ datagrams_more e 0 (n + m)
      ∙ ap (λ (k : ℕ). first_datagrams_in format c e (n + m) ++ (planned_text format (frame_of c e k) ∷ [])) (omega arith)
      ∙ ap (λ (t : List (List ℕ)). t ++ last) (range_behind e n m)
      ∙ append_assoc (first_datagrams_in format c e n) (range_datagrams_in format c e n m) last
      ∙ ap (λ (t : List (List ℕ)). first_datagrams_in format c e n ++ t) (sym (datagrams_more e n m) ∙ ap (range_datagrams_in format c e n) more)

  pub sends_range : (way : Way) (e : Encoding) (n m : ℕ) (first before after : Routes)
      → before.place.target ≡ first.place.target → Sends way (first_datagrams_in format c e n) first before
      → Sends way (range_datagrams_in format c e n m) before after → Sends way (first_datagrams_in format c e (n + m)) first after
  sends_range way e n m first before after same p q =
      subst (λ (t : List (List ℕ)). Sends way t first after) (sym (range_behind e n m))
      (sends_then way (first_datagrams_in format c e n) (range_datagrams_in format c e n m) first before after same p q)

  pub part_range : (way : Way) (e : Encoding) (n m all : ℕ) (first before after : Routes) → n + m ≤ all
      → before.place.target ≡ first.place.target → Sends way (first_datagrams_in format c e n) first before
      → SendsPart way (range_datagrams_in format c e n m) before after → SendsPart way (first_datagrams_in format c e all) first after
  part_range way e n m all first before after le same p part =
      part_within way (first_datagrams_in format c e (n + m)) (first_datagrams_in format c e all) first after (datagrams_first e 0 (n + m) all le)
      (subst (λ (t : List (List ℕ)). SendsPart way t first after) (sym (range_behind e n m))
      (part_after way (first_datagrams_in format c e n) (range_datagrams_in format c e n m) first before after same p part))

  abbrev packet : Session → ℕ → SessionGroup → ℕ → Fields
  packet = packet_of c

  abbrev of_group : Session → ℕ → SessionGroup → List Fields
  of_group = packets_of_group c

  abbrev from_group : Session → ℕ → List SessionGroup → List Fields
  from_group = packets_from c

  abbrev source_of : Encoding → SessionGroup
  source_of e = record { packets = e.header.table.packets; layers = e.header.table.layers; message = e.message }

  same_texts : (f g : ℕ → List ℕ) → ((n : ℕ) → f n ≡ g n) → f ≡ g
  same_texts f g h = λ i n. h n i

  map_twice : {A B C : Type 0} (g : B → C) (f : A → B) (xs : List A) → map g (map f xs) ≡ map (λ x. g (f x)) xs
  map_twice g f [] = refl
  map_twice {C = C} g f (x ∷ xs) = ap (λ (t : List C). g (f x) ∷ t) (map_twice g f xs)

  -- the datagrams of a group are those of its packets in the session
  pub group_is : (s : Session) (e : Encoding) → IsGroupOf s e
      → group_datagrams_in format c e ≡ map (planned_text format) (of_group s e.header.group (source_of e))
  group_is s e g =
      let packets : (n : ℕ)
      → frame_of c e n ≡ packet s e.header.group (source_of e) n = λ n. rw (g.number, g.groups) refl in
      let all = range_with_len 0 e.header.table.packets in
      ap (λ (f : ℕ → List ℕ). map f all) (same_texts (λ n. planned_text format (frame_of c e n))
      (λ n. planned_text format (packet s e.header.group (source_of e) n)) (λ n. ap (λ (f : Fields). planned_text format f) (packets n)))
      ∙ sym (map_twice (planned_text format) (packet s e.header.group (source_of e)) all)

  from_append : (s : Session) (first : ℕ) (a b : List SessionGroup)
      → from_group s first (a ++ b) ≡ from_group s first a ++ from_group s (first + length a) b
  from_append s first [] b = ap (λ (k : ℕ). from_group s k b) (omega arith)
  from_append s first (g ∷ a) b =
      let along : first + 1 + length a ≡ first + length (g ∷ a) = omega arith in
      ap (λ (t : List Fields). of_group s first g ++ t) (from_append s (first + 1) a b)
      ∙ sym (append_assoc (of_group s first g) (from_group s (first + 1) a) (from_group s (first + 1 + length a) b))
      ∙ ap (λ (k : ℕ). (of_group s first g ++ from_group s (first + 1) a) ++ from_group s k b) along

  take_there : {X : Type 0} (xs : List X) (k : ℕ) (x : X) → slice_get xs k ≡ Some x
      → (take (suc k) xs ≡ take k xs ++ x ∷ []) × (length (take k xs) ≡ k)
  take_there [] k x e = absurd (true≢false (sym (ap is_some e)))
  take_there (y ∷ ys) zero x e = (ap (λ z. z ∷ []) (ap (λ o. unwrap_or o y) e), refl)
  take_there (y ∷ ys) (suc k) x e =
      let rest = take_there ys k x e in
      (ap (λ t. y ∷ t) rest.0, ap suc rest.1)

  -- the datagrams of one group more
  pub first_groups_more : (s : Session) (e : Encoding) (n : ℕ) → IsGroupOf s e → e.header.group ≡ n
      → first_groups_datagrams_in format c s (n + 1) ≡ first_groups_datagrams_in format c s n ++ group_datagrams_in format c e
  first_groups_more s e n g at =
      let source = source_of e in
      let more : n + 1 ≡ suc n = omega arith in
      let there = take_there s.groups n source (subst (λ (k : ℕ). slice_get s.groups k ≡ Some source) at g.source) in
      let before = take n s.groups in
      let number : 0 + length before ≡ e.header.group = omega (arith, there.1, at) in
      let packets : from_group s 0 (take (n + 1) s.groups) ≡ from_group s 0 before ++ of_group s e.header.group source =
      ap (λ (k : ℕ). from_group s 0 (take k s.groups)) more ∙ ap (from_group s 0) there.0
      ∙ from_append s 0 before (source ∷ [])
      ∙ ap (λ (k : ℕ). from_group s 0 before ++ from_group s k (source ∷ [])) number
      ∙ ap (λ (t : List Fields). from_group s 0 before ++ t) (append-nil (of_group s e.header.group source)) in
      ap (map (planned_text format)) packets ∙ map-append (planned_text format) (from_group s 0 before) (of_group s e.header.group source)
      ∙ ap (λ (t : List (List ℕ)). first_groups_datagrams_in format c s n ++ t) (sym (group_is s e g))

  -- those of all groups are those of the session
  pub first_groups_all : (s : Session) (n : ℕ) → length s.groups ≤ n → first_groups_datagrams_in format c s n ≡ session_datagrams_in format c s
  first_groups_all s n all =
      ap (λ (groups : List SessionGroup). map (planned_text format) (from_group s 0 groups)) (take_all n s.groups all)

  -- and those of the first groups stand before the others
  pub first_groups_first : (s : Session) (n : ℕ) → AreFirstDatagrams (first_groups_datagrams_in format c s n) (session_datagrams_in format c s)
  first_groups_first s n =
      let rest = from_group s (0 + length (take n s.groups)) (drop n s.groups) in (
        map (planned_text format) rest,
        ap (λ (groups : List SessionGroup). map (planned_text format) (from_group s 0 groups)) (sym (take-append-drop n s.groups))
            ∙ ap (map (planned_text format)) (from_append s 0 (take n s.groups) (drop n s.groups))
            ∙ map-append (planned_text format) (from_group s 0 (take n s.groups)) rest,
      )

  -- the datagram file of a session has the entries of its datagrams
  pub entries_are_text_in : (s : Session) → entries_of (session_datagrams_in format c s) ≡ datagrams_text_in format c s
  entries_are_text_in s = flat_map-map entry_text (planned_text format) (packets_of c s)

  there_is : {X : Type 0} (xs : List X) (n : ℕ) → n < length xs → (x : X) × (slice_get xs n ≡ Some x)
  there_is [] n lt = absurd (omega arith)
  there_is (x ∷ xs) zero lt = (x, refl)
  there_is (x ∷ xs) (suc n) lt = there_is xs n (omega arith)

  groups_so_far : (s : Session) (encoders : List Encoding) → AreEncoders s encoders → (n : ℕ) → n ≤ length encoders
      → flat_map (group_datagrams_in format c) (take n encoders) ≡ first_groups_datagrams_in format c s n
  groups_so_far s encoders are zero le = refl
  groups_so_far s encoders are (suc n) le =
      let e = there_is encoders n (omega arith) in
      let is = are.each n e.0 e.1 in
      let more : n + 1 ≡ suc n = omega arith in
      ap (flat_map (group_datagrams_in format c)) (take_there encoders n e.0 e.1).0
      ∙ flat_map-append (group_datagrams_in format c) (take n encoders) (e.0 ∷ [])
      ∙ ap (λ (t : List (List ℕ)). flat_map (group_datagrams_in format c) (take n encoders) ++ t) (append-nil (group_datagrams_in format c e.0))
      ∙ ap (λ (t : List (List ℕ)). t ++ group_datagrams_in format c e.0) (groups_so_far s encoders are n (omega arith))
      ∙ sym (first_groups_more s e.0 n is.0 is.1)
      ∙ ap (first_groups_datagrams_in format c s) more

  pub groups_make_datagrams_in : GroupsMakeDatagramsIn format c
  groups_make_datagrams_in s encoders are =
      ap (flat_map (group_datagrams_in format c)) (sym (take_all (length encoders) encoders (omega arith)))
      ∙ groups_so_far s encoders are (length encoders) (omega arith)
      ∙ first_groups_all s (length encoders) (omega (arith, are.many))

-- as the frames that are written today
pub entries_are_text : (s : Session) → entries_of (session_datagrams s) ≡ datagrams_text s
entries_are_text s = entries_are_text_in FORMAT gf16_coding s

pub groups_make_datagrams : GroupsMakeDatagrams
groups_make_datagrams s encoders are = groups_make_datagrams_in FORMAT gf16_coding s encoders are
