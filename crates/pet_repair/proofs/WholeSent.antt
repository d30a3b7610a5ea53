-- The packets of a group are sent one after the other, and range by range.
use Rattle.std.proofs.Common.{◌≡◌, ℕ, zero, suc, ◌+◌, ◌<◌, ◌≤◌, drop, List, [], ◌∷◌, ◌++◌}
use Rattle.std.proofs.Common.{append_assoc, refl, sym, ap, subst, ◌∙◌, arith}
use Rattle.std.proofs.lemmas.List.{append-nil, take-append-drop}
use Rattle.std.proofs.lemmas.List.FromFn.{map-range_with_len_more, take-map-range_with_len}
use Rattle.field_elements.specs.Gf16.{gf16_coding}
use Rattle.packet_frame.specs.Frame.{text}
use Rattle.packet_session.specs.Encoding.{Encoding, frame_of}
use Rattle.outside_routes.specs.Way.{Way}
use Rattle.outside_routes.specs.Sending.{Routes, AreFirstDatagrams, Sends, SendsPart}
use Rattle.outside_routes.specs.laws.SendingLaws.{sends_then, part_after, part_whole, part_within}
use Rattle.pet_repair.specs.inside.Groups.{range_datagrams}

-- the datagram of one packet more
pub datagrams_more : (e : Encoding) (first n : ℕ)
    → range_datagrams e first (n + 1) ≡ range_datagrams e first n ++ (text (frame_of gf16_coding e (first + n)) ∷ [])
datagrams_more e first n = map-range_with_len_more (λ (k : ℕ). text (frame_of gf16_coding e k)) first n (first + n) refl

-- the first packets of a range are the first of more
datagrams_first : (e : Encoding) (first n m : ℕ) → n ≤ m
    → AreFirstDatagrams (range_datagrams e first n) (range_datagrams e first m)
datagrams_first e first n m le =
    let all = range_datagrams e first m in (
      drop n all,
      sym (take-append-drop n all)
          ∙ ap (λ (t : List (List ℕ)). t ++ drop n all)
          (take-map-range_with_len (λ (k : ℕ). text (frame_of gf16_coding e k)) first m n le),
    )

pub sends_packet : (way : Way) (e : Encoding) (from n : ℕ) (d : List ℕ) (first before after : Routes)
    → d ≡ text (frame_of gf16_coding e (from + n)) → before.place.target ≡ first.place.target
    → Sends way (range_datagrams e from n) first before → Sends way (d ∷ []) before after
    → Sends way (range_datagrams e from (n + 1)) first after
sends_packet way e from n d first before after is same p q =
    subst (λ (t : List (List ℕ)). Sends way t first after)
    (ap (λ (x : List ℕ). range_datagrams e from n ++ (x ∷ [])) is ∙ sym (datagrams_more e from n))
    (sends_then way (range_datagrams e from n) (d ∷ []) first before after same p q)

pub part_packet : (way : Way) (e : Encoding) (from n m : ℕ) (d : List ℕ) (first before after : Routes)
    → d ≡ text (frame_of gf16_coding e (from + n)) → n < m → before.place.target ≡ first.place.target
    → Sends way (range_datagrams e from n) first before → SendsPart way (d ∷ []) before after
    → SendsPart way (range_datagrams e from m) first after
part_packet way e from n m d first before after is lt same p part =
    part_within way (range_datagrams e from (n + 1)) (range_datagrams e from m) first after
    (datagrams_first e from (n + 1) m (omega arith))
    (subst (λ (t : List (List ℕ)). SendsPart way t first after)
    (ap (λ (x : List ℕ). range_datagrams e from n ++ (x ∷ [])) is ∙ sym (datagrams_more e from n))
    (part_after way (range_datagrams e from n) (d ∷ []) first before after same p part))

pub part_so_far : (way : Way) (e : Encoding) (from n m : ℕ) (first after : Routes) → n ≤ m
    → Sends way (range_datagrams e from n) first after → SendsPart way (range_datagrams e from m) first after
part_so_far way e from n m first after le sends =
    part_within way (range_datagrams e from n) (range_datagrams e from m) first after (datagrams_first e from n m le)
    (part_whole way (range_datagrams e from n) first after sends)

-- the datagrams of a range stand behind those of the packets before it
pub range_behind : (e : Encoding) (n m : ℕ) → range_datagrams e 0 (n + m) ≡ range_datagrams e 0 n ++ range_datagrams e n m
range_behind e n zero =
    let same : n + 0 ≡ n = omega arith in
    ap (range_datagrams e 0) same ∙ sym (append-nil (range_datagrams e 0 n))
range_behind e n (suc m) =
    let along : n + suc m ≡ n + m + 1 = omega arith in
    let more : m + 1 ≡ suc m = omega arith in
    let last : List (List ℕ) = text (frame_of gf16_coding e (n + m)) ∷ [] in
    ap (range_datagrams e 0) along ∙ datagrams_more e 0 (n + m)
    ∙ ap (λ (k : ℕ). range_datagrams e 0 (n + m) ++ (text (frame_of gf16_coding e k) ∷ [])) (omega arith)
    ∙ ap (λ (t : List (List ℕ)). t ++ last) (range_behind e n m)
    ∙ append_assoc (range_datagrams e 0 n) (range_datagrams e n m) last
    ∙ ap (λ (t : List (List ℕ)). range_datagrams e 0 n ++ t) (sym (datagrams_more e n m) ∙ ap (range_datagrams e n) more)

pub sends_range : (way : Way) (e : Encoding) (n m : ℕ) (first before after : Routes)
    → before.place.target ≡ first.place.target → Sends way (range_datagrams e 0 n) first before
    → Sends way (range_datagrams e n m) before after → Sends way (range_datagrams e 0 (n + m)) first after
sends_range way e n m first before after same p q =
    subst (λ (t : List (List ℕ)). Sends way t first after) (sym (range_behind e n m))
    (sends_then way (range_datagrams e 0 n) (range_datagrams e n m) first before after same p q)

pub part_range : (way : Way) (e : Encoding) (n m all : ℕ) (first before after : Routes) → n + m ≤ all
    → before.place.target ≡ first.place.target → Sends way (range_datagrams e 0 n) first before
    → SendsPart way (range_datagrams e n m) before after → SendsPart way (range_datagrams e 0 all) first after
part_range way e n m all first before after le same p part =
    part_within way (range_datagrams e 0 (n + m)) (range_datagrams e 0 all) first after (datagrams_first e 0 (n + m) all le)
    (subst (λ (t : List (List ℕ)). SendsPart way t first after) (sym (range_behind e n m))
    (part_after way (range_datagrams e 0 n) (range_datagrams e n m) first before after same p part))
