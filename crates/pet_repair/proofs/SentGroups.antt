-- The packets of complete groups are sent group by group.
use Rattle.std.proofs.Common.{◌≡◌, ℕ, ◌+◌, ◌<◌, ◌≤◌, Bool, true, false, cond, List, [], ◌∷◌, ◌++◌, length, Some}
use Rattle.std.proofs.Common.{None}
use Rattle.std.proofs.Common.{refl, sym, ap, subst, ◌∙◌, arith, inl, inr, length-append}
use Rattle.std.specs.Prelude.{get_or, slice_get, option_map, unwrap_or, is_none}
use Rattle.std.specs.List.{range_with_len}
use Rattle.std.proofs.lemmas.List.{append-nil, length_push, get_or_append_left}
use Rattle.pet_base.specs.declared.limits.TheConstants.{MAX_GROUPS}
use Rattle.packet_set.specs.Packets.{Packets}
use Rattle.packet_verdicts.specs.KeptSet.{KeptSet, IsKeptSet, open_group, told_by}
use Rattle.packet_verdicts.specs.laws.EntryLaws.{all_found}
use Rattle.packet_rebuild.proofs.Headers.{header_in_range}
use Rattle.outside_routes.specs.Sending.{Routes, Sends, SendsPart, OnlyGrows}
use Rattle.outside_routes.specs.Way.{Way}
use Rattle.outside_routes.specs.laws.SendingLaws.{sends_nothing, sends_then, part_after}
use Rattle.outside_routes.specs.laws.SendingLaws.{sending_failed, output_failed}
use Rattle.field_elements.specs.Gf16.{gf16_coding}
use Rattle.pet_receive.specs.Arrivals.{ReceiverState, kept_set}
use Rattle.packet_rebuild.specs.Repairs.{repair_fault, first_unlike_of, IsEncoderOf}
use Rattle.packet_rebuild.specs.declared.fault.RepairFault.{RepairFault}
use Rattle.packet_session.specs.Encoding.{Encoding}
use Rattle.pet_repair.specs.Repaired.{all_datagrams, count_whole, is_whole, on_end}
use Rattle.pet_repair.specs.declared.repair.RepairEnd.{RepairEnd}
use Rattle.pet_repair.specs.declared.repair.RepairEnd.TheVariants as end
use Rattle.pet_repair.specs.declared.repairing.Repaired.{Repaired}
use Rattle.pet_repair.specs.inside.Groups.{IsRepairedIn, AreRepairedIn, IsUnlikeIn, SendsEncoded, SendsGroup}
use Rattle.pet_repair.specs.inside.Groups.{SendsGroups}
use Rattle.pet_repair.specs.inside.Groups.{StopsBy, PartOfEncoded, StopsEncoded, PartOfGroup, StopsAtGroup}
use Rattle.pet_repair.specs.inside.Groups.{PartOfGroups}
use Rattle.pet_repair.specs.inside.Groups.{StopsInGroups}
use Rattle.pet_repair.specs.laws.RepairLaws.{are_none, are_more, on_end_push}

-- a stop by another word for what was sent
pub stops_map : (way : Way) (old new : Routes) (A B : Type 0) (U V : ℕ → ℕ → Type 0) (e : RepairEnd)
    → (A → B) → ((g n : ℕ) → U g n → V g n) → StopsBy way old new A U e → StopsBy way old new B V e
stops_map way old new A B U V (end.Done groups datagrams) f h is = is
stops_map way old new A B U V end.NoMemory f h is = f is
stops_map way old new A B U V end.PlaceFault f h is = (is.0, f is.1)
stops_map way old new A B U V end.LinkFault f h is = (is.0, f is.1)
stops_map way old new A B U V (end.BadStore at kind) f h is = is
stops_map way old new A B U V (end.Unlike group number) f h is = h group number is

-- and seen from an earlier time
pub stops_since : (way : Way) (first old new : Routes) (A B : Type 0) (U V : ℕ → ℕ → Type 0) (e : RepairEnd)
    → OnlyGrows first old → (A → B) → ((g n : ℕ) → U g n → V g n) → StopsBy way old new A U e
    → StopsBy way first new B V e
stops_since way first old new A B U V (end.Done groups datagrams) grows f h is = is
stops_since way first old new A B U V end.NoMemory grows f h is = f is
stops_since way first old new A B U V end.PlaceFault grows f h is = (
  output_failed way first old new grows is.0,
  f is.1,
)
stops_since way first old new A B U V end.LinkFault grows f h is = (
  sending_failed way first old new grows is.0,
  f is.1,
)
stops_since way first old new A B U V (end.BadStore at kind) grows f h is = is
stops_since way first old new A B U V (end.Unlike group number) grows f h is = h group number is

module _ (way : Way) (r : ReceiverState ℕ) where
  -- the packets of a whole group
  pub whole_is : (group : ℕ) (e : Encoding) → repair_fault (kept_set r) group ≡ None
      → IsEncoderOf (λ a. a < 65536) gf16_coding r group e → first_unlike_of gf16_coding (kept_set r) e ≡ None
      → IsRepairedIn r group (all_datagrams gf16_coding e)
  whole_is group e shown is like = record {
    hidden = λ out. let no : true ≡ false = sym (ap is_none shown) ∙ out in absurd cc;
    shown = λ _. record { encoder = e; is_its = is; like = like; sent_is = refl };
  }

  -- of a group that is whole
  pub sends_whole : (group : ℕ) (e : Encoding) (n : Repaired) (old new : Routes)
      → repair_fault (kept_set r) group ≡ None
      → IsEncoderOf (λ a. a < 65536) gf16_coding r group e → SendsEncoded way r e n old new
      → SendsGroup way r group n old new
  sends_whole group e n old new shown is sends =
      let yes : is_whole (kept_set r) group ≡ true = ap is_none shown in
      record {
        sent = all_datagrams gf16_coding e;
        is = whole_is group e shown is sends.like;
        one = sends.one ∙ ap (λ (b : Bool). cond b 1 0) (sym yes);
        many = sends.many ∙ sym (many_datagrams e);
        sends = sends.sends;
      }
    where
      many_datagrams : (e : Encoding) → length (all_datagrams gf16_coding e) ≡ e.header.table.packets
      many_datagrams e =
          Rattle.std.proofs.lemmas.List.length-map (range_with_len 0 e.header.table.packets) _
          ∙ Rattle.std.proofs.lemmas.List.FromFn.length-range_with_len 0 e.header.table.packets

  -- and of one that is not
  pub sends_none : (group : ℕ) (n : Repaired) (fault : RepairFault) (now : Routes) → n.groups ≡ 0 → n.datagrams ≡ 0
      → repair_fault (kept_set r) group ≡ Some fault → SendsGroup way r group n now now
  sends_none group n fault now none zero is =
      let no : is_whole (kept_set r) group ≡ false = ap is_none is in
      record {
        sent = [];
        is = record { hidden = λ _. refl; shown = λ yes. let no : false ≡ true = sym no ∙ yes in absurd cc };
        one = none ∙ ap (λ (b : Bool). cond b 1 0) (sym no);
        many = zero;
        sends = sends_nothing way now now refl refl;
      }

  pub stops_whole : (group : ℕ) (e : Encoding) (old new : Routes) (end : RepairEnd)
      → repair_fault (kept_set r) group ≡ None → IsEncoderOf (λ a. a < 65536) gf16_coding r group e
      → StopsEncoded way r e group old new end → StopsAtGroup way r group old new end
  stops_whole group e old new end shown is stops =
      stops_map way old new (PartOfEncoded way r e old new) (PartOfGroup way r group old new) _ _ end part
      (λ g n u. (u.0, unlike g n u.0 u.1, u.2)) stops
    where
      part : PartOfEncoded way r e old new → PartOfGroup way r group old new
      part (inl none) = inl none
      part (inr p) = inr (all_datagrams gf16_coding e, whole_is group e shown is p.0, p.1)

      unlike : (g n : ℕ) → g ≡ group → first_unlike_of gf16_coding (kept_set r) e ≡ Some n → IsUnlikeIn r group n
      unlike g n same u = record { shown = ap is_none shown; encoder = e; is_its = is; unlike = u }

  -- no group yet
  pub groups_none : (n : Repaired) (now : Routes) → n.groups ≡ 0 → n.datagrams ≡ 0 → SendsGroups way r 0 n now now
  groups_none n now none zero = record {
    groups = [];
    are = are_none (λ a. a < 65536) gf16_coding r;
    whole = none;
    many = zero;
    sends = sends_nothing way now now refl refl;
  }

  count_more : (k : ℕ) → count_whole (kept_set r) (k + 1) ≡ count_whole (kept_set r) k + cond
      (is_whole (kept_set r) k) 1 0
  count_more k = Rattle.pet_repair.specs.laws.RepairLaws.count_last (is_whole (kept_set r)) k

  -- one group more
  pub groups_more : (k : ℕ) (m n t : Repaired) (first old new : Routes) → OnlyGrows first old
      → SendsGroups way r k m first old → SendsGroup way r k n old new → t.groups ≡ m.groups + n.groups
      → t.datagrams ≡ m.datagrams + n.datagrams → SendsGroups way r (k + 1) t first new
  groups_more k m n t first old new grows before one groups datagrams =
      let push = on_end_push before.groups one.sent in
      record {
        groups = before.groups ++ one.sent ∷ [];
        are = are_more (λ a. a < 65536) gf16_coding r k before.groups one.sent before.are one.is;
        whole = omega (arith, groups, before.whole, one.one, count_more k);
        many =
            omega (
              arith,
              datagrams,
              before.many,
              one.many,
              ap length push,
              length-append (on_end before.groups) one.sent,
            );
        sends =
            subst (λ (ds : List (List ℕ)). Sends way ds first new) (sym push)
            (sends_then way (on_end before.groups) one.sent first old new grows.place.target before.sends one.sends);
      }

  -- stopped at a group
  pub stops_more : (k : ℕ) (m : Repaired) (first old new : Routes) (end : RepairEnd) → OnlyGrows first old
      → SendsGroups way r k m first old → StopsAtGroup way r k old new end → StopsInGroups way r first new end
  stops_more k m first old new end grows before stops =
      stops_since way first old new (PartOfGroup way r k old new) (PartOfGroups way r first new) _ _ end grows part
      unlike stops
    where
      part : PartOfGroup way r k old new → PartOfGroups way r first new
      part (inl none) = (
        k,
        before.groups,
        before.are,
        subst (λ (ds : List (List ℕ)). SendsPart way ds first new) (append-nil (on_end before.groups))
            (part_after way (on_end before.groups) [] first old new grows.place.target before.sends none),
      )
      part (inr p) = (
        k + 1,
        before.groups ++ p.0 ∷ [],
        are_more (λ a. a < 65536) gf16_coding r k before.groups p.0 before.are p.1,
        subst (λ (ds : List (List ℕ)). SendsPart way ds first new) (sym (on_end_push before.groups p.0))
            (part_after way (on_end before.groups) p.0 first old new grows.place.target before.sends p.2),
      )

      unlike : (g n : ℕ) → (g ≡ k) × IsUnlikeIn r k n × Sends way [] old new
          → IsUnlikeIn r g n × ((groups : List (List (List ℕ))) × AreRepairedIn r g groups
          × Sends way (on_end groups) first new)
      unlike g n u = (
        subst (λ (i : ℕ). IsUnlikeIn r i n) (sym u.0) u.1,
        (
          before.groups,
          subst (λ (i : ℕ). AreRepairedIn r i before.groups) (sym u.0) before.are,
          subst (λ (ds : List (List ℕ)). Sends way ds first new) (append-nil (on_end before.groups))
              (sends_then way (on_end before.groups) [] first old new grows.place.target before.sends u.2),
        ),
      )

-- a store tells few groups
pub told_few : (set : KeptSet) → IsKeptSet set → unwrap_or (told_by set) 0 ≤ MAX_GROUPS
told_few set sound = by set.groups refl
  where
    by : (es : List (ℕ × Packets)) → set.groups ≡ es
        → unwrap_or (option_map (λ (e : ℕ × Packets). e.1.header.groups) (slice_get set.groups 0)) 0 ≤ MAX_GROUPS
    by [] is =
        subst (λ (es : List (ℕ × Packets)).
        unwrap_or (option_map (λ (e : ℕ × Packets). e.1.header.groups) (slice_get es 0)) 0 ≤ MAX_GROUPS) (sym is)
        (omega arith)
    by (e ∷ es) is =
        let some : 0 < length set.groups = omega (arith, ap length is) in
        let found = all_found set.groups sound.rising 0 e some in
        let first : get_or set.groups 0 e ≡ e = ap (λ (es : List (ℕ × Packets)). get_or es 0 e) is in
        let opened : open_group set e.0 ≡ Some e.1 =
        subst (λ (x : ℕ × Packets). open_group set x.0 ≡ Some x.1) first found in
        subst (λ (es : List (ℕ × Packets)).
        unwrap_or (option_map (λ (e : ℕ × Packets). e.1.header.groups) (slice_get es 0)) 0 ≤ MAX_GROUPS) (sym is)
        (header_in_range set e.0 e.1 sound opened).0
