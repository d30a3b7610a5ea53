-- The packets of a group that are not kept are sent and kept one after the other, and range by range.
use Rattle.std.proofs.Common.{◌≡◌, ℕ, ◌+◌, ◌-◌, ◌<◌, ◌≤◌, Bool, true, false, List, [], ◌∷◌, ◌++◌, length-append, map}
use Rattle.std.proofs.Common.{None, refl, sym, ap, subst, ◌∙◌, arith, append_assoc}
use Rattle.std.proofs.lemmas.List.{append-nil, map-append}
use Rattle.std.specs.Prelude.{is_none, is_some}
use Rattle.field_elements.specs.Gf16.{gf16_coding}
use Rattle.packet_frame.specs.declared.frame.Header.{Header}
use Rattle.packet_frame.specs.Frame.{IsFrame, text}
use Rattle.packet_frame.specs.Refusals.{fields_of}
use Rattle.packet_frame.specs.laws.Laws.{reads_frames}
use Rattle.packet_met.specs.laws.KeptDatagram.{kept_frame}
use Rattle.packet_session.specs.Encoding.{Encoding, frame_of}
use Rattle.packet_verdicts.specs.KeptSet.{KeptSet, IsKeptSet, kept_in_all, payload_of}
use Rattle.packet_verdicts.specs.Verdicts.{verdict_of, is_kept, after}
use Rattle.packet_verdicts.specs.laws.KeptSetLaws.{keepable, all_keep, after_kept, verdict_read}
use Rattle.packet_rebuild.specs.Rebuilding.{HasRebuilt, IsOpenFor}
use Rattle.packet_rebuild.specs.Repairs.{made_again, keep_all}
use Rattle.packet_rebuild.specs.laws.RebuiltLaws.{none_kept, rebuilt_none, rebuilt_then, rebuilt_had, rebuilt_one}
use Rattle.packet_rebuild.specs.laws.RebuiltLaws.{verdict_kept}
use Rattle.pet_receive.specs.Arrivals.{Order, ReceiverState, HasKept, kept_set}
use Rattle.outside_routes.specs.Way.{Way}
use Rattle.outside_routes.specs.Sending.{Routes, AreFirstDatagrams, Sends, SendsPart}
use Rattle.outside_routes.specs.laws.SendingLaws.{sends_nothing, sends_then, part_after, part_within}
use Rattle.pet_repair.specs.Arrival.{order_of}
use Rattle.pet_repair.specs.inside.Arrivals.{SendsAgain, StandsIn, KeepsOnIn}

-- one packet more is kept
pub kept_more : (set : KeptSet) (d : List ℕ) → IsKeptSet set → is_kept (verdict_of set d) ≡ true
    → kept_in_all (after set d) ≡ kept_in_all set + 1
kept_more set d sound kept =
    let fine = kept_frame set d kept in
    ap kept_in_all (after_kept set d kept)
    ∙ all_keep set sound (fields_of d) (reads_frames d fine)
    (keepable set (fields_of d) (ap is_kept (sym (verdict_read set d fine)) ∙ kept))

-- nothing more is kept, and one more, and some more behind others
pub keeps_none : (r : ReceiverState ℕ) → KeepsOnIn r [] r
keeps_none r kept stands = subst (StandsIn r) (sym (append-nil kept)) stands

pub keeps_one : (r now : ReceiverState ℕ) (d : List ℕ)
    → ((order : Order) → HasKept (λ a. a < 65536) gf16_coding r order
    → HasKept (λ a. a < 65536) gf16_coding now (order ++ ((fields_of d).group, (fields_of d).number) ∷ []))
    → IsKeptSet (kept_set now) → KeepsOnIn r (d ∷ []) now
keeps_one r now d order sound kept stands = record {
  held =
      subst (λ (o : Order). HasKept (λ a. a < 65536) gf16_coding now o)
      (sym (map-append (λ (d : List ℕ). ((fields_of d).group, (fields_of d).number)) kept (d ∷ [])))
      (order (order_of kept) stands.held);
  sound = sound;
}

pub keeps_then : (r mid now : ReceiverState ℕ) (a b : List (List ℕ)) → KeepsOnIn r a mid → KeepsOnIn mid b now
    → KeepsOnIn r (a ++ b) now
keeps_then r mid now a b one two kept stands =
    subst (StandsIn now) (append_assoc kept a b) (two (kept ++ a) (one kept stands))

-- a packet that is not kept
pub absent_in : (e : Encoding) (set : KeptSet) (n : ℕ) (h : Header) (has : Bool) → h ≡ e.header
    → (is_some (payload_of set h.group n) ≡ true → has ≡ true) → has ≡ false → payload_of set e.header.group n ≡ None
absent_in e set n h has same each lacks =
    ap (λ (h : Header). payload_of set h.group n) (sym same) ∙ none_kept (payload_of set h.group n) has each lacks

module _ (way : Way) (e : Encoding) where
  pub again_none : (r : ReceiverState ℕ) (first : ℕ) (now : Routes) → SendsAgain way r e first 0 r now now
  again_none r first now = record {
    sent = [];
    rebuilt = rebuilt_none gf16_coding e (kept_set r) first;
    more = omega arith;
    stands = keeps_none r;
    sends = sends_nothing way now now refl refl;
  }

  pub again_then : (r mid now : ReceiverState ℕ) (first a next b k : ℕ) (r0 r1 r2 : Routes)
      → r1.place.target ≡ r0.place.target → SendsAgain way r e first a mid r0 r1 → next ≡ first + a
      → SendsAgain way mid e next b now r1 r2 → k ≡ a + b → SendsAgain way r e first k now r0 r2
  again_then r mid now first a next b k r0 r1 r2 same one at two total = record {
    sent = one.sent ++ two.sent;
    rebuilt =
        rebuilt_then gf16_coding e (kept_set r) (kept_set mid) (kept_set now) first a next b k one.sent two.sent
        one.rebuilt at two.rebuilt total;
    more = omega (arith, one.more, two.more, length-append one.sent two.sent);
    stands = keeps_then r mid now one.sent two.sent one.stands two.stands;
    sends = sends_then way one.sent two.sent r0 r1 r2 same one.sends two.sends;
  }

  -- those of a range, and then those of another
  made_behind : (set mid : KeptSet) (first a next b k : ℕ) (sent : List (List ℕ))
      → HasRebuilt gf16_coding set e first a sent mid → next ≡ first + a → k ≡ a + b
      → sent ++ map text (made_again gf16_coding mid e next b) ≡ map text (made_again gf16_coding set e first k)
  made_behind set mid first a next b k sent has at total =
      (rebuilt_then gf16_coding e set mid (keep_all mid (made_again gf16_coding mid e next b)) first a next b k sent
      (map text (made_again gf16_coding mid e next b)) has at (record { sent_is = refl; kept = refl }) total).sent_is

  -- the first of them
  made_first : (set : KeptSet) (first n k : ℕ) → n ≤ k
      → AreFirstDatagrams (map text (made_again gf16_coding set e first n))
      (map text (made_again gf16_coding set e first k))
  made_first set first n k le =
      let mid = keep_all set (made_again gf16_coding set e first n) in
      let total : k ≡ n + (k - n) = omega (arith, le) in (
        map text (made_again gf16_coding mid e (first + n) (k - n)),
        sym (made_behind set mid first n (first + n) (k - n) k (map text (made_again gf16_coding set e first n))
            (record { sent_is = refl; kept = refl }) refl total),
      )

  pub again_part : (r between : ReceiverState ℕ) (first a next b k : ℕ) (r0 r1 r2 : Routes)
      → r1.place.target ≡ r0.place.target → SendsAgain way r e first a between r0 r1 → next ≡ first + a → a + b ≤ k
      → SendsPart way (map text (made_again gf16_coding (kept_set between) e next b)) r1 r2
      → SendsPart way (map text (made_again gf16_coding (kept_set r) e first k)) r0 r2
  again_part r between first a next b k r0 r1 r2 same one at le part =
      let set = kept_set r in
      let mid = kept_set between in
      part_within way (map text (made_again gf16_coding set e first (a + b)))
      (map text (made_again gf16_coding set e first k)) r0 r2 (made_first set first (a + b) k le)
      (subst (λ (ds : List (List ℕ)). SendsPart way ds r0 r2)
      (made_behind set mid first a next b (a + b) one.sent one.rebuilt at refl)
      (part_after way one.sent (map text (made_again gf16_coding mid e next b)) r0 r1 r2 same one.sends part))

  -- one packet, that is kept already
  pub again_had : (r : ReceiverState ℕ) (n : ℕ) (now : Routes)
      → is_none (payload_of (kept_set r) e.header.group n) ≡ false → SendsAgain way r e n 1 r now now
  again_had r n now there = record {
    sent = [];
    rebuilt = rebuilt_had gf16_coding e (kept_set r) n there;
    more = omega arith;
    stands = keeps_none r;
    sends = sends_nothing way now now refl refl;
  }

  -- and one that is not
  module _ (r : ReceiverState ℕ) (n : ℕ) (frame : List ℕ) (opened : IsOpenFor (kept_set r) e)
      (is : IsFrame (frame_of gf16_coding e n)) (absent : payload_of (kept_set r) e.header.group n ≡ None)
      (same : frame ≡ text (frame_of gf16_coding e n)) where
    abbrev set : KeptSet
    set = kept_set r

    pub again_one : (now : ReceiverState ℕ) (r0 r1 : Routes) → kept_set now ≡ after set frame
        → KeepsOnIn r (frame ∷ []) now → Sends way (frame ∷ []) r0 r1 → SendsAgain way r e n 1 now r0 r1
    again_one now r0 r1 kept stands sends = record {
      sent = frame ∷ [];
      rebuilt = rebuilt_one gf16_coding e set (kept_set now) n frame opened is absent same kept;
      more =
          ap kept_in_all kept
          ∙ kept_more set frame opened.sound (verdict_kept gf16_coding e set n frame opened is absent same);
      stands = stands;
      sends = sends;
    }

    pub part_one : (r0 r1 : Routes) → SendsPart way (frame ∷ []) r0 r1
        → SendsPart way (map text (made_again gf16_coding set e n 1)) r0 r1
    part_one r0 r1 part =
        subst (λ (ds : List (List ℕ)). SendsPart way ds r0 r1)
        (rebuilt_one gf16_coding e set (after set frame) n frame opened is absent same refl).sent_is part
