-- Laws of what is read of the datagram file of a session: its packets, in order.
use Rattle.std.proofs.Common.{◌≡◌, ℕ, suc, ◌*◌, ◌<◌, ◌≤◌, Bool, false, take, drop, List, [], ◌∷◌, ◌++◌, length, All, map}
use Rattle.std.proofs.Common.{append_assoc, refl, sym, ap, subst, ◌∙◌, arith}
use Rattle.std.specs.Prelude.{Contains, Some, cond}
use Rattle.std.specs.Int.{w16, from_be_bytes, to_be_bytes}
use Rattle.std.proofs.Math.Dec.{ltb}
use Rattle.std.proofs.Math.Seq.{take-append_seam, drop-append_seam}
use Rattle.std.proofs.lemmas.Bool.{le-ltb}
use Rattle.std.proofs.lemmas.List.{length-append}
use Rattle.std.proofs.lemmas.List.Elements.{All-map, All-contains_itself}
use Rattle.std.proofs.lemmas.Nat.{from_be_bytes-to_be_bytes_2, mul-le}
use Rattle.pet_base.specs.Entries.{whole_or_damaged, first_entry, datagrams}
use Rattle.pet_base.specs.laws.EntriesLaws.{datagrams_first, datagrams_none}
use Rattle.field_elements.specs.Field.{Coding, IsCoding}
use Rattle.field_elements.specs.Gf16.{gf16_coding}
use Rattle.field_elements.specs.laws.Gf16Laws.{gf16_lawful}
use Rattle.stripe_plan.specs.Layers.{plan_ends}
use Rattle.stripe_plan.specs.Sizes.{planned}
use Rattle.stripe_plan.specs.laws.ByteLaws.{length-planned}
use Rattle.packet_frame.specs.declared.format.Format.{Format}
use Rattle.packet_frame.specs.declared.format.TheConstants.{FORMAT}
use Rattle.packet_frame.specs.Format.{IsFormat}
use Rattle.packet_frame.specs.Frame.{Fields, IsFrame, text}
use Rattle.packet_frame.specs.Planned.{by_text, planned_text, IsPlannedFrame}
use Rattle.packet_frame.specs.laws.Formats.{format_is}
use Rattle.packet_frame.specs.laws.Laws.{texts_have_length_in}
use Rattle.packet_frame.specs.laws.PlannedLaws.{planned_again}
use Rattle.packet_session.specs.Session.{Session, IsSession, IsSessionIn, IsPacketOf, packets_of}
use Rattle.packet_session.specs.laws.SessionLaws.{packets_are, packets_are_frames_in}
use Rattle.packet_session.specs.Datagrams.{entries_text_in, datagrams_text_in, session_datagrams_in, IsItsDatagramIn}
use Rattle.packet_session.specs.Datagrams.{session_packets, datagrams_text, IsItsDatagram}
use Rattle.pet_base.specs.Entries.{entry_text}

pair_at : (test : Bool) (n : ℕ) (more : List ℕ) → test ≡ false
    → cond {A = List ℕ × List ℕ} test ([], []) (take n more, drop n more) ≡ (take n more, drop n more)
pair_at test n more is = ap (λ (b : Bool). cond {A = List ℕ × List ℕ} b ([], []) (take n more, drop n more)) is

-- so many bytes are there, and others behind them
whole_is : (d rest : List ℕ) → whole_or_damaged (length d) (d ++ rest) ≡ (d, rest)
whole_is d rest =
    pair_at (ltb (length (d ++ rest)) (length d)) (length d) (d ++ rest)
    (le-ltb (length (d ++ rest)) (length d) (omega (arith, length-append d rest)))
    ∙ ap (λ (front : List ℕ). (front, drop (length d) (d ++ rest))) (take-append_seam d rest)
    ∙ ap (λ (back : List ℕ). (d, back)) (drop-append_seam d rest)

two_first : (n : ℕ) (more : List ℕ)
    → first_entry (to_be_bytes w16 n ++ more) ≡ Some (whole_or_damaged (from_be_bytes w16 (to_be_bytes w16 n)) more)
two_first n more = refl

-- an entry is read as its datagram
pub entry_read : (d rest : List ℕ) → length d < 65536 → first_entry (entry_text d ++ rest) ≡ Some (d, rest)
entry_read d rest short =
    ap first_entry (append_assoc (to_be_bytes w16 (length d)) d rest)
    ∙ two_first (length d) (d ++ rest)
    ∙ ap (λ (n : ℕ). Some (whole_or_damaged n (d ++ rest))) (from_be_bytes-to_be_bytes_2 (length d) short)
    ∙ ap (λ (entry : List ℕ × List ℕ). Some entry) (whole_is d rest)

-- the length of a frame fits two bytes
pub text_short_in : (t : Format) → IsFormat t → (f : Fields) → IsPlannedFrame t f → length (planned_text t f) < 65536
text_short_in t format f is =
    let layers = (by_text t f).layers in
    let stripes = length (plan_ends (planned t.bounds layers)) in
    let payload : t.word * stripes ≤ 2 * stripes = mul-le t.word stripes 2 stripes format.word (omega arith) in
    omega (
      arith,
      texts_have_length_in t format (by_text t f) is.frame,
      is.frame.table.narrow,
      format.bare,
      length-planned t.bounds layers,
      payload,
    )

-- the entries of frames are read as their texts, in order
pub texts_read_in : (t : Format) → IsFormat t → (packets : List Fields) → All (IsPlannedFrame t) packets
    → datagrams (entries_text_in t packets) ≡ map (planned_text t) packets
texts_read_in t format [] are = datagrams_none [] refl
texts_read_in t format (f ∷ packets) are =
    datagrams_first (entries_text_in t (f ∷ packets)) (planned_text t f) (entries_text_in t packets)
    (entry_read (planned_text t f) (entries_text_in t packets) (text_short_in t format f (are 0 f (omega arith))))
    ∙ ap (λ (ds : List (List ℕ)). planned_text t f ∷ ds)
    (texts_read_in t format packets (λ k d lt. are (suc k) d (omega arith)))

each_of : {X : Type 0} (P Q : X → Type 0) (xs : List X) → ((x : X) → P x → Q x) → All P xs → All Q xs
each_of P Q xs h all k d lt = h _ (all k d lt)

module _ {E : Type 0} (P : E → Type 0) (count : ℕ) (c : Coding E) (laws : IsCoding P count c) (t : Format)
    (format : IsFormat t) (width : t.word ≡ c.width) (enough : t.bounds.packets ≤ count) (s : Session)
    (session : IsSessionIn t s) where
  -- each packet of a session's list is one of its packets, and a frame
  each_packet : (f : Fields) → Contains (packets_of c s) f → IsPacketOf c s f
  each_packet f h = (packets_are c s f).0 h

  each_frame : (f : Fields) → IsPacketOf c s f → IsPlannedFrame t f
  each_frame f p = packets_are_frames_in P count c laws t width enough s f session p

  pub are_frames_in : All (IsPlannedFrame t) (packets_of c s)
  are_frames_in =
      each_of (Contains (packets_of c s)) (IsPlannedFrame t) (packets_of c s) (λ f h. each_frame f (each_packet f h))
      (All-contains_itself (packets_of c s))

  -- The datagram file of a session is read as the texts of its packets, by group, then number.
  pub sent_are_texts_in : datagrams (datagrams_text_in t c s) ≡ session_datagrams_in t c s
  sent_are_texts_in = texts_read_in t format (packets_of c s) are_frames_in

  text_is_datagram : (f : Fields) → IsPacketOf c s f → IsItsDatagramIn t c s (planned_text t f)
  text_is_datagram f p =
      let read = planned_again t format f (each_frame f p) in
      record {
        accepted = read.0;
        number = ap (λ (x : Fields). x.session) (read.1 ∙ p.made);
        packet = subst (IsPacketOf c s) (sym read.1) p;
      }

  -- Each of its datagrams is accepted, has the session's number, and is one of its packets.
  pub sent_are_packets_in : All (IsItsDatagramIn t c s) (datagrams (datagrams_text_in t c s))
  sent_are_packets_in =
      subst (All (IsItsDatagramIn t c s)) (sym sent_are_texts_in)
      (All-map (IsItsDatagramIn t c s) (planned_text t) (packets_of c s)
      (each_of (Contains (packets_of c s)) (λ f. IsItsDatagramIn t c s (planned_text t f)) (packets_of c s)
      (λ f h. text_is_datagram f (each_packet f h)) (All-contains_itself (packets_of c s))))

-- so it is of the frames that are written today
is_frame_of_today : (f : Fields) → IsPlannedFrame FORMAT f → IsFrame f
is_frame_of_today f is = is.frame

pub are_frames : (s : Session) → IsSession 2 s → All IsFrame (session_packets s)
are_frames s session =
    each_of (IsPlannedFrame FORMAT) IsFrame (session_packets s) is_frame_of_today
    (are_frames_in (λ a. a < 65536) 65536 gf16_coding gf16_lawful FORMAT format_is refl (omega arith) s session)

pub sent_are_texts : (s : Session) → IsSession 2 s → datagrams (datagrams_text s) ≡ map text (session_packets s)
sent_are_texts s session =
    sent_are_texts_in (λ a. a < 65536) 65536 gf16_coding gf16_lawful FORMAT format_is refl (omega arith) s session

pub sent_are_packets : (s : Session) → IsSession 2 s → All (IsItsDatagram s) (datagrams (datagrams_text s))
sent_are_packets s session =
    sent_are_packets_in (λ a. a < 65536) 65536 gf16_coding gf16_lawful FORMAT format_is refl (omega arith) s session
