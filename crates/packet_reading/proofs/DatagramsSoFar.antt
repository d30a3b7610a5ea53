-- What was read so far, one datagram more, and what stands after a failure.
use Rattle.std.proofs.Common.{◌≡◌, ◌<◌, ℕ, ◌+◌, ◌≤◌, take, List, [], ◌∷◌, ◌++◌, length, Option, Some, None, refl, sym}
use Rattle.std.proofs.Common.{ap, subst, ◌∙◌, append_assoc, arith, inl, inr}
use Rattle.std.specs.Prelude.{option_map, IfSome}
use Rattle.std.proofs.lemmas.List.{length_push, append-nil}
use Rattle.pet_base.specs.declared.limits.TheConstants.{MAX_DATAGRAMS}
use Rattle.pet_base.specs.declared.entry.Entry.TheVariants.{Datagram, End}
use Rattle.pet_base.specs.Entries.{datagrams}
use Rattle.pet_base.specs.Seen.{Seen, Files, Grows, HadFault, OnlyReads, OnlyWrites, KeepsNames}
use Rattle.pet_base.specs.LinkSeen.{LinkSeen}
use Rattle.pet_base.specs.laws.SeenLaws.{Grows-then, HadFault-since}
use Rattle.pet_base.specs.Causes.{Blames}
use Rattle.pet_base.specs.declared.place.Side.TheVariants.{Read, Written}
use Rattle.pet_base.specs.declared.link.LinkSide.TheVariants.{Bound}
use Rattle.packet_reading.specs.Begun.{LinkReceives}
use Rattle.outside_routes.specs.Way.{Way, OnFile, OnLink}
use Rattle.outside_routes.specs.Coming.{coming, HaveCome, KeepsFeed, LosesPart, TakesDatagram}
use Rattle.outside_routes.specs.Sending.{AreFirstDatagrams}
use Rattle.outside_routes.specs.RouteFaults.{IsFailure, InputFailed, ReceivingFailed, stop_of_route, stop_of_place}
use Rattle.outside_routes.specs.declared.fault.RouteFailed.{RouteFailed}
use Rattle.outside_routes.specs.declared.fault.RouteFailed.TheVariants as failed
use Rattle.outside_routes.specs.laws.ComingLaws.{come_nothing, come_more, come_both, come_front, come_until}
use Rattle.pet_base.specs.declared.faults.Stop.{Stop}
use Rattle.pet_base.specs.declared.faults.Stop.TheVariants as place
use Rattle.packet_frame.specs.declared.format.Format.{Format}
use Rattle.packet_receiver.specs.Arrivals.{Order, ReceiverState, HasKept, kept_set}
use Rattle.packet_verdicts.specs.KeptSet.{KeptSet}
use Rattle.packet_verdicts.specs.laws.KeptSetLaws.{after_more_in}
use Rattle.packet_verdicts.specs.Verdicts.{after_in, after_all_in}
use Rattle.field_elements.specs.Field.{Coding}
use Rattle.packet_met.specs.LayersText.{order_after_in, order_after_all_in, IsArrivalTextIn, IsLayersTextIn}
use Rattle.packet_met.specs.Records.{IsTextAtIn}
use Rattle.outside_files.specs.Inputs.{Licensed}
use Rattle.outside_files.specs.Outputs.{Puts}
use Rattle.packet_reading.specs.inside.SoFar.{SoFar, HasReceived, CameFirst, PartSoFar, WholeSoFar, StoppedSoFar}
use Rattle.packet_reading.specs.inside.SoFar.{PartOfOne}
use Rattle.packet_met.specs.Steps.{steps_of_in, steps_of_all_in}
use Rattle.outside_files.specs.laws.OutputLaws.{puts_nothing}
use Rattle.packet_met.specs.laws.DatagramAtEnd.{order_push, steps_push, text_nothing, text_push}

-- a failure is one since the first, of the same names
input_since : (from : Way) (first before now : Seen) → KeepsNames first before → first.faults ≤ before.faults
    → InputFailed from before now → InputFailed from first now
input_since (OnFile name) first before now names later had =
    HadFault-since first before now _ _ later (λ b is. subst (λ (n : Option (List ℕ)). Blames Read n b) names.source is)
    had
input_since (OnLink address) first before now names later had = absurd had

receiving_since : (from : Way) (first before now : LinkSeen) → LinkReceives from first before
    → first.faults ≤ before.faults → ReceivingFailed from before now → ReceivingFailed from first now
receiving_since (OnFile name) first before now receives later had = absurd had
receiving_since (OnLink address) first before now receives later had = record {
  rose = let r = had.rose in omega (arith, r, later);
  blame = subst (λ (n : Option (List ℕ)). IfSome now.blamed (Blames Bound n)) receives.bound had.blame;
}

output_since : (first before between now : Seen) → KeepsNames first before → OnlyReads before between
    → first.faults ≤ between.faults → HadFault between now (Blames Written between.target)
    → HadFault first now (Blames Written first.target)
output_since first before between now names reads later had =
    HadFault-since first between now _ _ later
    (λ b is. subst (λ (n : Option (List ℕ)). Blames Written n b) (reads.target ∙ names.target) is) had

module _ (t : Format) {E : Type 0} (P : E → Type 0) (c : Coding E) where
  pub so_far_start : (s : Seen) (all : Option (List (List ℕ))) (r : ReceiverState E) (steps : ℕ) → HasKept P c r []
      → SoFar t P c (kept_set r) 0 s s all all r steps steps
  unfolding after_all_in order_after_all_in steps_of_all_in
  so_far_start s all r steps held = record {
    read = [];
    text = [];
    many = refl;
    rest = come_nothing all;
    kept = refl;
    held = held;
    is_text = text_nothing t P c (kept_set r) [] 1;
    puts = puts_nothing s s refl;
    steps = omega arith;
  }

  -- the text of the datagrams that were read and the next one
  arrival_text : (set : KeptSet) (n n1 : ℕ) (first before : Seen) (all left : Option (List (List ℕ)))
      (r : ReceiverState E) (d text : List ℕ) (a b : ℕ) (s : SoFar t P c set n first before all left r a b) → n1 ≡ n + 1
      → IsTextAtIn P c t r n1 d text
      → IsLayersTextIn P c t set [] 1 (s.read ++ d ∷ []) (s.text ++ text)
  arrival_text set n n1 first before all left r d text a b s at is =
      text_push t P c set [] 1 n1 s.read d s.text text (omega (arith, s.many, at)) s.is_text
      (subst (λ (k : KeptSet). IsArrivalTextIn P c t k (order_after_all_in t set [] s.read) n1 d text) s.kept
      (is (order_after_all_in t set [] s.read) s.held))

  pub so_far_more : (set : KeptSet) (n n1 len : ℕ) (into : List ℕ) (first before between now : Seen)
      (all left next_left : Option (List (List ℕ))) (r next : ReceiverState E) (a b e : ℕ)
      → SoFar t P c set n first before all left r a b → n1 ≡ n + 1 → KeepsNames first before
      → TakesDatagram left (Datagram len) into next_left → OnlyReads before between → OnlyWrites between now
      → (text : List ℕ) × IsTextAtIn P c t r n1 (take len into) text × Puts text between now
      → kept_set next ≡ after_in t (kept_set r) (take len into)
      → ((order : Order) → HasKept P c r order → HasKept P c next (order_after_in t (kept_set r) order (take len into)))
      → e ≤ b + steps_of_in t (kept_set r) (take len into)
      → SoFar t P c set n1 first now all next_left next a e
  so_far_more set n n1 len into first before between now all left next_left r next a b e s at names step reads writes
      puts kept held cost =
      let d = take len into in
      let same : between.target ≡ first.target = reads.target ∙ names.target in
      let kept_all : after_all_in t set (s.read ++ d ∷ []) ≡ after_in t (kept_set r) d =
      after_more_in t set s.read d ∙ ap (λ (k : KeptSet). after_in t k d) (sym s.kept) in
      let order_all : order_after_all_in t set [] (s.read ++ d ∷ [])
      ≡ order_after_in t (kept_set r) (order_after_all_in t set [] s.read) d =
      order_push t set [] s.read d
      ∙ ap (λ (k : KeptSet). order_after_in t k (order_after_all_in t set [] s.read) d) (sym s.kept) in
      let spent : steps_of_in t (after_all_in t set s.read) d ≡ steps_of_in t (kept_set r) d =
      ap (λ (k : KeptSet). steps_of_in t k d) (sym s.kept) in
      record {
        read = s.read ++ d ∷ [];
        text = s.text ++ puts.0;
        many = omega (arith, length_push s.read d, s.many, at);
        rest = come_more s.read all left next_left d s.rest step;
        kept = kept ∙ sym kept_all;
        held = subst (HasKept P c next) (sym order_all) (held (order_after_all_in t set [] s.read) s.held);
        is_text = arrival_text set n n1 first before all left r d puts.0 a b s at puts.1;
        puts = Grows-then first.target s.text puts.0 first.files before.files now.files s.puts
            (subst (λ (t : Option (List ℕ)). Grows t puts.0 before.files now.files) same
            (subst (λ (f : Option Files). Grows between.target puts.0 f now.files) reads.files puts.2));
        steps = omega (arith, s.steps, cost, steps_push t set s.read d, spent);
      }

  -- none is left to come
  pub received_all : (set : KeptSet) (n : ℕ) (into : List ℕ) (first before now : Seen)
      (all left next_left : Option (List (List ℕ))) (r : ReceiverState E) (a b : ℕ)
      → SoFar t P c set n first before all left r a b → n ≤ MAX_DATAGRAMS
      → TakesDatagram left End into next_left → OnlyReads before now → HasReceived t P c set n first now all next_left r a b
  received_all set n into first before now all left next_left r a b s few step reads =
      record {
        so_far = record {
          read = s.read;
          text = s.text;
          many = s.many;
          rest = subst (λ (o : Option (List (List ℕ))). HaveCome s.read all o) (sym step.0) s.rest;
          kept = s.kept;
          held = s.held;
          is_text = s.is_text;
          puts = subst (λ (f : Option Files). Grows first.target s.text first.files f) (sym reads.files) s.puts;
          steps = s.steps;
        };
        few = few;
        ended = λ _. subst (λ (o : Option (List (List ℕ))). IfSome o (λ more. more ≡ [])) (sym step.0) step.1;
      }

  -- 16,777,216 datagrams were read
  pub received_many : (set : KeptSet) (n : ℕ) (first now : Seen) (all left : Option (List (List ℕ)))
      (r : ReceiverState E) (a b : ℕ) → SoFar t P c set n first now all left r a b → n ≡ MAX_DATAGRAMS
      → HasReceived t P c set MAX_DATAGRAMS first now all left r a b
  received_many set n first now all left r a b s is =
      subst (λ m. HasReceived t P c set m first now all left r a b) is
      (record { so_far = s; few = omega (arith, is); ended = λ lt. absurd (omega (arith, is, lt)) })

  first_of_told : (read : List (List ℕ)) (rest : Option (List ℕ))
      → IfSome (option_map datagrams rest) (AreFirstDatagrams read)
      → IfSome rest (λ bytes. AreFirstDatagrams read (datagrams bytes))
  first_of_told read None is = tt
  first_of_told read (Some bytes) is = is

  -- what came since, and at most one datagram more
  came_first : (from : Way) (read : List (List ℕ)) (last : List (List ℕ)) (first before : Seen)
      (link_first link_before link_now : LinkSeen) → length last ≤ 1 → length read + length last ≤ MAX_DATAGRAMS
      → HaveCome read (coming from first link_first) (coming from before link_before)
      → ((address : List ℕ) → from ≡ OnLink address → HaveCome last link_before.feed link_now.feed)
      → CameFirst from read first link_first link_now
  came_first (OnFile name) read last first before link_first link_before link_now few all come more =
      first_of_told read first.rest
      (come_front read (option_map datagrams first.rest) (option_map datagrams before.rest) come)
  came_first (OnLink address) read last first before link_first link_before link_now few all come more =
      (last, few, all, come_both read last link_first.feed link_before.feed link_now.feed come (more address refl))

  -- a call failed before anything was put
  pub part_so_far : (from : Way) (set : KeptSet) (n : ℕ) (last : List (List ℕ)) (first before now : Seen)
      (link_first link_before link_now : LinkSeen) (r : ReceiverState E) (a b : ℕ)
      → SoFar t P c set n first before (coming from first link_first) (coming from before link_before) r a b
      → n < MAX_DATAGRAMS → length last ≤ 1
      → ((address : List ℕ) → from ≡ OnLink address → HaveCome last link_before.feed link_now.feed)
      → now.files ≡ before.files → PartSoFar t P c from set first now link_first link_now
  part_so_far from set n last first before now link_first link_before link_now r a b s room few more same = record {
    read = s.read;
    text = s.text;
    front = s.text;
    few = omega (arith, s.many, room);
    from_front =
        came_first from s.read last first before link_first link_before link_now few
        (omega (arith, s.many, room, few)) s.rest more;
    is_text = s.is_text;
    is_front = ([], sym (append-nil s.text));
    puts = subst (λ (f : Option Files). Grows first.target s.text first.files f) (sym same) s.puts;
  }

  -- FROM failed
  whole_so_far : (from : Way) (set : KeptSet) (n : ℕ) (first before now : Seen)
      (link_first link_before link_now : LinkSeen) (r : ReceiverState E) (a b : ℕ)
      → SoFar t P c set n first before (coming from first link_first) (coming from before link_before) r a b
      → n < MAX_DATAGRAMS → KeepsFeed from link_before link_now → LosesPart from before now
      → now.files ≡ before.files → WholeSoFar t P c from set first now link_first link_now
  whole_so_far from set n first before now link_first link_before link_now r a b s room keeps lost same = record {
    read = s.read;
    text = s.text;
    few = omega (arith, s.many, room);
    come = come_until from s.read first before now link_first link_before link_now s.rest keeps lost;
    is_text = s.is_text;
    puts = subst (λ (f : Option Files). Grows first.target s.text first.files f) (sym same) s.puts;
  }

  -- nothing could be received
  pub stopped_so_far : (failed : RouteFailed) (from : Way) (set : KeptSet) (n : ℕ) (first before now : Seen)
      (link_first link_before link_now : LinkSeen) (r : ReceiverState E) (a b : ℕ)
      → SoFar t P c set n first before (coming from first link_first) (coming from before link_before) r a b
      → n < MAX_DATAGRAMS → KeepsNames first before → first.faults ≤ before.faults
      → LinkReceives from link_first link_before → link_first.faults ≤ link_before.faults
      → KeepsFeed from link_before link_now → LosesPart from before now → now.files ≡ before.files
      → IsFailure (InputFailed from before now) (ReceivingFailed from link_before link_now) failed
      → StoppedSoFar t P c from set first now link_first link_now (stop_of_route failed)
  stopped_so_far failed.Place from set n first before now link_first link_before link_now r a b s room names later
      receives link_later keeps lost same cause = inl (
        input_since from first before now names later cause,
        whole_so_far from set n first before now link_first link_before link_now r a b s room keeps lost same,
      )
  stopped_so_far failed.Link from set n first before now link_first link_before link_now r a b s room names later
      receives link_later keeps lost same cause = (
        receiving_since from link_first link_before link_now receives link_later cause,
        whole_so_far from set n first before now link_first link_before link_now r a b s room keeps lost same,
      )

  -- a call failed while the text of a datagram was put
  part_of_more : (from : Way) (set : KeptSet) (n n1 len : ℕ) (into : List ℕ) (first before between now : Seen)
      (link_first link_before link_now : LinkSeen) (r : ReceiverState E) (a b : ℕ)
      → SoFar t P c set n first before (coming from first link_first) (coming from before link_before) r a b
      → n < MAX_DATAGRAMS → n1 ≡ n + 1 → KeepsNames first before
      → TakesDatagram (coming from before link_before) (Datagram len) into (coming from between link_now)
      → OnlyReads before between → PartOfOne t P c r n1 (take len into) between now
      → PartSoFar t P c from set first now link_first link_now
  part_of_more from set n n1 len into first before between now link_first link_before link_now r a b s room at names step
      reads (inl same) =
      part_so_far from set n (take len into ∷ []) first before now link_first link_before link_now r a b s room
      (omega arith)
      (λ address is. subst (λ (w : Way). HaveCome (take len into ∷ []) (coming w before link_before)
      (coming w between link_now)) is step) (same ∙ reads.files)
  part_of_more from set n n1 len into first before between now link_first link_before link_now r a b s room at names step
      reads (inr part) =
      let d = take len into in
      let same : between.target ≡ first.target = reads.target ∙ names.target in
      let front = part.2.0 in
      record {
        read = s.read ++ d ∷ [];
        text = s.text ++ part.0;
        front = s.text ++ front;
        few = omega (arith, length_push s.read d, s.many, room);
        from_front =
            came_first from (s.read ++ d ∷ []) [] first between link_first link_now link_now (omega arith)
            (omega (arith, length_push s.read d, s.many, room))
            (come_more s.read (coming from first link_first) (coming from before link_before)
            (coming from between link_now) d s.rest step) (λ address is. come_nothing link_now.feed);
        is_text =
            arrival_text set n n1 first before (coming from first link_first)
            (coming from before link_before) r d part.0 a b s at part.1;
        is_front = (part.2.1.0, ap (λ (t : List ℕ). s.text ++ t) part.2.1.1 ∙ sym (append_assoc s.text front part.2.1.0));
        puts = Grows-then first.target s.text front first.files before.files now.files s.puts
            (subst (λ (t : Option (List ℕ)). Grows t front before.files now.files) same
            (subst (λ (f : Option Files). Grows between.target front f now.files) reads.files part.2.2));
      }

  pub stopped_at_one : (stop : Stop) (from : Way) (set : KeptSet) (n n1 len : ℕ) (into : List ℕ)
      (first before between now : Seen) (link_first link_before link_now : LinkSeen) (r : ReceiverState E) (a b : ℕ)
      → SoFar t P c set n first before (coming from first link_first) (coming from before link_before) r a b
      → n < MAX_DATAGRAMS → n1 ≡ n + 1 → KeepsNames first before
      → TakesDatagram (coming from before link_before) (Datagram len) into (coming from between link_now)
      → OnlyReads before between → first.faults ≤ between.faults
      → Licensed (HadFault between now (Blames Written between.target)) stop
      → PartOfOne t P c r n1 (take len into) between now
      → StoppedSoFar t P c from set first now link_first link_now (stop_of_place stop)
  stopped_at_one place.NoMemory from set n n1 len into first before between now link_first link_before link_now r a b s
      room at names step reads later cause part =
      part_of_more from set n n1 len into first before between now link_first link_before link_now r a b s room at names
      step reads part
  stopped_at_one place.Failed from set n n1 len into first before between now link_first link_before link_now r a b s
      room at names step reads later cause part = inr (
        output_since first before between now names reads later cause,
        part_of_more from set n n1 len into first before between now link_first link_before link_now r a b s room at
            names step reads part,
      )

  -- what is to come stays, where only the output has grown
  pub put_since : (from : Way) (first between now : Seen) (link_first link_now : LinkSeen) (set : KeptSet) (n : ℕ)
      (r : ReceiverState E) (a b : ℕ) → now.rest ≡ between.rest
      → SoFar t P c set n first now (coming from first link_first) (coming from between link_now) r a b
      → SoFar t P c set n first now (coming from first link_first) (coming from now link_now) r a b
  put_since (OnFile name) first between now link_first link_now set n r a b rest s =
      subst (λ (o : Option (List ℕ)). SoFar t P c set n first now (option_map datagrams first.rest)
      (option_map datagrams o) r a b) (sym rest) s
  put_since (OnLink address) first between now link_first link_now set n r a b rest s = s
