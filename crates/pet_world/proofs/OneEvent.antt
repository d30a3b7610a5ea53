-- What every event leaves: a world again, with what is shown in order.
use Rattle.std.proofs.Common.{◌≡◌, ℕ, ◌+◌, ◌≤◌, List, [], ◌++◌, length, set, take, drop, Some, Option, sym, ap, subst}
use Rattle.std.specs.Prelude.{slice_get, option_map, unwrap_or}
use Rattle.std.proofs.lemmas.Option.{slice_get_within}
use Rattle.std.proofs.lemmas.List.{take_at}
use Rattle.field_elements.specs.Field.{Coding}
use Rattle.packet_session.specs.Session.{Session}
use Rattle.packet_verdicts.specs.KeptSet.{empty_set}
use Rattle.pet_receive.specs.Arrivals.{ReceiverState, kept_set}
use Rattle.packet_met.specs.Met.{Pair}
use Rattle.pet_base.specs.declared.event.Event.{Event}
use Rattle.pet_base.specs.declared.event.Shown.{Shown}
use Rattle.pet_world.specs.ReceivedSets.{AreInOrder, Sets, sets_after}
use Rattle.pet_world.specs.World.{WorldState, world_of, HaveMet, IsCarriedOut, IsWorld, kept_at, event_steps}
use Rattle.packet_met.specs.laws.ExactlyKept.{KeepsExactly}
use Rattle.packet_met.specs.EncodedSession.{encoded_session}
use Rattle.pet_world.specs.laws.InOrder.{shown_in_order}
use Rattle.pet_world.specs.laws.ManyEvents.{met_set}
use Rattle.pet_world.specs.inside.EventDone.{IsDone}

module _ {E : Type 0} (count : ℕ) (c : Coding E) (w : WorldState E) (is : IsWorld count c w) where
  abbrev s : Session
  s = encoded_session w.encoders

  -- the world with other receivers
  abbrev pub with_receivers : List (ReceiverState E) → WorldState E
  with_receivers new = record w { receivers = new }

  -- and what is shown is in order
  pub in_order : (event : Event) (shown : List Shown) (v : WorldState E) → IsCarriedOut c w event shown v
      → AreInOrder shown
  in_order event shown v step =
      subst AreInOrder (sym (step.stepped is.met.0 is.met.1).1) (shown_in_order s is.met.0 event)

  -- it is a world again
  pub world_again : (event : Event) (shown : List Shown) (new : List (ReceiverState E))
      → IsCarriedOut c w event shown (with_receivers new) → IsWorld count c (with_receivers new)
  world_again event shown new step = record {
    two = is.two;
    points = is.points;
    session = is.session;
    encoders = is.encoders;
    fits = is.fits;
    met = (sets_after is.met.0 event, (step.stepped is.met.0 is.met.1).0);
  }

  pub moved : (sets : Sets) (receiver : ℕ) (r mine : ReceiverState E) (pairs : List Pair)
      (new : List (ReceiverState E)) → HaveMet c w sets → slice_get w.receivers receiver ≡ Some mine
      → new ≡ set w.receivers receiver r
      → KeepsExactly c s w.limit pairs (kept_set r) → HaveMet c (with_receivers new) (set sets receiver pairs)
  moved sets receiver r mine pairs new met at put has =
      subst (λ (xs : List (ReceiverState E)). HaveMet c (with_receivers xs) (set sets receiver pairs)) (sym put)
      (met_set c w sets receiver r pairs met (slice_get_within w.receivers receiver mine at) has)

  -- what a receiver has kept
  pub kept_is : (receiver : ℕ) (mine : ReceiverState E) → slice_get w.receivers receiver ≡ Some mine
      → kept_at w receiver ≡ kept_set mine
  kept_is receiver mine at =
      ap (λ (o : Option (ReceiverState E)). unwrap_or (option_map (λ r. kept_set r) o) (empty_set [] 0)) at

-- a list of the same length, written over all the items of a vector
pub lent_back : {A : Type 0} (new items : List A) (len : ℕ) → length new ≡ len
    → take len (new ++ drop (length new) items) ≡ new
lent_back new items len long = take_at new (drop (length new) items) len long

-- what an event leaves, of the lists that the calls were lent
pub record Facts {E : Type 0} (count : ℕ) (c : Coding E) (w : WorldState E) (event : Event) (shown : List Shown)
    (new : List (ReceiverState E)) (before past : ℕ) : Type 0 where
  pub done : IsDone c w event shown (record w { receivers = new }) before past
  pub again : IsWorld count c (record w { receivers = new })

module _ {E : Type 0} (count : ℕ) (c : Coding E) (w : WorldState E) (is : IsWorld count c w) where
  pub facts : (event : Event) (shown : List Shown) (new : List (ReceiverState E)) (before past : ℕ)
      → IsCarriedOut c w event shown (record w { receivers = new }) → past ≤ before + event_steps w event
      → Facts count c w event shown new before past
  facts event shown new before past step cost = record {
    done =
        record {
          step = step;
          order = in_order count c w is event shown (record w { receivers = new }) step;
          cost = cost;
        };
    again = world_again count c w is event shown new step;
  }

-- the same of a vector whose items were lent and written over
module _ {E : Type 0} (count : ℕ) (c : Coding E) (w : WorldState E) (event : Event) (shown : List Shown)
    (new items : List (ReceiverState E)) (len before past : ℕ) (long : length new ≡ len)
    (f : Facts count c w event shown new before past) where
  pub lent_again : IsWorld count c (world_of w.encoders w.limit (take len (new ++ drop (length new) items)))
  lent_again =
      subst (λ (xs : List (ReceiverState E)). IsWorld count c (world_of w.encoders w.limit xs))
      (sym (lent_back new items len long)) f.again

  pub lent_done : (v : WorldState E) → w ≡ v
      → IsDone c v event shown (world_of w.encoders w.limit (take len (new ++ drop (length new) items))) before past
  lent_done v same =
      subst (λ (xs : List (ReceiverState E)). IsDone c v event shown (world_of w.encoders w.limit xs) before past)
      (sym (lent_back new items len long))
      (subst (λ (x : WorldState E). IsDone c x event shown (record w { receivers = new }) before past) same f.done)
