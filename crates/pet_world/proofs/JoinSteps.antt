-- A receiver that takes in another.
use Rattle.std.proofs.Common.{◌≡◌, ◌≢◌, ℕ, zero, suc, ◌+◌, ◌<◌, ◌≤◌, List, [], ◌∷◌, ◌++◌, length, set, None, Some}
use Rattle.std.proofs.Common.{Option, refl, sym, ap, ap₂, subst, ◌∙◌, arith}
use Rattle.std.specs.Prelude.{slice_get, sum_by}
use Rattle.std.proofs.lemmas.Option.{get_or_from_slice_get}
use Rattle.std.proofs.lemmas.List.{set-get_or}
use Rattle.field_elements.specs.Field.{Coding}
use Rattle.packet_session.specs.Session.{Session}
use Rattle.packet_session.specs.Encoding.{Encoding}
use Rattle.packet_verdicts.specs.declared.union.Absorb.{Absorb}
use Rattle.packet_verdicts.specs.KeptSet.{KeptSet}
use Rattle.packet_verdicts.specs.Union.{union}
use Rattle.packet_verdicts.specs.laws.UnionKept.{union_sound}
use Rattle.packet_verdicts.specs.laws.FitExactly.{fit_agrees, fit_within}
use Rattle.pet_receive.specs.Arrivals.{ReceiverState, kept_set}
use Rattle.packet_verdicts.specs.declared.union.Absorb.TheVariants as absorb
use Rattle.packet_met.specs.Met.{Pair, newly_shown_in}
use Rattle.packet_met.specs.laws.DatagramMore.{made}
use Rattle.packet_met.specs.laws.JoinedAreMet.{union_follows, can_be_joined}
use Rattle.pet_base.specs.declared.event.Event.TheVariants.{Join}
use Rattle.pet_base.specs.declared.event.Shown.{Shown}
use Rattle.pet_world.specs.ReceivedSets.{AreInOrder, Sets, set_of, shown_to, sets_after, shown_by_event}
use Rattle.pet_world.specs.World.{WorldState, HaveMet, IsCarriedOut, IsWorld, event_steps}
use Rattle.packet_met.specs.laws.ExactlyKept.{KeepsExactly}
use Rattle.packet_met.specs.EncodedSession.{encoded_session}
use Rattle.pet_world.specs.inside.Receivers.{Takes, CannotTake}
use Rattle.packet_met.specs.laws.SamePairs.{follows_same, none_shown, with_itself}
use Rattle.packet_met.specs.laws.JoinedShown.{joined_shown}
use Rattle.pet_world.proofs.FewLayers.{few_shown}
use Rattle.pet_world.proofs.OneEvent.{Facts, facts, in_order, moved, kept_is}
use Rattle.pet_world.specs.inside.EventDone.{IsDone}

none_some : {P : Type 0} (fault : Absorb) → None ≡ Some fault → P
none_some fault e = cc

absorb_by : (fault : Absorb) → (fault ≢ absorb.NoMemory → ⊥) → fault ≡ absorb.NoMemory
absorb_by absorb.OtherSession not_so = absurd (not_so (λ e. cc))
absorb_by (absorb.Clash group number) not_so = absurd (not_so (λ e. cc))
absorb_by (absorb.Full group) not_so = absurd (not_so (λ e. cc))
absorb_by absorb.NoMemory not_so = refl

module _ {E : Type 0} (count : ℕ) (c : Coding E) (w : WorldState E) (is : IsWorld count c w) where
  abbrev s : Session
  s = encoded_session w.encoders

  abbrev with_receivers : List (ReceiverState E) → WorldState E
  with_receivers new = record w { receivers = new }

  module _ (receiver other : ℕ) (shown : List (ℕ × ℕ)) (new : List (ReceiverState E)) (before past : ℕ)
      (t : Takes w.receivers receiver other shown new before past) where
    joined : (sets : Sets) → HaveMet c w sets
        → KeepsExactly c s w.limit (set_of sets receiver ++ set_of sets other) (kept_set t.later)
    joined sets met =
        let mine = met.each receiver t.mine t.mine_is in
        let theirs = met.each other t.theirs t.theirs_is in
        let a = set_of sets receiver in
        let b = set_of sets other in
        let k = kept_set t.mine in
        let l = kept_set t.theirs in
        let fit = can_be_joined c s w.limit w.limit a b k l mine.follows theirs.follows is.fits in
        let agrees = fit_agrees k l mine.sound theirs.sound fit in
        let both : KeepsExactly c s w.limit (a ++ b) (union k l) = record {
          sound = union_sound k l mine.sound theirs.sound agrees (fit_within k l mine.sound theirs.sound fit);
          follows = union_follows (made c) s w.limit w.limit a b k l mine.follows theirs.follows;
        } in
        subst (λ (x : KeptSet). KeepsExactly c s w.limit (a ++ b) x) (sym t.kept) both

    shown_is : (sets : Sets) → HaveMet c w sets
        → shown ≡ newly_shown_in s (set_of sets receiver) (set_of sets receiver ++ set_of sets other)
    shown_is sets met =
        let mine = met.each receiver t.mine t.mine_is in
        let theirs = met.each other t.theirs t.theirs_is in
        t.shown_is ∙ joined_shown (made c) s w.limit w.limit (set_of sets receiver) (set_of sets other)
        (kept_set t.mine) (kept_set t.theirs) mine.follows theirs.follows

    pub join_step : IsCarriedOut c w (Join receiver other) (shown_to receiver shown) (with_receivers new)
    unfolding sets_after shown_by_event
    join_step = record {
      encoders = refl;
      limit = refl;
      stepped =
          λ sets met. (
            moved count c w is sets receiver t.later t.mine
                (set_of sets receiver ++ set_of sets other) new met t.mine_is t.new_is (joined sets met),
            ap (shown_to receiver) (shown_is sets met),
          );
    }

    pub join_few : length shown ≤ sum_by (λ g. length g.layers) s.groups
    join_few =
        let sets = is.met.0 in
        let a = set_of sets receiver in
        let b = set_of sets other in
        omega (arith, ap (λ (l : List (ℕ × ℕ)). length l) (shown_is sets is.met.1), few_shown s a (a ++ b))

    pub join_cost : past ≤ before + event_steps w (Join receiver other)
    join_cost =
        let same = ap₂ Rattle.pet_receive.specs.UnionSteps.union_steps (kept_is count c w is receiver t.mine t.mine_is)
        (kept_is count c w is other t.theirs t.theirs_is) in
        omega (arith, t.cost, same)

  -- two receivers of one session can always be joined
  pub join_refused : {P : Type 0} (receiver other : ℕ) (fault : Absorb) → CannotTake w.receivers receiver other fault
      → P
  join_refused receiver other fault t =
      let sets = is.met.0 in
      let mine = is.met.1.each receiver t.mine t.mine_is in
      let theirs = is.met.1.each other t.theirs t.theirs_is in
      none_some fault (sym (can_be_joined c s w.limit w.limit (set_of sets receiver) (set_of sets other)
      (kept_set t.mine) (kept_set t.theirs) mine.follows theirs.follows is.fits) ∙ t.refused)

  -- a join with itself changes nothing
  pub itself_step : (receiver other : ℕ) → receiver ≡ other → receiver < length w.receivers
      → IsCarriedOut c w (Join receiver other) [] w
  unfolding sets_after shown_by_event
  itself_step receiver other same lt = record {
    encoders = refl;
    limit = refl;
    stepped =
        λ sets met.
        let a = set_of sets receiver in
        let b = set_of sets other in
        let twice : a ++ a ≡ a ++ b = ap (λ (i : ℕ). a ++ set_of sets i) same in (
          at sets met (a ++ b) (λ r had. subst (λ (p : List Pair). KeepsExactly c s w.limit p (kept_set r)) twice
              (record {
                sound = had.sound;
                follows = follows_same (made c) s w.limit a (a ++ a) (kept_set r) (with_itself a) had.follows;
              })),
          sym (ap (shown_to receiver) (ap (newly_shown_in s a) (sym twice) ∙ none_shown s a (a ++ a) (with_itself a))),
        );
  }
    where
      at : (sets : Sets) → HaveMet c w sets → (pairs : List Pair)
          → ((r : ReceiverState E) → KeepsExactly c s w.limit (set_of sets receiver) (kept_set r)
          → KeepsExactly c s w.limit pairs (kept_set r)) → HaveMet c w (set sets receiver pairs)
      at sets met pairs to = by (slice_get w.receivers receiver) refl
        where
          by : (o : Option (ReceiverState E)) → slice_get w.receivers receiver ≡ o
              → HaveMet c w (set sets receiver pairs)
          by None e = absurd (none_here w.receivers receiver e lt)
            where
              none_here : (xs : List (ReceiverState E)) (i : ℕ) → slice_get xs i ≡ None → i < length xs → ⊥
              none_here [] i e l = omega arith
              none_here (x ∷ xs) zero e l = cc
              none_here (x ∷ xs) (suc i) e l = none_here xs i e (omega arith)
          by (Some r) e =
              moved count c w is sets receiver r r pairs w.receivers met e
              (sym (ap (λ (x : ReceiverState E). set w.receivers receiver x)
              (sym (get_or_from_slice_get w.receivers receiver r r e)) ∙ set-get_or w.receivers receiver r))
              (to r (met.each receiver r e))

  pub itself_done : (receiver other : ℕ) (shown : List Shown) (steps : ℕ) → receiver ≡ other
      → receiver < length w.receivers → shown ≡ [] → IsDone c w (Join receiver other) shown w steps steps
  itself_done receiver other shown steps same lt none =
      let step = itself_step receiver other same lt in
      record {
        step = subst (λ (l : List Shown). IsCarriedOut c w (Join receiver other) l w) (sym none) step;
        order = subst AreInOrder (sym none) (in_order count c w is (Join receiver other) [] w step);
        cost = omega arith;
      }

  pub join_facts : (receiver here other there : ℕ) (pairs : List (ℕ × ℕ)) (old new : List (ReceiverState E))
      (shown : List Shown) (before past : ℕ) → here ≡ receiver → there ≡ other → old ≡ w.receivers
      → shown ≡ shown_to receiver pairs
      → Takes old here there pairs new before past → Facts count c w (Join receiver other) shown new before past
  join_facts receiver here other there pairs old new shown before past here_is there_is old_is shown_are t =
      let t_is = subst (λ (x : List (ReceiverState E)). Takes x receiver other pairs new before past) old_is
      (subst (λ (i : ℕ). Takes old receiver i pairs new before past) there_is
      (subst (λ (i : ℕ). Takes old i there pairs new before past) here_is t)) in
      let stepped = join_step receiver other pairs new before past t_is in
      facts count c w is (Join receiver other) shown new before past
      (subst (λ (l : List Shown). IsCarriedOut c w (Join receiver other) l (record w { receivers = new }))
      (sym shown_are) stepped)
      (join_cost receiver other pairs new before past t_is)

  pub join_room : (receiver here other there : ℕ) (es : List Encoding) (pairs : List (ℕ × ℕ))
      (old new : List (ReceiverState E)) (most before past : ℕ) → here ≡ receiver → there ≡ other → es ≡ w.encoders
      → old ≡ w.receivers
      → most ≡ sum_by (λ g. length g.layers) (encoded_session es).groups → Takes old here there pairs new before past
      → length pairs ≤ most
  join_room receiver here other there es pairs old new most before past here_is there_is es_are old_is most_is t =
      let t_is = subst (λ (x : List (ReceiverState E)). Takes x receiver other pairs new before past) old_is
      (subst (λ (i : ℕ). Takes old receiver i pairs new before past) there_is
      (subst (λ (i : ℕ). Takes old i there pairs new before past) here_is t)) in
      omega (
        arith,
        join_few receiver other pairs new before past t_is,
        most_is,
        ap (λ (x : List Encoding). sum_by (λ g. length g.layers) (encoded_session x).groups) es_are,
      )

  -- so want of memory is the only fault
  pub only_memory : (here there : ℕ) (old : List (ReceiverState E)) (fault : Absorb) → old ≡ w.receivers
      → (fault ≢ absorb.NoMemory → CannotTake old here there fault) → fault ≡ absorb.NoMemory
  only_memory here there old fault old_is cannot =
      absorb_by fault (λ no. join_refused here there fault
      (subst (λ (x : List (ReceiverState E)). CannotTake x here there fault) old_is (cannot no)))
