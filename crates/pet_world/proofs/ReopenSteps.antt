-- A receiver that is written and read again.
use Rattle.std.proofs.Common.{◌≡◌, ◌≢◌, ℕ, List, [], set, Result, Ok, Err, Some, refl, sym, ap, subst, ◌∙◌, arith}
use Rattle.std.specs.Prelude.{slice_get}
use Rattle.field_elements.specs.Field.{Coding}
use Rattle.packet_session.specs.Session.{Session}
use Rattle.packet_verdicts.specs.KeptSet.{KeptSet}
use Rattle.pet_receive.specs.Arrivals.{ReceiverState, kept_set}
use Rattle.store_text.specs.declared.fault.BadStore.{BadStore}
use Rattle.store_text.specs.declared.fault.BadStore.TheVariants as bad_store
use Rattle.store_merge.specs.Reading.{store_steps}
use Rattle.store_text.specs.Store.{store_text}
use Rattle.store_text.specs.Refusals.{read_text}
use Rattle.pet_base.specs.declared.event.Event.TheVariants.{Reopen}
use Rattle.pet_base.specs.declared.event.Shown.{Shown}
use Rattle.pet_world.specs.ReceivedSets.{set_of, shown_to, sets_after, shown_by_event}
use Rattle.pet_world.specs.World.{WorldState, IsCarriedOut, IsWorld}
use Rattle.packet_met.specs.laws.ExactlyKept.{KeepsExactly, store_is_read}
use Rattle.packet_met.specs.EncodedSession.{encoded_session}
use Rattle.pet_world.specs.inside.Receivers.{Reopens, CannotReopen}
use Rattle.packet_met.specs.laws.SamePairs.{none_shown}
use Rattle.pet_world.proofs.OneEvent.{Facts, facts, moved, kept_is}

bad_by : (fault : BadStore) → (fault ≢ bad_store.NoMemory → ⊥) → fault ≡ bad_store.NoMemory
bad_by (bad_store.At at kind) not_so = absurd (not_so (λ e. cc))
bad_by bad_store.NoMemory not_so = refl

abbrev good : KeptSet → Result KeptSet BadStore
good k = Ok k

abbrev bad : BadStore → Result KeptSet BadStore
bad fault = Err fault

ok_same : (a b : KeptSet) → good a ≡ Ok b → a ≡ b
ok_same a b e = cc

ok_err : {P : Type 0} (a : KeptSet) (fault : BadStore) → good a ≡ Err fault → P
ok_err a fault e = cc

module _ {E : Type 0} (count : ℕ) (c : Coding E) (w : WorldState E) (is : IsWorld count c w) where
  abbrev s : Session
  s = encoded_session w.encoders

  abbrev with_receivers : List (ReceiverState E) → WorldState E
  with_receivers new = record w { receivers = new }

  module _ (receiver : ℕ) (mine : ReceiverState E) (at : slice_get w.receivers receiver ≡ Some mine) where
    read_back : read_text w.limit (store_text (kept_set mine)) ≡ Ok (kept_set mine)
    read_back =
        store_is_read c s w.limit (set_of is.met.0 receiver) (kept_set mine) (is.met.1.each receiver mine at) is.session

    pub reopen_refused : {P : Type 0} (fault : BadStore) → read_text w.limit (store_text (kept_set mine)) ≡ Err fault
        → P
    reopen_refused fault e = ok_err (kept_set mine) fault (sym read_back ∙ e)

    pub reopened : (again : ReceiverState E) → read_text w.limit (store_text (kept_set mine)) ≡ Ok (kept_set again)
        → kept_set again ≡ kept_set mine
    reopened again e = ok_same (kept_set again) (kept_set mine) (sym e ∙ read_back)

    pub reopen_step : (again : ReceiverState E) (new : List (ReceiverState E))
        → read_text w.limit (store_text (kept_set mine)) ≡ Ok (kept_set again) → new ≡ set w.receivers receiver again
        → IsCarriedOut c w (Reopen receiver) [] (with_receivers new)
    unfolding sets_after shown_by_event
    reopen_step again new e put = record {
      encoders = refl;
      limit = refl;
      stepped =
          λ sets met.
          let a = set_of sets receiver in (
            moved count c w is sets receiver again mine a new met at put
                (subst (λ (k : KeptSet). KeepsExactly c s w.limit a k) (sym (reopened again e))
                (met.each receiver mine at)),
            sym (ap (shown_to receiver) (none_shown s a a (λ g n. refl))),
          );
    }

  pub reopen_facts : (receiver here limit : ℕ) (old new : List (ReceiverState E)) (shown : List Shown)
      (before past : ℕ) → here ≡ receiver → limit ≡ w.limit → old ≡ w.receivers → shown ≡ []
      → Reopens old here limit new before past → Facts count c w (Reopen receiver) shown new before past
  reopen_facts receiver here limit old new shown before past here_is limit_is old_is none t =
      let t_is = subst (λ (x : List (ReceiverState E)). Reopens x receiver w.limit new before past) old_is
      (subst (λ (n : ℕ). Reopens old receiver n new before past) limit_is
      (subst (λ (i : ℕ). Reopens old i limit new before past) here_is t)) in
      let stepped = reopen_step receiver t_is.mine t_is.mine_is t_is.later new t_is.read t_is.new_is in
      let same = ap store_steps (reopened receiver t_is.mine t_is.mine_is t_is.later t_is.read
      ∙ sym (kept_is count c w is receiver t_is.mine t_is.mine_is)) in
      facts count c w is (Reopen receiver) shown new before past
      (subst (λ (l : List Shown). IsCarriedOut c w (Reopen receiver) l (record w { receivers = new }))
      (sym none) stepped)
      (omega (arith, t_is.cost, same))

  pub only_memory_read : (here limit : ℕ) (old : List (ReceiverState E)) (fault : BadStore) → limit ≡ w.limit
      → old ≡ w.receivers → (fault ≢ bad_store.NoMemory → CannotReopen old here limit fault)
      → fault ≡ bad_store.NoMemory
  only_memory_read here limit old fault limit_is old_is cannot =
      bad_by fault
      (λ no.
      let t = subst (λ (x : List (ReceiverState E)). CannotReopen x here w.limit fault) old_is
      (subst (λ (n : ℕ). CannotReopen old here n fault) limit_is (cannot no)) in
      reopen_refused here t.mine t.mine_is fault t.refused)
