-- One receiver of a world: what it leaves of the list of all.
use Rattle.std.proofs.Common.{◌≡◌, ◌≢◌, ℕ, zero, suc, ◌+◌, ◌≤◌, Bool, true, false, List, [], ◌∷◌, set, Result, Ok, Err}
use Rattle.std.proofs.Common.{Some, refl, sym, ap, ◌∙◌, arith}
use Rattle.std.specs.Prelude.{slice_get, IfOk, IfErr, OnOk, OnErr}
use Rattle.std.proofs.lemmas.List.{set-get_or}
use Rattle.std.proofs.lemmas.Option.{get_or_from_slice_get}
use Rattle.pet_interp.specs.Progressive.{step_bound}
use Rattle.packet_frame.specs.Refusals.{fields_of}
use Rattle.pet_base.specs.declared.faults.NoMemory.{NoMemory}
use Rattle.packet_verdicts.specs.declared.verdict.Verdict.{Verdict}
use Rattle.packet_verdicts.specs.declared.union.Absorb.{Absorb}
use Rattle.packet_verdicts.specs.declared.union.Absorb.TheVariants as absorb
use Rattle.packet_verdicts.specs.KeptSet.{KeptSet, count_kept}
use Rattle.packet_verdicts.specs.Verdicts as V
use Rattle.packet_verdicts.specs.Union.{union, absorb_fault, shown_by_union}
use Rattle.pet_receive.specs.Arrivals.{ReceiverState, kept_set, stripe_lengths}
use Rattle.pet_receive.specs.UnionSteps.{union_steps}
use Rattle.store_text.specs.Store.{store_text}
use Rattle.store_text.specs.Refusals.{read_text}
use Rattle.store_text.specs.declared.fault.BadStore.{BadStore}
use Rattle.store_merge.specs.Reading.{store_steps}
use Rattle.pet_world.specs.laws.ManyEvents.{slice_set_other}
use Rattle.pet_world.specs.inside.Receivers.{Accepts, Takes, CannotTake, Reopens, CannotReopen, accept_steps, set_after}
use Rattle.pet_world.specs.inside.Receivers.{verdict_on}

-- the steps, by whether the datagram is kept
cost_by : (set : KeptSet) (bytes : List ℕ) (before past : ℕ) (b : Bool) → V.is_kept (V.verdict_of set bytes) ≡ b
    → (b ≡ false → past ≡ before)
    → (b ≡ true
    → past ≤ before + step_bound (count_kept set (fields_of bytes).group) (stripe_lengths (fields_of bytes).layers))
    → past ≤ before + accept_steps set bytes
unfolding accept_steps
cost_by set bytes before past true is out kept = rw is (kept refl)
cost_by set bytes before past false is out kept = rw is (omega (arith, out refl))

module _ {E : Type 0} (old : List (ReceiverState E)) (here : ℕ) (mine : ReceiverState E)
    (found : slice_get old here ≡ Some mine) where
  pub accepted : (later : ReceiverState E) (bytes : List ℕ) (before past : ℕ) (r : Result Verdict NoMemory)
      → IfOk r (λ v. v ≡ V.verdict_of (kept_set mine) bytes) → OnOk r (kept_set later ≡ V.after (kept_set mine) bytes)
      → IfOk r (λ v. V.is_kept v ≡ false → (later ≡ mine) × (past ≡ before))
      → IfOk r (λ v. V.is_kept v ≡ true
      → past ≤ before
      + step_bound (count_kept (kept_set mine) (fields_of bytes).group) (stripe_lengths (fields_of bytes).layers))
      → IfOk r (λ v. Accepts old here bytes v (set old here later) before past)
  unfolding set_after verdict_on
  accepted later bytes before past (Err e) verdict kept out cost = tt
  accepted later bytes before past (Ok v) verdict kept out cost = record {
    mine = mine;
    mine_is = found;
    later = later;
    new_is = refl;
    verdict_is = verdict;
    kept = kept;
    cost =
        cost_by (kept_set mine) bytes before past (V.is_kept (V.verdict_of (kept_set mine) bytes)) refl
        (λ no. (out (ap V.is_kept verdict ∙ no)).1) (λ yes. cost (ap V.is_kept verdict ∙ yes));
  }

  pub reopened_one : (later : ReceiverState E) (limit : ℕ) (bytes : List ℕ) (new : List (ReceiverState E))
      (before past : ℕ) → bytes ≡ store_text (kept_set mine) → read_text limit bytes ≡ Ok (kept_set later)
      → new ≡ set old here later
      → past ≤ before + store_steps (kept_set later) → Reopens old here limit new before past
  reopened_one later limit bytes new before past is read put cost =
      record {
        mine = mine;
        mine_is = found;
        later = later;
        new_is = put;
        read = ap (read_text limit) (sym is) ∙ read;
        cost = cost;
      }

  pub not_reopened : (limit : ℕ) (bytes : List ℕ) (fault : BadStore) → bytes ≡ store_text (kept_set mine)
      → read_text limit bytes ≡ Err fault → CannotReopen old here limit fault
  not_reopened limit bytes fault is read =
      record { mine = mine; mine_is = found; refused = ap (read_text limit) (sym is) ∙ read }

  -- where nothing has changed
  pub unchanged : (later : ReceiverState E) → later ≡ mine → set old here later ≡ old
  unchanged later same =
      ap (λ (x : ReceiverState E). set old here x) (same ∙ sym (get_or_from_slice_get old here mine mine found))
      ∙ set-get_or old here mine

set_twice : {A : Type 0} (xs : List A) (i : ℕ) (a b : A) → set (set xs i a) i b ≡ set xs i b
set_twice [] i a b = refl
set_twice (x ∷ xs) zero a b = refl
set_twice (x ∷ xs) (suc i) a b = ap (λ (t : List _). x ∷ t) (set_twice xs i a b)

module _ {E : Type 0} (old : List (ReceiverState E)) (here there : ℕ) (mine theirs empty : ReceiverState E)
    (apart : here ≢ there)
    (found : slice_get old here ≡ Some mine) (there_is : slice_get (set old here empty) there ≡ Some theirs) where
  other : slice_get old there ≡ Some theirs
  other = sym (slice_set_other old here there empty (λ same. apart (sym same))) ∙ there_is

  pub taken : {A : Type 0} (pairs : A → List (ℕ × ℕ)) (later : ReceiverState E) (new : List (ReceiverState E))
      (before past : ℕ) (r : Result A Absorb) → new ≡ set (set old here empty) here later
      → OnOk r (kept_set later ≡ union (kept_set mine) (kept_set theirs))
      → IfOk r (λ shown. pairs shown ≡ shown_by_union (kept_set mine) (kept_set theirs))
      → OnOk r (past ≤ before + union_steps (kept_set mine) (kept_set theirs))
      → IfOk r (λ shown. Takes old here there (pairs shown) new before past)
  taken pairs later new before past (Err e) put kept shown cost = tt
  taken pairs later new before past (Ok v) put kept shown cost = record {
    mine = mine;
    mine_is = found;
    theirs = theirs;
    theirs_is = other;
    later = later;
    new_is = put ∙ set_twice old here empty later;
    kept = kept;
    shown_is = shown;
    cost = cost;
  }

  pub not_taken : {A : Type 0} (r : Result A Absorb)
      → IfErr r (λ fault. fault ≢ absorb.NoMemory → absorb_fault (kept_set mine) (kept_set theirs) ≡ Some fault)
      → IfErr r (λ fault. fault ≢ absorb.NoMemory → CannotTake old here there fault)
  not_taken (Ok v) refused = tt
  not_taken (Err fault) refused = λ no. record {
    mine = mine;
    mine_is = found;
    theirs = theirs;
    theirs_is = other;
    refused = refused no;
  }

  pub put_back : (later : ReceiverState E) → later ≡ mine → set (set old here empty) here later ≡ old
  put_back later same = set_twice old here empty later ∙ unchanged old here mine found later same

pub if_err : {A X : Type 0} {P Q : Type 0} (r : Result A X) → (P → Q) → OnErr r P → OnErr r Q
if_err (Ok v) to e = tt
if_err (Err x) to e = to e
