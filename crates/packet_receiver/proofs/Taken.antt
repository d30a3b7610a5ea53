-- What a receiver is that has taken in all of another, for both as they are seen.
use Rattle.std.proofs.Common.{◌≡◌, ℕ, ◌+◌, ◌≤◌, List, ◌++◌, Option, None, ap₂, ◌∙◌, subst}
use Rattle.std.specs.Option.{option_or}
use Rattle.field_elements.specs.Field.{Coding}
use Rattle.packet_verdicts.specs.KeptSet.{cost_kept}
use Rattle.packet_verdicts.specs.Union.{absorb_fault, new_pairs, union}
use Rattle.packet_receiver.specs.Arrivals.{GroupState, ReceiverState, Order, HasKept, kept_set}
use Rattle.packet_receiver.specs.Receiving.{IsReceiver}
use Rattle.packet_receiver.specs.UnionSteps.{union_steps}
use Rattle.packet_receiver.specs.inside.Joining.{OpensAll, JoinsAll, CanJoin}
use Rattle.packet_receiver.proofs.Absorbed.{can_take, taken_set, taken_order, taken_steps, taken_again}

pub record HasTaken {E : Type 0} (P : E → Type 0) (count : ℕ) (c : Coding E) (r o taken : ReceiverState E)
    (told : Option ℕ) (steps more : ℕ) : Type 0 where
  pub set : kept_set taken ≡ union (kept_set r) (kept_set o)
  pub order : (by : Order) → HasKept P c r by → HasKept P c taken (by ++ new_pairs (kept_set r) (kept_set o))
  pub cost : more ≤ steps + union_steps (kept_set r) (kept_set o)
  pub again : (n : ℕ) → n ≡ cost_kept (union (kept_set r) (kept_set o)) → IsReceiver P count c taken told n

-- by the fields of both, for the receivers as they are seen
module _ {E : Type 0} {P : E → Type 0} {count : ℕ} {c : Coding E} {r o v w : ReceiverState E} {told there : Option ℕ}
    {cost costs : ℕ} (two : c.width ≡ 2) (h : IsReceiver P count c r told cost) (ho : IsReceiver P count c o there costs)
    (is : r ≡ v) (is_other : o ≡ w) (fit : absorb_fault (kept_set v) (kept_set w) ≡ None)
    (opened : List (ℕ × GroupState E)) (all : OpensAll P c r.groups o.groups opened) where
  fits : absorb_fault (kept_set r) (kept_set o) ≡ None
  fits = ap₂ (λ (s t : ReceiverState E). absorb_fault (kept_set s) (kept_set t)) is is_other ∙ fit

  pub take_seen : CanJoin P c opened o.groups
  take_seen = can_take P count c r o told there cost costs two h ho fits opened all

  pub taken_seen : (steps : ℕ) (final : List (ℕ × GroupState E)) (more : ℕ)
      → JoinsAll P c opened steps o.groups final more
      → HasTaken P count c v w (record { format = r.format; session = r.session; limit = r.limit; groups = final })
      (option_or told there) steps more
  taken_seen steps final more joins =
      let taken : ReceiverState E =
      record { format = r.format; session = r.session; limit = r.limit; groups = final } in
      let here : HasTaken P count c r o taken (option_or told there) steps more = record {
        set = taken_set P count c r o told there cost costs two h ho fits opened all steps final more joins;
        order = taken_order P count c r o told there cost costs two h ho fits opened all steps final more joins;
        cost = taken_steps P count c r o told there cost costs two h ho fits opened all steps final more joins;
        again = taken_again P count c r o told there cost costs two h ho fits opened all steps final more joins;
      } in
      subst (λ (s : ReceiverState E). HasTaken P count c s w taken (option_or told there) steps more) is
      (subst (λ (t : ReceiverState E). HasTaken P count c r t taken (option_or told there) steps more) is_other here)
