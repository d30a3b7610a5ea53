-- Laws for the receivers of one format, which stand over this one.
use Rattle.std.specs.Prelude.{IfOk}
use Rattle.std.proofs.Common.{◌≡◌, ℕ, ◌+◌, ◌≤◌, List, Result, true, subst}
use Rattle.packet_frame.specs.declared.format.Format.{Format}
use Rattle.packet_frame.specs.Planned.{planned_fields}
use Rattle.pet_interp.specs.Progressive.{step_bound}
use Rattle.packet_verdicts.specs.KeptSet.{count_kept}
use Rattle.packet_verdicts.specs.Verdicts.{is_kept}
use Rattle.packet_verdicts.specs.declared.verdict.Verdict.{Verdict}
use Rattle.packet_receiver.specs.Arrivals.{ReceiverState, kept_set, stripe_lengths}

-- a datagram of the format that is kept takes at most the steps of one point more
abbrev pub TakesAtMost : {E B : Type 0} → Format → ReceiverState E → List ℕ → ℕ → ℕ → Result Verdict B → Type 0
TakesAtMost t state bytes before behind result =
    IfOk result (λ v. is_kept v ≡ true → behind ≤ before
    + step_bound (count_kept (kept_set state) (planned_fields t bytes).group)
    (stripe_lengths (planned_fields t bytes).layers))

-- so it is of a receiver of this format that is seen as this one
pub takes_at_most : {E B : Type 0} (t : Format) (core seen : ReceiverState E) (bytes : List ℕ) (before behind : ℕ)
    (result : Result Verdict B) → core.format ≡ t → core ≡ seen
    → TakesAtMost core.format core bytes before behind result → TakesAtMost t seen bytes before behind result
takes_at_most {E} t core seen bytes before behind result format same cost =
    subst (λ (s : ReceiverState E). TakesAtMost t s bytes before behind result) same
    (subst (λ (f : Format). TakesAtMost f core bytes before behind result) format cost)
