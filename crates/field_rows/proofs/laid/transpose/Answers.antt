use Rattle.std.proofs.Common.{◌≡◌, ◌+◌, ◌-◌, ◌*◌, ◌≤◌, inl, inr, length, get_or, take, drop, refl, ◌∙◌, ap, sym, arith}
use native.Mathlib.Nat.{mul_comm}
use Rattle.std.proofs.lemmas.Bool.{cases_lt}
use Rattle.std.proofs.lemmas.List.{get_or-take, get_or-drop, length-take-le, length-drop}
use Rattle.field_rows.specs.laws.PlaceLaws.{more_rows, rows_le}
use Rattle.field_rows.proofs.laid.transpose.Goals as goal

pub loop-c-preserved : goal.loop-c-preserved
loop-c-preserved g c =
    let from = c.args.from.now in
    let w = c.args.width in
    let k = c.args.count in
    let n = c.loop-c.c in
    let start = c.loop-c.start in
    let size = start + k - start in
    let place : start ≡ n * k = c.loop-c.invariant.place in
    let room : start + k
    ≤ length from = omega (arith, c.requires.from, mul_comm k w, more_rows n k, rows_le (n + 1) w k (omega arith)) in
    let part : length (take size (drop start from)) ≡ k =
    length-take-le size (drop start from) (omega (arith, length-drop start from)) ∙ omega arith in
    record {
      place = ap (λ t. t + k) place ∙ sym (more_rows n k);
      long = c.scatter.auto.into ∙ c.loop-c.invariant.long;
      done =
          λ d m j l h.
          elim (cases_lt m n) [
            | inl p ↦ c.scatter.ensures.others d j m (omega arith) (λ q. absurd (omega arith))
                ∙ c.loop-c.invariant.done d m j p h
            | inr p ↦
                let e : m ≡ n = omega arith in
                ap (λ t. get_or c.scatter.new.into (j * w + t) d) e ∙ c.scatter.ensures.written d j (rw part h)
                ∙ get_or-take size (drop start from) j d (omega arith) ∙ get_or-drop start from j d
                ∙ ap (λ t. get_or from (t + j) d) (place ∙ ap (λ t. t * k) (sym e))
          ];
    }

pub loop-c-init : goal.loop-c-init
loop-c-init g c = record { place = omega arith; long = refl; done = λ d n j l h. absurd (omega arith) }

pub returns : goal.returns
returns g c = λ d n j l h. c.loop-c.invariant.done d n j (omega arith) h
