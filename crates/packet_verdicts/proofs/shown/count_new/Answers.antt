use Rattle.std.specs.Prelude.{option_copied, filter}
use Rattle.std.specs.List.{range_with_len}
use Rattle.std.proofs.Common.{◌≡◌, ◌+◌, ℕ, Bool, cond, true, false, [], ◌∷◌, ◌++◌, length, ap, ◌∙◌, arith}
use Rattle.std.proofs.lemmas.List.{length-append}
use Rattle.packet_frame.specs.declared.frame.Header.{Header}
use Rattle.packet_verdicts.specs.Union.{is_new}
use Rattle.packet_verdicts.specs.laws.LayerSetLaws.{filter_more, one-le}
use Rattle.packet_verdicts.proofs.shown.count_new.Goals as goal

length_more : (p : ℕ → Bool) (n : ℕ)
    → length (filter p (range_with_len 0 (n + 1))) ≡ length (filter p (range_with_len 0 n)) + cond (p n) 1 0
length_more p n = ap length (filter_more p n) ∙ by (p n)
  where
    by : (b : Bool)
        → length (filter p (range_with_len 0 n) ++ cond b (n ∷ []) [])
        ≡ length (filter p (range_with_len 0 n)) + cond b 1 0
    by true = omega (arith, length-append (filter p (range_with_len 0 n)) (n ∷ []))
    by false = omega (arith, length-append {A = ℕ} (filter p (range_with_len 0 n)) [])

pub loop-number-preserved : goal.loop-number-preserved
loop-number-preserved c =
    let test : ℕ → Bool = is_new (option_copied c.args.mine) c.args.theirs.now in
    let all = ap (λ (h : Header). h.table.packets) c.header.ensures.value in
    let more = length_more test c.loop-number.number in
    record {
      below = omega (arith, c.loop-number-test.true, c.packets-number-end.ensures.value, all);
      few = omega (arith, c.one_if_new-total.ensures, c.loop-number.invariant.few, one-le (test c.loop-number.number));
      total = omega (arith, c.one_if_new-total.ensures, c.loop-number.invariant.total, more);
    }
