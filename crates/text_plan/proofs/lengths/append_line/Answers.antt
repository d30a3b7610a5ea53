use Rattle.std.proofs.Common.{arith, ap, subst, sym, map, ◌≡◌, ◌∙◌, ◌++◌, ℕ, List, length, replicate, take}
use Rattle.std.specs.Prelude.{codes}
use Rattle.std.proofs.Math.Seq.{take-length}
use Rattle.std.specs.List.{flat_map}
use Rattle.stripe_plan.specs.Walk.{stripes_left, IsWithin}
use Rattle.text_plan.specs.PlanLines.{plan_lengths, rows_of, row_text, lengths_text}
use Rattle.pet_base.specs.laws.Through.{on_any_err}
use Rattle.text_plan.proofs.Rows.{few_stripes, text_begun, text_more, text_ended, front_kept, front_stays}
use Rattle.text_plan.proofs.lengths.append_line.Goals as goal

pub loop-size-init : goal.loop-size-init
loop-size-init c =
    let left = ap stripes_left c.into_iter-size-iterator.ensures.into_iter_gives ∙ c.plan-size-items.ensures.stripes in
    record {
      can = subst IsWithin (sym c.into_iter-size-iterator.ensures.into_iter_gives) c.plan-size-items.ensures.within;
      ends = tt;
      few = omega (arith, ap length left);
      text =
          ap (λ (left : List (ℕ × ℕ)). c.extend_from_slice.new.self.items
          ++ (flat_map row_text (rows_of (map (λ (s : ℕ × ℕ). s.1) left)) ++ codes "\n")) left
          ∙ text_begun c.args.table.now.layers c.args.into.now.items c.extend_from_slice.new.self.items
          c.in_ok-extend_from_slice.ensures.items;
      front =
          front_kept c.args.into.now.items c.args.into.now.items _ c.extend_from_slice.new.self.items
          c.in_ok-extend_from_slice.ensures.items (take-length _);
    }

pub with_stripe-requires : goal.with_stripe-requires
with_stripe-requires c =
    let walk = c.plan-size-items.result in
    omega (
      arith,
      few_stripes walk.table.now.packets walk.table.now.layers walk.at c.plan-size-items.ensures.within.bounds,
      ap length c.plan-size-items.ensures.stripes,
    )

pub loop-size-preserved : goal.loop-size-preserved
loop-size-preserved c =
    let lengths = map (λ (s : ℕ × ℕ). s.1) (stripes_left c.next.new.self) in
    let left = c.in-Some.ensures.steps in
    record {
      can = c.in-Some.ensures.goes.keeps;
      ends = tt;
      few = omega (arith, ap length left, c.in_ok-row.ensures.few);
      text =
          text_more c.loop-size.into.items c.with_stripe.new.into.items _ _ _ (c.in_ok-row.ensures.text lengths)
          (subst (λ (l : List (ℕ × ℕ)). c.loop-size.into.items
          ++ (flat_map row_text (rows_of (replicate c.loop-size.row.times c.loop-size.row.size
          ++ map (λ (s : ℕ × ℕ). s.1) l)) ++ codes "\n")
          ≡ c.args.into.now.items ++ lengths_text (plan_lengths c.args.table.now.layers)) left
          c.loop-size.invariant.text);
      front =
          front_stays c.args.into.now.items c.loop-size.into.items c.with_stripe.new.into.items
          c.in_ok-row.ensures.front c.loop-size.invariant.front;
    }

pub returns-in_err-row-clause-err : goal.returns-in_err-row-clause-err
returns-in_err-row-clause-err c =
    on_any_err c.from_residual-in_err-row.result
    (front_stays c.args.into.now.items c.loop-size.into.items c.with_stripe.new.into.items c.in_err-row.ensures.front
    c.loop-size.invariant.front)

pub returns-clause-ok : goal.returns-clause-ok
returns-clause-ok c =
    text_ended c.loop-size.row.size c.loop-size.row.times
    (stripes_left c.loop-size.size-iterator) c.loop-size.into.items c.append_row.new.into.items c.push.new.self.items
    (c.args.into.now.items ++ lengths_text (plan_lengths c.args.table.now.layers))
    c.in-None.ensures.steps.0 c.in_ok-append_row.ensures.ok c.in_ok-push.ensures.items c.loop-size.invariant.text

pub returns-in_err-append_row-clause-err : goal.returns-in_err-append_row-clause-err
returns-in_err-append_row-clause-err c =
    on_any_err c.from_residual-in_err-append_row.result
    (ap (take (length c.args.into.now.items)) c.in_err-append_row.ensures.err ∙ c.loop-size.invariant.front)

pub returns-in_err-push-clause-err : goal.returns-in_err-push-clause-err
returns-in_err-push-clause-err c =
    on_any_err c.from_residual-in_err-push.result
    (front_kept c.args.into.now.items c.loop-size.into.items _ c.push.new.self.items
    (c.in_err-push.ensures.items ∙ c.in_ok-append_row.ensures.ok) c.loop-size.invariant.front)

pub returns-in_err-extend_from_slice-clause-err : goal.returns-in_err-extend_from_slice-clause-err
returns-in_err-extend_from_slice-clause-err c =
    on_any_err c.from_residual.result (ap
    (take (length c.args.into.now.items)) c.in_err-extend_from_slice.ensures.items ∙ take-length c.args.into.now.items)
