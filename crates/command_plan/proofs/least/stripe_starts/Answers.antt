use Rattle.std.proofs.Common.{◌≡◌, ◌*◌, ◌++◌, List, ℕ, refl, ap, sym, arith, ◌∙◌, length, take, get_or, replicate}
use Rattle.std.proofs.lemmas.List.{take_all}
use Rattle.std.proofs.lemmas.List.Sums.{sum_by_more}
use Rattle.command_plan.specs.Least.{lengths_in, starts_by}
use Rattle.text_plan.specs.declared.plan_file.Repeat.{Repeat}
use Rattle.command_plan.proofs.Starts.{starts_more, length-starts_by, few_stripes, row_within}
use Rattle.command_plan.proofs.least.stripe_starts.Goals as goal

pub loop-repeat-init : goal.loop-repeat-init
loop-repeat-init c = record { at = refl; starts = c.new-starts.ensures.items }

-- what stands past the end
abbrev none : Repeat
none = record { length = 0; times = 0 }

pub push_starts-requires : goal.push_starts-requires
push_starts-requires c =
    omega (arith, row_within c.args.repeats.now c.loop-repeat.repeat-index none c.loop-repeat-test.true)

pub overflow_mul-at : goal.overflow_mul-at
overflow_mul-at c =
    omega (arith, row_within c.args.repeats.now c.loop-repeat.repeat-index none c.loop-repeat-test.true)

pub overflow_add-at : goal.overflow_add-at
overflow_add-at c =
    omega (arith, row_within c.args.repeats.now c.loop-repeat.repeat-index none c.loop-repeat-test.true)

pub loop-repeat-preserved : goal.loop-repeat-preserved
loop-repeat-preserved c =
    let repeats = c.args.repeats.now in
    let i = c.loop-repeat.repeat-index in
    let d : Repeat = record { length = 0; times = 0 } in
    let row = replicate (get_or repeats i d).times (get_or repeats i d).length in
    record {
      at =
          omega (
            arith,
            c.loop-repeat.invariant.at,
            sum_by_more (λ (r : Repeat). r.times * r.length) repeats i d c.loop-repeat-test.true,
          );
      starts =
          c.in_ok-push_starts.ensures
          ∙ ap (λ (l : List ℕ). l ++ starts_by c.loop-repeat.at row) c.loop-repeat.invariant.starts
          ∙ ap (λ (n : ℕ). starts_by 0 (lengths_in (take i repeats)) ++ starts_by n row) c.loop-repeat.invariant.at
          ∙ sym (starts_more repeats i d c.loop-repeat-test.true);
    }

pub returns-clause-starts : goal.returns-clause-starts
returns-clause-starts c =
    c.loop-repeat.invariant.starts
    ∙ ap (λ l. starts_by 0 (lengths_in l)) (take_all c.loop-repeat.repeat-index c.args.repeats.now (omega arith))

pub returns-clause-few : goal.returns-clause-few
returns-clause-few c =
    let repeats = c.args.repeats.now in
    let i = c.loop-repeat.repeat-index in
    let all : take i repeats ≡ repeats = take_all i repeats (omega arith) in
    omega (
      arith,
      ap (λ (l : List ℕ). length l) c.loop-repeat.invariant.starts,
      ap (λ (l : List Repeat). length (starts_by 0 (lengths_in l))) all,
      length-starts_by 0 (lengths_in repeats),
      few_stripes repeats c.requires.some,
    )
