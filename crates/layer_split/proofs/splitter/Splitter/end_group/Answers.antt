-- The cut of a group that is not too long, or none.
use Rattle.std.proofs.Common.{◌≡◌, ◌+◌, ◌≤◌, ◌∙◌, length, sym, ap, subst, arith, refl}
use Rattle.std.specs.Prelude.{Vec, sum_by}
use Rattle.std.specs.declared.alloc.Global.{Global}
use Rattle.pet_base.specs.declared.limits.TheConstants.{MAX_GROUP_BYTES}
use Rattle.layer_split.specs.declared.cut.Run.{Run}
use Rattle.layer_split.specs.Layers.{lengths_of, run_table_size}
use Rattle.layer_split.proofs.Holding.{fits_not_long, long_is_long, cut_held, none_held}
use Rattle.layer_split.proofs.splitter.Splitter.end_group.Goals as goal

pub returns-clause-cut : goal.returns-clause-cut
returns-clause-cut c priority group are h = (
  cut_held c.args.self.now priority group c.replace-runs.result.items c.lengths_of-lengths.result.items are h
      (omega arith)
      (ap (λ (v : Vec Run Global). v.items) c.replace-runs.ensures.value)
      (λ few fits. subst
      (λ rs. c.lengths_of-lengths.result.items ≡ lengths_of rs c.args.self.now.layers.count) c.as_slice.ensures.value
      (c.lengths_of-lengths.ensures few (subst
      (λ rs. run_table_size (length rs) + sum_by (λ (r : Run). r.len) rs ≤ MAX_GROUP_BYTES)
      (sym c.as_slice.ensures.value) fits))),
  fits_not_long c.args.self.now priority group are h (omega arith),
)

pub returns-clause-held : goal.returns-clause-held
returns-clause-held c lo =
    none_held (record c.args.self.now { runs = c.replace-runs.new.dest; size = 4; places = c.new-self.result }) lo
    (ap (λ (v : Vec Run Global). v.items) c.replace-runs.ensures.after ∙ c.new.ensures.items) refl c.new-self.ensures

pub returns-then-self-clause-long : goal.returns-then-self-clause-long
returns-then-self-clause-long c =
    (refl, λ priority group are h. long_is_long c.args.self.now priority group are h (omega arith))
