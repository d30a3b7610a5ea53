use Rattle.std.proofs.Common.{◌≡◌, ◌∙◌, ◌<◌, [], ◌∷◌, ◌++◌, length, map, take, refl, sym, ap, ap₂, subst, arith}
use Rattle.std.proofs.lemmas.List.{length-set, map-append, take_more, take_more_set, take_all}
use Rattle.pet_interp.proofs.lift.prepare.Goals as goal

pub loop-i-init : goal.loop-i-init
loop-i-init g c = record { long = refl; done = refl }

pub prepare-requires : goal.prepare-requires
prepare-requires g c =
    subst g.F.Field.is_element (sym c.index-elements-i.is)
    (c.requires.elements c.loop-i.i c.index-elements-i.result (omega arith))

pub bounds-elements-i : goal.bounds-elements-i
bounds-elements-i g c = c.loop-i-test.true

pub bounds-factors-i : goal.bounds-factors-i
bounds-factors-i g c = omega (arith, c.loop-i.invariant.long, c.requires.long)

pub loop-i-smaller : goal.loop-i-smaller
loop-i-smaller g c = omega arith

pub loop-i-preserved : goal.loop-i-preserved
loop-i-preserved g c =
    let f = g.F.Rows.element_of in
    let elements = c.args.elements.now in
    let factors = c.loop-i.factors in
    let i = c.loop-i.i in
    let e = c.index-elements-i.result in
    let new = c.prepare.result in
    let inv = c.loop-i.invariant in
    let few : i < length factors = omega (arith, inv.long, c.requires.long) in
    record {
      long = length-set factors i new ∙ inv.long;
      done =
          ap (map f) (take_more_set factors i new few) ∙ map-append f (take i factors) (new ∷ [])
          ∙ ap₂ (λ t v. t ++ (v ∷ [])) inv.done (c.prepare.ensures ∙ c.index-elements-i.is)
          ∙ sym (take_more elements i e c.loop-i-test.true);
    }

pub returns : goal.returns
returns g c =
    λ wide.
    let elements = c.args.elements.now in
    let factors = c.loop-i.factors in
    let i = c.loop-i.i in
    let all : i ≡ length elements = omega arith in
    ap (map g.F.Rows.element_of) (sym (take_all i factors (omega (arith, c.loop-i.invariant.long, c.requires.long))))
    ∙ c.loop-i.invariant.done ∙ take_all i elements (omega arith)
