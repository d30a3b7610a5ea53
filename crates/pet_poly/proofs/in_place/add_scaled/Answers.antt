use Rattle.std.proofs.Common.{◌≡◌, ◌∙◌, ap, ap₂, sym, take, set, get_or, length, refl, add-one, arith}
use Rattle.std.proofs.lemmas.List.{get_or-take, length-take-le, take_all}
use Rattle.pet_poly.specs.InPlace.{scaled_sum}
use Rattle.pet_poly.specs.laws.InPlaceLaws.{scaled_sum_is, scaled_sum_value}
use Rattle.pet_poly.proofs.Places.{scaled_more, scaled_at}
use Rattle.pet_poly.proofs.in_place.add_scaled.Goals as goal

pub add-requires-clause-first : goal.add-requires-clause-first
add-requires-clause-first g c =
    let F = g.F.Field in
    let i = c.loop-i.i in
    let d = c.index-into-i.result in
    let n = length c.args.other.now in
    let read : d ≡ get_or (take n c.args.into.now) i d =
    c.index-into-i.is ∙ ap (λ l. get_or l i d) c.loop-i.invariant.places
    ∙ scaled_at F.coding.ops c.args.by c.args.into.now c.args.other.now i d
    ∙ sym (get_or-take n c.args.into.now i d (omega arith)) in
    rw read (c.requires.elements i d (rw (length-take-le n c.args.into.now c.requires.room) (omega arith)))

pub loop-i-preserved : goal.loop-i-preserved
loop-i-preserved g c =
    let F = g.F.Field in
    let e : c.loop-i.into ≡ scaled_sum F.coding.ops c.args.by c.args.into.now (take c.loop-i.i c.args.other.now) =
    c.loop-i.invariant.places in
    record {
      places =
          ap₂ (λ l v. set l c.loop-i.i v) e
          (c.add.ensures ∙ ap (F.coding.ops.plus c.index-into-i.result) c.mul.ensures.product)
          ∙ scaled_more F.coding.ops c.args.by c.args.into.now c.args.other.now c.loop-i.i c.index-into-i.result
          c.index-other-i.result (omega arith) c.requires.room
          (c.index-into-i.is ∙ ap (λ l. get_or l c.loop-i.i c.index-into-i.result) e) c.index-other-i.is
          ∙ ap (λ k. scaled_sum F.coding.ops c.args.by c.args.into.now (take k c.args.other.now))
          (sym (add-one c.loop-i.i));
      cost = omega arith;
    }

pub returns-clause-places : goal.returns-clause-places
returns-clause-places g c =
    c.loop-i.invariant.places
    ∙ ap (scaled_sum g.F.Field.coding.ops c.args.by c.args.into.now)
    (take_all c.loop-i.i c.args.other.now (omega arith))

pub returns-clause-elements : goal.returns-clause-elements
returns-clause-elements g c h =
    let F = g.F.Field in
    rw (returns-clause-places g c)
    (scaled_sum_is F.is_element F.coding.ops g.met.F.Field.lawful.field c.args.by c.args.into.now c.args.other.now
    c.requires.factor h c.requires.others)

pub returns-clause-value : goal.returns-clause-value
returns-clause-value g c h y hy =
    let F = g.F.Field in
    rw (returns-clause-places g c)
    (scaled_sum_value F.is_element F.coding.ops g.met.F.Field.lawful.field c.args.by c.args.into.now c.args.other.now y
    c.requires.room c.requires.factor h c.requires.others hy)

pub loop-i-init : goal.loop-i-init
loop-i-init g c = record { places = refl; cost = omega arith }

pub mul-requires-clause-second : goal.mul-requires-clause-second
mul-requires-clause-second g c =
    rw c.index-other-i.is (c.requires.others c.loop-i.i c.index-other-i.result (omega arith))

pub add-requires-clause-second : goal.add-requires-clause-second
add-requires-clause-second g c =
    let entry : g.F.Field.is_element c.index-other-i.result =
    rw c.index-other-i.is (c.requires.others c.loop-i.i c.index-other-i.result (omega arith)) in
    rw c.mul.ensures.product
    (g.met.F.Field.lawful.field.times_is c.args.by c.index-other-i.result c.requires.factor entry)

pub returns-clause-cost : goal.returns-clause-cost
returns-clause-cost g c = omega (arith, c.loop-i.invariant.cost)
