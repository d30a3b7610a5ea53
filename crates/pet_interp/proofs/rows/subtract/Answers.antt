use Rattle.std.proofs.Common.{◌≡◌, ◌+◌, ◌-◌, ◌<◌, length, get_or, take, drop, refl, ap, ap₂, sym, ◌∙◌, arith}
use Rattle.std.proofs.lemmas.List.{length-take-le, length-drop, length-set, get_or-set_other, get_or_default}
use Rattle.std.proofs.lemmas.List.Elements.{All-set}
use Rattle.pet_poly.specs.Rows.{words}
use Rattle.pet_poly.specs.laws.RowLaws.{word_at}
use Rattle.field_rows.specs.laws.PlaceLaws.{more_rows, filled}
use Rattle.pet_interp.proofs.Places.{word_inside}
use Rattle.pet_interp.proofs.rows.subtract.Goals as goal

pub loop-c-preserved : goal.loop-c-preserved
loop-c-preserved g c =
    let F = g.F.Field in
    let o = F.coding.ops in
    let z = o.nought in
    let w = F.coding.width in
    let old = c.args.row.now in
    let row = c.loop-c.row in
    let bytes = c.args.values.now in
    let n = c.loop-c.c in
    let e = c.index-row-c.result in
    let i = c.loop-c.invariant in
    let few : n < length row = omega (arith, i.long) in
    let read : e ≡ get_or old n z = c.index-row-c.is ∙ get_or_default row n e z few ∙ i.rest n (omega arith) in
    let width : c.loop-c.at + c.WIDTH.result - c.loop-c.at ≡ w = omega (arith, g.met.F.Field.wide) in
    let value : c.read.result ≡ get_or (words F.coding.spelt w (length old) bytes) n z =
    c.read.ensures.value ∙ ap (λ t. F.coding.spelt (take t (drop c.loop-c.at bytes))) width
    ∙ ap (λ t. F.coding.spelt (take w (drop t bytes))) i.at
    ∙ sym (word_at F.coding.spelt w (length old) n bytes z (omega (arith, i.long))) in
    let is : F.is_element c.sub.result = rw c.sub.ensures
    (g.met.F.Field.lawful.field.minus_is c.read.result e c.read.ensures.element
    (rw c.index-row-c.is (i.elements n e few))) in
    record {
      at = omega (arith, g.met.F.Field.wide, i.at, more_rows n w);
      long = length-set row n c.sub.result ∙ i.long;
      elements = All-set F.is_element row n c.sub.result is i.elements;
      done =
          filled (λ k. o.minus (get_or (words F.coding.spelt w (length old) bytes) k z) (get_or old k z)) z row n
          c.sub.result few i.done
          (c.sub.ensures ∙ ap₂ o.minus value read);
      rest = λ k l. get_or-set_other row n k c.sub.result z (λ q. absurd (omega arith)) ∙ i.rest k (omega arith);
    }

pub loop-c-init : goal.loop-c-init
loop-c-init g c =
    record {
      at = omega arith;
      long = refl;
      elements = c.requires.elements;
      done = λ k l. absurd (omega arith);
      rest = λ k l. refl;
    }

pub returns-clause-differences : goal.returns-clause-differences
returns-clause-differences g c = λ k l. c.loop-c.invariant.done k (omega arith)

pub returns-clause-elements : goal.returns-clause-elements
returns-clause-elements g c = c.loop-c.invariant.elements

pub sub-requires : goal.sub-requires
sub-requires g c = record {
  first = c.read.ensures.element;
  second =
      rw c.index-row-c.is
      (c.loop-c.invariant.elements c.loop-c.c c.index-row-c.result (omega (arith, c.loop-c.invariant.long)));
}

pub overflow_add-end : goal.overflow_add-end
overflow_add-end g c =
    omega (
      arith,
      word_inside g.F.Field.coding.width (length c.args.row.now) c.loop-c.c c.loop-c.at c.WIDTH.result
          (length c.args.values.now) (c.WIDTH.ensures ∙ sym g.met.F.Field.wide) c.loop-c.invariant.at c.requires.values
          c.loop-c-test.true,
    )

pub slice_bounds-read-count : goal.slice_bounds-read-count
slice_bounds-read-count g c = omega arith

pub slice_bounds-read-end : goal.slice_bounds-read-end
slice_bounds-read-end g c =
    word_inside g.F.Field.coding.width (length c.args.row.now) c.loop-c.c c.loop-c.at c.WIDTH.result
    (length c.args.values.now) (c.WIDTH.ensures ∙ sym g.met.F.Field.wide) c.loop-c.invariant.at c.requires.values
    c.loop-c-test.true

pub read-requires : goal.read-requires
read-requires g c =
    let at = c.loop-c.at in
    let size = at + c.WIDTH.result - at in
    let room = word_inside g.F.Field.coding.width (length c.args.row.now) c.loop-c.c at c.WIDTH.result
    (length c.args.values.now) (c.WIDTH.ensures ∙ sym g.met.F.Field.wide) c.loop-c.invariant.at c.requires.values
    c.loop-c-test.true in
    length-take-le size (drop at c.args.values.now) (omega (arith, length-drop at c.args.values.now))
    ∙ omega (arith, g.met.F.Field.wide)

pub bounds-row-c : goal.bounds-row-c
bounds-row-c g c = omega (arith, c.loop-c.invariant.long)

pub bounds-row-c-in-loop-c : goal.bounds-row-c-in-loop-c
bounds-row-c-in-loop-c g c = omega (arith, c.loop-c.invariant.long)

pub loop-c-smaller : goal.loop-c-smaller
loop-c-smaller g c = omega arith
