use Rattle.std.proofs.Common.{◌≡◌, ◌∙◌, ap, sym, arith, subst, ◌+◌, ◌-◌, ◌*◌, ◌<◌, ◌++◌, All, refl, length, map}
use Rattle.std.proofs.Common.{take, drop}
use Rattle.std.specs.Vec.{with_items}
use Rattle.std.proofs.lemmas.List.{with_items_is}
use Rattle.std.proofs.lemmas.List.Elements.{All-from_get_or, All-same}
use Rattle.pet_poly.specs.InPlace.{linear_product}
use Rattle.pet_poly.specs.Rows.{words}
use Rattle.pet_poly.specs.laws.InPlaceLaws.{linear_front}
use Rattle.pet_poly.specs.laws.RowLaws.{length-words, words_are}
use Rattle.pet_interp.specs.Progressive.{Held, StandsFor, lengths_of, step_bound, point_steps}
use Rattle.pet_interp.specs.Blocks.{IsBlock, stripes_in}
use Rattle.pet_interp.proofs.Grown.{longest_same}
use Rattle.pet_interp.proofs.Added.{weight_of, stands_added}
use Rattle.pet_interp.proofs.Along.{HaveMet, met_along, moved_along}
use Rattle.pet_interp.proofs.Counted.{counted, at_most}
use Rattle.pet_interp.proofs.progress.Progress.add.Given as given
use Rattle.pet_interp.proofs.progress.Progress.add.Goals.{After-self-6-1}
use Rattle.pet_interp.proofs.progress.Progress.add.Goals as goal

pub advance-requires-clause-blocks : goal.advance-requires-clause-blocks
advance-requires-clause-blocks g c =
    let s = c.self.inside in (
      length s.spare.items,
      All-same (IsBlock g.F.Field.is_element s.met (length s.spare.items)) c.deref_mut.result.now s.blocks.items
          c.deref_mut.ensures.value c.self.invariant.each,
    )

pub advance-requires-clause-weight : goal.advance-requires-clause-weight
advance-requires-clause-weight g c =
    let F = g.F.Field in
    let s = c.requires.stands in
    let st = subst (λ h. StandsFor F.is_element F.coding.ops h s.0) (sym c.self.view_is) s.1.0 in
    rw c.deref_mut-2.ensures.value (weight_of F.is_element F.coding.ops g.met.F.Field.lawful.field _ s.0 st c.args.x
    c.requires.point s.1.1 _ c.self.invariant.longest)

pub turn_back-requires-clause-blocks : goal.turn_back-requires-clause-blocks
turn_back-requires-clause-blocks g c =
    let P = g.F.Field.is_element in
    let s = c.self.inside in
    let room = length s.spare.items in
    let before = All-same
    (IsBlock P s.met room) c.deref_mut.result.now s.blocks.items c.deref_mut.ensures.value c.self.invariant.each in
    let kept = with_items_is s.blocks c.advance.new.blocks (c.advance.auto.blocks ∙ c.deref_mut.ensures.len) in
    let lent : c.deref_mut-4.result.now ≡ c.advance.new.blocks = c.deref_mut-4.ensures.value ∙ kept in
    let after = All-same (IsBlock P s.met room) c.deref_mut-4.result.now c.advance.new.blocks lent
    (c.advance.ensures.blocks room before) in
    let one : s.met + 1 - 1 ≡ s.met = omega arith in
    subst (λ n. All (IsBlock P n (length c.deref_mut-5.result.now)) c.deref_mut-4.result.now) (sym one)
    (subst (λ n. All (IsBlock P s.met n) c.deref_mut-4.result.now) (sym (ap length c.deref_mut-5.ensures.value)) after)

-- the blocks that `advance` and `turn_back` leave
blocks_left : (g : given.Over) (c : After-self-6-1 g)
    → (with_items (with_items c.self.inside.blocks c.advance.new.blocks) c.turn_back.new.blocks).items
    ≡ c.turn_back.new.blocks
blocks_left g c =
    with_items_is (with_items c.self.inside.blocks c.advance.new.blocks) c.turn_back.new.blocks
    (c.turn_back.auto.blocks ∙ c.deref_mut-4.ensures.len)

-- and the product
product_left : (g : given.Over) (c : After-self-6-1 g)
    → (with_items c.self.inside.product c.advance.new.product).items ≡ c.advance.new.product
product_left g c =
    with_items_is c.self.inside.product c.advance.new.product (c.advance.auto.product ∙ c.deref_mut-2.ensures.len)

-- their stripes have met one more point
met_one : (g : given.Over) (c : After-self-6-1 g) → let F = g.F.Field in let s = c.self.inside in
    HaveMet F.is_element F.coding.ops s.met (length s.product.items) (take s.met s.product.items) c.args.x
    (words F.coding.spelt F.coding.width (length c.args.self.now.stripes) c.args.values.now)
    (stripes_in s.blocks.items)
    (stripes_in (with_items (with_items s.blocks c.advance.new.blocks) c.turn_back.new.blocks).items)
met_one g c =
    let F = g.F.Field in
    let s = c.self.inside in
    let kept = with_items_is s.blocks c.advance.new.blocks (c.advance.auto.blocks ∙ c.deref_mut.ensures.len) in
    let is : length (stripes_in s.blocks.items) ≡ length c.args.self.now.stripes =
    ap (λ (v : Held g.row.F-Elem.Denot). length v.stripes) c.self.view_is in
    met_along F.is_element F.coding.ops s.met F.coding.width
    (length c.args.self.now.stripes) F.coding.spelt c.args.values.now c.args.x c.deref_mut.result.now s.blocks.items
    c.deref_mut-2.result.now s.product.items (stripes_in c.advance.new.blocks)
    (stripes_in (with_items (with_items s.blocks c.advance.new.blocks) c.turn_back.new.blocks).items)
    c.deref_mut.ensures.value c.deref_mut-2.ensures.value
    (ap stripes_in (blocks_left g c) ∙ c.turn_back.ensures.stripes
    ∙ ap stripes_in (c.deref_mut-4.ensures.value ∙ kept)) (sym is)
    c.advance.ensures.lifted (λ l. (c.advance.ensures.same l).0)

pub invariant_of-self : goal.invariant_of-self
invariant_of-self g c =
    let P = g.F.Field.is_element in
    let s = c.self.inside in
    let met = s.met in
    let left = (goal.at.invariant_of-self g c).After-self-6-1 in
    let final_blocks = (with_items (with_items s.blocks c.advance.new.blocks) c.turn_back.new.blocks).items in
    let final_product = (with_items s.product c.advance.new.product).items in
    let final_factors = (with_items s.factors c.advance.new.factors).items in
    let kept3 : final_factors ≡ c.advance.new.factors =
    with_items_is s.factors c.advance.new.factors (c.advance.auto.factors ∙ c.deref_mut-3.ensures.len) in
    let kept5 : (with_items s.spare c.turn_back.new.spare).items ≡ c.turn_back.new.spare =
    with_items_is s.spare c.turn_back.new.spare (c.turn_back.auto.spare ∙ c.deref_mut-5.ensures.len) in
    let same2 : length final_product ≡ length s.product.items =
    ap length (product_left g left) ∙ c.advance.auto.product ∙ ap length c.deref_mut-2.ensures.value in
    let same3 : length final_factors ≡ length s.factors.items =
    ap length kept3 ∙ c.advance.auto.factors ∙ ap length c.deref_mut-3.ensures.value in
    record {
      each =
          subst (λ k. All (IsBlock P (met + 1) k) final_blocks) (sym (ap length kept5))
          (All-same (IsBlock P (met + 1) (length c.turn_back.new.spare)) final_blocks c.turn_back.new.blocks
          (blocks_left g left) c.turn_back.ensures.blocks);
      products = All-same P final_product c.advance.new.product (product_left g left) c.advance.ensures.products;
      longest =
          longest_same (stripes_in s.blocks.items) (stripes_in final_blocks) (length s.product.items)
          (length final_product) (met_one g left).lengths same2 c.self.invariant.longest;
      some = λ l. rw same3 (c.self.invariant.some (omega (arith, same2)));
    }

pub returns-clause-lengths : goal.returns-clause-lengths
returns-clause-lengths g c =
    (met_one g (goal.at.returns-clause-lengths g c).After-self-6-1).lengths
    ∙ ap (λ (v : Held g.row.F-Elem.Denot). map length v.stripes) c.self.view_is

pub returns-clause-stands : goal.returns-clause-stands
returns-clause-stands g c points st ne =
    let F = g.F.Field in
    let P = F.is_element in
    let o = F.coding.ops in
    let s = c.self.inside in
    let met = s.met in
    let product = s.product.items in
    let n = length c.args.self.now.stripes in
    let left = (goal.at.returns-clause-stands g c).After-self-6-1 in
    let one = met_one g left in
    let final_blocks = (with_items (with_items s.blocks c.advance.new.blocks) c.turn_back.new.blocks).items in
    let final_product = (with_items s.product c.advance.new.product).items in
    let is : length (stripes_in s.blocks.items) ≡ n =
    ap (λ (v : Held g.row.F-Elem.Denot). length v.stripes) c.self.view_is in
    let held : Held g.row.F-Elem.Denot = record {
      met = met;
      stripes = stripes_in s.blocks.items;
      product = take met product;
    } in
    let after : Held g.row.F-Elem.Denot = record {
      met = met + 1;
      stripes = stripes_in final_blocks;
      product = take (met + 1) final_product;
    } in
    let bytes = All-from_get_or (λ b. b < 256) c.args.values.now 0 (λ k l. omega (arith, c.type_inv.values k)) in
    let moved : met < length product
    → final_product ≡ linear_product o c.args.x (take met product) ++ drop (met + 1) product =
    moved_along o met c.args.x c.deref_mut-2.result.now product c.advance.new.product final_product
    c.deref_mut-2.ensures.value (product_left g left) c.advance.ensures.product in
    stands_added P o g.met.F.Field.lawful.field held points
    (subst (λ h. StandsFor P o h points) (sym c.self.view_is) st) c.args.x c.requires.point ne
    (words F.coding.spelt F.coding.width n c.args.values.now)
    (length-words F.coding.spelt F.coding.width n c.args.values.now ∙ sym is)
    (words_are P F.coding.width F.coding.spelt F.coding.spelling g.met.F.Field.lawful.spellings n c.args.values.now
    c.requires.width bytes) after (length product) c.self.invariant.longest refl
    one.lifts (λ l. linear_front o c.args.x product final_product met l (moved l)) one.stays

pub returns-clause-met : goal.returns-clause-met
returns-clause-met g c = ap (λ (v : Held g.row.F-Elem.Denot). v.met + 1) c.self.view_is

pub advance-requires-clause-products : goal.advance-requires-clause-products
advance-requires-clause-products g c =
    All-same g.F.Field.is_element c.deref_mut-2.result.now c.self.inside.product.items c.deref_mut-2.ensures.value
    c.self.invariant.products

pub advance-requires-clause-some : goal.advance-requires-clause-some
advance-requires-clause-some g c =
    λ l. rw (ap length c.deref_mut-3.ensures.value)
    (c.self.invariant.some (rw (ap length (sym c.deref_mut-2.ensures.value)) l))

pub advance-requires-clause-point : goal.advance-requires-clause-point
advance-requires-clause-point g c = c.requires.point

pub advance-requires-clause-width : goal.advance-requires-clause-width
advance-requires-clause-width g c =
    c.requires.width
    ∙ ap (λ n. n * g.F.Field.coding.width)
    (ap (λ (v : Held g.row.F-Elem.Denot). length v.stripes) (sym c.self.view_is)
    ∙ ap (λ t. length (stripes_in t)) (sym c.deref_mut.ensures.value))

pub overflow_add-met : goal.overflow_add-met
overflow_add-met g c = omega (arith, c.requires.few, ap (λ (v : Held g.row.F-Elem.Denot). v.met) c.self.view_is)

pub overflow_add-self : goal.overflow_add-self
overflow_add-self g c = omega (arith, c.requires.few, ap (λ (v : Held g.row.F-Elem.Denot). v.met) c.self.view_is)

pub turn_back-requires-clause-some : goal.turn_back-requires-clause-some
turn_back-requires-clause-some g c = omega arith

pub returns-clause-counted : goal.returns-clause-counted
returns-clause-counted g c =
    let s = c.self.inside in
    let met = s.met in
    let product = ap length c.deref_mut-2.ensures.value in
    subst (λ (v : Held g.row.F-Elem.Denot). c.advance.new.steps
    ≡ c.args.steps.now + point_steps v.met (map length v.stripes)) c.self.view_is
    (counted c.args.steps.now c.advance.new.steps met (length s.product.items) (stripes_in s.blocks.items)
    c.self.invariant.longest
    (λ l. subst (λ t. c.advance.new.steps ≡ c.args.steps.now + step_bound met (map length (stripes_in t)))
    c.deref_mut.ensures.value (c.advance.ensures.cost (rw product l)))
    (λ l. c.advance.ensures.idle (rw product l)))

pub returns-clause-cost : goal.returns-clause-cost
returns-clause-cost g c =
    at_most c.args.steps.now c.advance.new.steps c.args.self.now.met (lengths_of c.args.self.now)
    (returns-clause-counted g c)
