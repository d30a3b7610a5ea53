use Rattle.std.proofs.Common.{◌≡◌, ◌∙◌, ◌+◌, ◌-◌, ◌≤◌, length, get_or, refl, ap, sym, arith}
use Rattle.std.proofs.lemmas.List.{get_or_default}
use Rattle.pet_interp.specs.Blocks.{HeldBlock, no_block}
use Rattle.pet_interp.proofs.Places.{block_here, place_then, stripe_then, stripe_here}
use Rattle.pet_interp.proofs.progress.find.Goals as goal

pub loop-place-preserved : goal.loop-place-preserved
loop-place-preserved g c =
    let bs = c.args.blocks.now in
    let i = c.loop-place.block in
    let p = c.loop-place.place in
    let b = c.index-blocks-block.result in
    let inv = c.loop-place.invariant in
    let count : c.width-place.result ≡ length (get_or bs i b).stripes =
    c.width-place.ensures
    ∙ ap (λ (v : HeldBlock g.row.F-Elem.Denot). length v.stripes)
    (c.index-blocks-block-in-loop-place.is
    ∙ get_or_default bs i c.index-blocks-block-in-loop-place.result b inv.here) in
    let tested : c.width.result ≡ length (get_or bs i b).stripes =
    c.width.ensures ∙ ap (λ (v : HeldBlock g.row.F-Elem.Denot). length v.stripes) c.index-blocks-block.is in
    let few : c.width-place.result ≤ p = rw (count ∙ sym tested) c.loop-place-test.true in
    let within = place_then bs i p c.width-place.result b inv.within count few in
    record {
      here = block_here bs (i + 1) (p - c.width-place.result) within;
      within = within;
      same = stripe_then bs i p c.width-place.result b inv.within count few ∙ inv.same;
    }

pub returns-clause-place : goal.returns-clause-place
returns-clause-place g c =
    let bs = c.args.blocks.now in
    let i = c.loop-place.block in
    let p = c.loop-place.place in
    let same : c.index-blocks-block.result ≡ get_or bs i no_block =
    c.index-blocks-block.is
    ∙ get_or_default bs i c.index-blocks-block.result no_block c.loop-place.invariant.here in
    omega (arith, c.width.ensures, ap (λ (v : HeldBlock g.row.F-Elem.Denot). length v.stripes) same)

pub returns-clause-stripe : goal.returns-clause-stripe
returns-clause-stripe g c =
    let bs = c.args.blocks.now in
    let i = c.loop-place.block in
    let p = c.loop-place.place in
    stripe_here bs i p no_block c.loop-place.invariant.within (returns-clause-place g c) ∙ c.loop-place.invariant.same

pub loop-place-init : goal.loop-place-init
loop-place-init g c = record {
  here = block_here c.args.blocks.now 0 c.args.stripe c.requires;
  within = c.requires;
  same = refl;
}

pub overflow_sub-place : goal.overflow_sub-place
overflow_sub-place g c =
    let bs = c.args.blocks.now in
    let i = c.loop-place.block in
    let b = c.index-blocks-block.result in
    let again = c.index-blocks-block-in-loop-place.result in
    let same : again ≡ b =
    c.index-blocks-block-in-loop-place.is
    ∙ get_or_default bs i again b c.loop-place.invariant.here
    ∙ sym c.index-blocks-block.is in
    rw (c.width-place.ensures ∙ ap (λ (v : HeldBlock g.row.F-Elem.Denot). length v.stripes) same ∙ sym c.width.ensures)
    c.loop-place-test.true
