use Rattle.std.proofs.Common.{◌≡◌, ◌∙◌, All, [], length, get_or, take, ap, sym, subst, arith}
use Rattle.pet_interp.specs.Progressive.{Held, column}
use Rattle.pet_interp.specs.Blocks.{HeldBlock, IsBlock, stripes_in, no_block}
use Rattle.std.proofs.lemmas.List.{get_or_default}
use Rattle.pet_interp.specs.Points.{IsOnlyThrough}
use Rattle.pet_interp.proofs.Places.{waits_not}
use Rattle.pet_interp.specs.laws.ProgressiveLaws.{stripe_is_common}
use Rattle.pet_interp.proofs.progress.Progress.coefficients.Goals as goal

pub returns-clause-value : goal.returns-clause-value
returns-clause-value g c =
    let block = c.find-block.result.0 in
    let place = c.find-block.result.1 in
    let found : c.index.result.now ≡ get_or c.deref.result.now block no_block =
    c.index.ensures ∙ ap (λ t. get_or t block c.index.result.now) (sym c.deref.ensures.value)
    ∙ get_or_default c.deref.result.now block c.index.result.now no_block c.find-block.ensures.block in
    c.stripe.ensures ∙ ap (λ (v : HeldBlock g.row.F-Elem.Denot). get_or v.stripes place []) found
    ∙ c.find-block.ensures.stripe
    ∙ ap (λ t. get_or (stripes_in t) c.args.stripe []) c.deref.ensures.value
    ∙ ap (λ (v : Held g.row.F-Elem.Denot). get_or v.stripes c.args.stripe []) c.self.view_is

pub returns-clause-common : goal.returns-clause-common
returns-clause-common g c points common st long elements lie =
    let F = g.F.Field in
    let value = returns-clause-value g c in
    value ∙ stripe_is_common F.is_element F.coding.ops c.args.self.now points c.args.stripe common st c.requires.stripe
    c.requires.enough (long ∙ ap length value) elements lie

pub returns-clause-only : goal.returns-clause-only
returns-clause-only g c points st =
    let F = g.F.Field in
    let o = F.coding.ops in
    subst (λ t. IsOnlyThrough F.is_element o (column o c.args.stripe (take (length t) points)) t)
    (sym (returns-clause-value g c))
    (st.others c.args.stripe c.requires.stripe (omega (arith, c.requires.enough, st.met)))

pub stripe-requires-clause-stripe : goal.stripe-requires-clause-stripe
stripe-requires-clause-stripe g c =
    let block = c.find-block.result.0 in
    let found : c.index.result.now ≡ get_or c.deref.result.now block no_block =
    c.index.ensures ∙ ap (λ t. get_or t block c.index.result.now) (sym c.deref.ensures.value)
    ∙ get_or_default c.deref.result.now block c.index.result.now no_block c.find-block.ensures.block in
    rw found c.find-block.ensures.place

pub stripe-requires-clause-known : goal.stripe-requires-clause-known
stripe-requires-clause-known g c =
    let s = c.self.inside in
    let block = c.find-block.result.0 in
    let place = c.find-block.result.1 in
    let found : c.index.result.now ≡ get_or c.deref.result.now block no_block =
    c.index.ensures ∙ ap (λ t. get_or t block c.index.result.now) (sym c.deref.ensures.value)
    ∙ get_or_default c.deref.result.now block c.index.result.now no_block c.find-block.ensures.block in
    let stripe = c.find-block.ensures.stripe ∙ ap (λ t. get_or (stripes_in t) c.args.stripe []) c.deref.ensures.value
    ∙ ap (λ (v : Held g.row.F-Elem.Denot). get_or v.stripes c.args.stripe []) c.self.view_is in
    let all = subst (All (IsBlock g.F.Field.is_element s.met (length s.spare.items)))
    (sym c.deref.ensures.value) c.self.invariant.each in
    let met : s.met ≡ c.args.self.now.met = ap (λ (v : Held g.row.F-Elem.Denot). v.met) c.self.view_is in
    rw found
    (waits_not g.F.Field.is_element s.met (length s.spare.items) (get_or c.deref.result.now block no_block) place _
    (all block no_block c.find-block.ensures.block) c.find-block.ensures.place stripe
    (omega (arith, met, c.requires.enough)))
