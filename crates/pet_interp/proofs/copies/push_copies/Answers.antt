use Rattle.std.proofs.Common.{◌≡◌, ◌++◌, [], ◌∷◌, replicate, sym, ap, ◌∙◌, arith, append_assoc}
use Rattle.std.proofs.lemmas.List.{append-nil, replicate_more}
use Rattle.pet_interp.proofs.copies.push_copies.Goals as goal

pub loop-i-init : goal.loop-i-init
loop-i-init g c = sym (append-nil c.reserve_exact.new.self.items)

pub loop-i-preserved : goal.loop-i-preserved
loop-i-preserved g c =
    let old = c.reserve_exact.new.self.items in
    let i = c.loop-i.i in
    let v = c.args.value in
    c.in_ok-push.ensures.items ∙ ap (λ t. t ++ (v ∷ [])) c.loop-i.invariant ∙ append_assoc old (replicate i v) (v ∷ [])
    ∙ ap (λ t. old ++ t) (replicate_more i v)

pub returns : goal.returns
returns g c =
    let all : c.loop-i.i ≡ c.args.count = omega arith in
    c.loop-i.invariant ∙ ap (λ n. c.reserve_exact.new.self.items ++ replicate n c.args.value) all
    ∙ ap (λ t. t ++ replicate c.args.count c.args.value) c.reserve_exact.ensures.items
