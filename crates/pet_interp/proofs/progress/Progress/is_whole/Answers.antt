use Rattle.std.proofs.Common.{ℕ, ◌<◌, length, subst, arith}
use Rattle.pet_interp.specs.Progressive.{Held, stripe_of}
use Rattle.pet_interp.proofs.progress.Progress.is_whole.Goals as goal

pub returns-clause-some : goal.returns-clause-some
returns-clause-some g c longer =
    let s = c.self.inside in
    let low : s.met < length s.product.items = grind (arith, longer, c.len.ensures) in
    let r = c.self.invariant.longest.reached (omega arith) in
    subst (λ (v : Held g.row.F-Elem.Denot). (x : ℕ) × (x < length v.stripes) × (v.met < length (stripe_of v x)))
    c.self.view_is (r.0, r.1, omega (arith, r.2))
