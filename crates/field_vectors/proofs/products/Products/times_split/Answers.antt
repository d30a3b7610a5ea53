use Rattle.std.proofs.Common.{get_or, [], refl}
use Rattle.field_vectors.proofs.FourNibbles.{low_lanes, high_lanes, joined_lanes}
use Rattle.field_vectors.proofs.Words.{words_fit, low_is, high_is}
use Rattle.field_vectors.specs.inside.Lanes.{words}
use Rattle.field_vectors.proofs.products.Products.times_split.Goals as goal

pub returns : goal.returns
returns c =
    let s = c.args.self.now in
    let low = c.args.low in
    let high = c.args.high in
    let v = words low high in
    let fits = words_fit low high c.fits-low.0 c.fits-high.0 c.fits-low.1 c.fits-high.1 in
    let lo = low_is low high c.fits-low.0 c.fits-high.0 c.fits-low.1 c.fits-high.1 in
    let hi = high_is low high c.fits-low.0 c.fits-high.0 c.fits-low.1 c.fits-high.1 in
    joined_lanes s.factor v c.look_up-product_low.result c.look_up-product_high.result
    (words c.look_up-product_low.result c.look_up-product_high.result)
    (low_lanes s.factor s.low s.high v c.look_up-product_low.result s.right fits
    (c.look_up-product_low.ensures (get_or s.low 0 []) (get_or s.low 1 []) (get_or s.low 2 [])
    (get_or s.low 3 []) v c.spread.ensures c.spread-2.ensures c.spread-3.ensures c.spread-4.ensures lo hi))
    (high_lanes s.factor s.low s.high v c.look_up-product_high.result s.right fits
    (c.look_up-product_high.ensures (get_or s.high 0 []) (get_or s.high 1 []) (get_or s.high 2 [])
    (get_or s.high 3 []) v c.spread-5.ensures c.spread-6.ensures c.spread-7.ensures c.spread-8.ensures lo hi))
    refl
