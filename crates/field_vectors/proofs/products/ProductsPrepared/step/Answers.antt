use Rattle.field_elements.specs.Gf16.{gf16}
use Rattle.field_vectors.specs.inside.Lanes.{words}
use Rattle.field_vectors.proofs.Words.{step_words}
use Rattle.field_vectors.proofs.products.ProductsPrepared.step.Goals as goal

pub returns : goal.returns
returns c =
    step_words (gf16.times c.args.self.now.factor) c.args.row c.times_split.result.0 c.times_split.result.1
    c.split_low.result c.split_high.result (words c.args.sums.0 c.args.sums.1) c.split_low.ensures c.split_high.ensures
    c.times_split.ensures
