use Rattle.std.proofs.Common.{◌∙◌, ap₂}
use Rattle.field_vectors.specs.inside.Lanes.{words}
use Rattle.field_vectors.proofs.Words.{split_words}
use Rattle.field_vectors.proofs.products.ProductsPrepared.split.Goals as goal

pub returns : goal.returns
returns c = ap₂ words c.split_low.ensures c.split_high.ensures ∙ split_words c.args.v
