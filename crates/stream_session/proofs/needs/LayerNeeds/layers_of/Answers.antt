-- The lengths of the cut, each with its need.
use Rattle.std.proofs.Common.{◌∙◌, ap, ap₂}
use Rattle.layer_split.specs.Layers.{Cut}
use Rattle.stream_session.specs.laws.TableLaws.{by_rules}
use Rattle.stream_session.specs.Tables.{sizes_by}
use Rattle.stream_session.proofs.needs.LayerNeeds.layers_of.Goals as goal

pub returns : goal.returns
returns c priority are =
    c.sizes_of.ensures
    ∙ (ap₂ sizes_by (c.as_slice.ensures.value ∙ ap (λ (k : Cut). k.lengths) c.cut.view_is)
    (c.as_slice-2.ensures.value ∙ are.needs) ∙ by_rules c.args.cut.now.lengths priority.layers)
