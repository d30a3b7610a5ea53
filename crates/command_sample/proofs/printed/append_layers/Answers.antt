use Rattle.command_sample.specs.Summary.{layers_text}
use Rattle.command_sample.proofs.Lines.{three_lines}
use Rattle.command_sample.proofs.printed.append_layers.Goals as goal

pub returns : goal.returns
unfolding layers_text
returns c =
    three_lines _ _ _ _ _ _ _ c.in_ok-sample_layer_line.ensures.ok c.in_ok-sample_layer_line-2.ensures.ok
    c.in_ok-sample_layer_line-3.ensures.ok
