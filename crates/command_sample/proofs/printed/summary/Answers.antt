use Rattle.std.proofs.Common.{[], ◌++◌, ap, ◌∙◌}
use Rattle.command_sample.specs.Summary.{made_text, summary_of}
use Rattle.command_sample.proofs.Lines.{four_lines}
use Rattle.command_sample.proofs.printed.summary.Goals as goal

pub returns : goal.returns
unfolding summary_of
returns c =
    four_lines [] _ _ _ _ _ _ _ _
    (c.in_ok-append_begin.ensures ∙ ap (λ begun. begun ++ made_text c.args.figures.now) c.new-text.ensures.items)
    c.in_ok-append_layers.ensures c.in_ok-sample_store_line.ensures.ok c.in_ok-sample_video_line.ensures.ok
