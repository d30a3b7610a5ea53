use Rattle.command_sample.specs.Summary.{made_text}
use Rattle.command_sample.proofs.Lines.{four_lines}
use Rattle.command_sample.proofs.printed.append_begin.Goals as goal

pub returns : goal.returns
unfolding made_text
returns c =
    four_lines _ _ _ _ _ _ _ _ _ c.in_ok-sample_stream_line.ensures.ok c.in_ok-sample_session_line.ensures.ok
    c.in_ok-sample_packets_line.ensures.ok c.in_ok-sample_arrivals_line.ensures.ok
