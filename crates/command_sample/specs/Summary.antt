-- The text that `sample` prints of what was made and received. This project's own.
use Rattle.std.specs.Prelude.{ℕ, List, ◌++◌}
use Rattle.text_world.specs.SampleLines.{sample_stream_text, sample_session_text, sample_packets_text}
use Rattle.text_world.specs.SampleLines.{sample_arrivals_text, sample_layer_text, sample_store_text, sample_video_text}
use Rattle.command_sample.specs.declared.printed.Figures.{Figures}
use Rattle.command_sample.specs.declared.printed.Showing.{Showing}

-- the stream, its session, its packets, and how many of these arrived
unfoldable pub made_text : Figures → List ℕ
made_text f =
    sample_stream_text f.stream.bytes f.stream.digest ++ sample_session_text f.session ++ sample_packets_text f.datagram
    ++ sample_arrivals_text f.arrivals

-- a layer
abbrev pub layer_text : ℕ → Showing → List ℕ
layer_text layer showing = sample_layer_text layer showing.first showing.last

-- the three layers
unfoldable pub layers_text : Figures → List ℕ
layers_text f = layer_text 0 f.base ++ layer_text 1 f.predicted ++ layer_text 2 f.between

-- what is printed
unfoldable pub summary_of : Figures → List ℕ
summary_of f =
    made_text f ++ layers_text f ++ sample_store_text f.store.bytes f.store.digest
    ++ sample_video_text f.video.bytes f.video.digest
