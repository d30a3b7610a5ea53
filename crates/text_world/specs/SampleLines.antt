-- The lines of `sample`. This project's own.
use Rattle.std.specs.Prelude.{ℕ, List, ◌++◌, codes, decimal}
use Rattle.text_plan.specs.PlanLines.{hex_text}

-- how many bytes there are, and the begin of their digest
abbrev pub contents_text : ℕ → List ℕ → List ℕ
contents_text bytes digest = decimal bytes ++ codes " " ++ hex_text digest ++ codes "\n"

-- the stream
abbrev pub sample_stream_text : ℕ → List ℕ → List ℕ
sample_stream_text bytes digest = codes "stream " ++ contents_text bytes digest

-- the number of its session
abbrev pub sample_session_text : List ℕ → List ℕ
sample_session_text session = codes "session " ++ hex_text session ++ codes "\n"

-- the packets of each group, and the length of the datagrams of the first
abbrev pub sample_packets_text : ℕ → List ℕ
sample_packets_text datagram = codes "packets 100 datagram " ++ decimal datagram ++ codes "\n"

-- how many datagrams arrive
abbrev pub sample_arrivals_text : ℕ → List ℕ
sample_arrivals_text arrivals = codes "arrivals " ++ decimal arrivals ++ codes "\n"

-- the arrivals that showed a layer of the first and of the last group
abbrev pub sample_layer_text : ℕ → ℕ → ℕ → List ℕ
sample_layer_text layer first last =
    codes "layer " ++ decimal layer ++ codes " first " ++ decimal first ++ codes " last " ++ decimal last ++ codes "\n"

-- the store text of the receiver
abbrev pub sample_store_text : ℕ → List ℕ → List ℕ
sample_store_text bytes digest = codes "store " ++ contents_text bytes digest

-- the video of all groups
abbrev pub sample_video_text : ℕ → List ℕ → List ℕ
sample_video_text bytes digest = codes "video " ++ contents_text bytes digest
