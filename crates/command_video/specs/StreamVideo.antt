-- The video of a stream, by the packets of its session that were met. Nothing here speaks of packets' payloads, run
-- tables or
-- buffers. This project's own.
use Rattle.std.specs.Prelude.{ℕ, nat_lt, List, length, take, drop}
use Rattle.std.specs.List.{filter, flat_map, range_with_len, enumerate_from, prefix_len}
use Rattle.pet_base.specs.declared.kind.Kind.{Kind}
use Rattle.mpeg_scan.specs.declared.piece.Piece.{Piece}
use Rattle.mpeg_scan.specs.Pieces.{pieces_of}
use Rattle.priority_file.specs.Priority.{Priorities, layer_of}
use Rattle.priority_file.specs.Refusals.{priorities_of}
use Rattle.layer_split.specs.Groups.{groups_of}
use Rattle.layer_split.specs.Layers.{Cut, cut_of, bytes_of_run}
use Rattle.layer_split.specs.Places.{placed}
use Rattle.packet_session.specs.Session.{SessionGroup}
use Rattle.packet_met.specs.Met.{Pair, shows}
use Rattle.stream_session.specs.Accepted.{group_of}
use Rattle.stream_session.specs.Tables.{cuts_of_stream}

-- how many layers of a group are shown, counted from the first up to before the first that is not
abbrev pub leading_shown : List Pair → ℕ → SessionGroup → ℕ
leading_shown pairs group g = prefix_len (shows pairs group g) (range_with_len 0 (length g.layers))

-- the bytes of a group's runs in its first layers, in the order of the stream
abbrev pub cut_video : List ℕ → ℕ → Cut → List ℕ
cut_video stream many cut = flat_map (bytes_of_run stream) (filter (λ run. nat_lt run.layer many) cut.runs)

-- of a numbered group those in its leading layers that are shown
abbrev pub shown_video : Priorities → List ℕ → List Pair → ℕ × Cut → List ℕ
shown_video priority stream pairs e = cut_video stream (leading_shown pairs e.0 (group_of priority stream e.1)) e.1

-- those of all groups, in the order of the stream
abbrev pub stream_video : List ℕ → List ℕ → List Pair → List ℕ
stream_video priority stream pairs =
    flat_map (shown_video (priorities_of priority) stream pairs)
    (enumerate_from 0 (cuts_of_stream (priorities_of priority) stream))

-- the bytes of a group's pieces in its first layers, in the order of the stream
abbrev pub pieces_video : (Kind → ℕ → ℕ) → List ℕ → ℕ → List Piece → List ℕ
pieces_video layer_of stream many group =
    flat_map (λ next. take next.piece.len (drop next.piece.at stream))
    (filter (λ next. nat_lt (layer_of next.piece.kind next.place) many) (placed group))

-- of a numbered group those in its leading layers that are shown
abbrev pub shown_pieces : Priorities → List ℕ → List Pair → ℕ × List Piece → List ℕ
shown_pieces priority stream pairs e =
    pieces_video (layer_of priority) stream
    (leading_shown pairs e.0 (group_of priority stream (cut_of (layer_of priority) (length priority.layers) e.1))) e.1

-- those of all groups, in the order of the stream
abbrev pub stream_pieces : List ℕ → List ℕ → List Pair → List ℕ
stream_pieces priority stream pairs =
    flat_map (shown_pieces (priorities_of priority) stream pairs) (enumerate_from 0 (groups_of (pieces_of stream)))
