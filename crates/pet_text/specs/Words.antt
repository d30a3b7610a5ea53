-- The command words, this project's own.
use Rattle.std.specs.Prelude.{ℕ, ◌+◌, ◌-◌, ◌*◌, ◌&&◌, ◌==◌, not, nat_le, nat_lt, nat_eq, Bool, true, false, List, [], ◌∷◌, length}
use Rattle.std.specs.Prelude.{drop, map, Option, None, Some, option_map, codes, String, string_bytes, if◌then◌else◌}
use Rattle.std.specs.List.{starts_with}
use Rattle.std.specs.Str.{bytes_eq}
use Rattle.std.specs.declared.alloc.Global.{Global}
use Rattle.outside_routes.specs.Address.{is_address}
use Rattle.pet_base.specs.declared.limits.TheConstants.{MAX_SAMPLE_GROUPS}
use Rattle.text_lines.specs.Digits.{number_up_to}
use Rattle.text_script.specs.Script.{is_plain}
use Rattle.pet_text.specs.declared.end.End.{End}
use Rattle.pet_text.specs.declared.end.End.TheVariants.{File, Udp}
use Rattle.pet_text.specs.declared.words.Command.{Command}
use Rattle.pet_text.specs.declared.words.Command.TheVariants.{Plan, Check, Send, Receive, Merge, Video, Unwrap, Wrap}
use Rattle.pet_text.specs.declared.words.Command.TheVariants.{Migrate, Replay, Sample, Repair, Breceive, Relay, Bsend}

-- the texts of the words
abbrev pub texts_of : List (String Global) → List (List ℕ)
texts_of words = map string_bytes words

-- the name of a file: any text that is not empty
abbrev pub is_name : List ℕ → Bool
is_name word = nat_lt 0 (length word)

-- the name behind `file:`, which is not empty
abbrev pub file_of : List ℕ → Option (List ℕ)
file_of word = if starts_with nat_eq word (codes "file:") && nat_lt 5 (length word) then Some (drop 5 word) else None

-- the address behind `udp:`: a host, a colon, and a port that is no less than the least one
abbrev pub udp_of : ℕ → List ℕ → Option (List ℕ)
udp_of least word =
    if starts_with nat_eq word (codes "udp:") && is_address least (drop 4 word) then Some (drop 4 word) else None

-- the file, or else the address
abbrev pub file_or_udp : Option (List ℕ) → Option (List ℕ) → Option End
file_or_udp (Some name) address = Some (File name)
file_or_udp None address = option_map Udp address

-- where datagrams come from or go to
abbrev pub end_of : ℕ → List ℕ → Option End
end_of least word = file_or_udp (file_of word) (udp_of least word)

-- a digit out of 0 to 9 and a to f
abbrev pub digit_of : ℕ → Option ℕ
digit_of c =
    if nat_le 48 c && nat_le c 57 then Some (c - 48) else if nat_le 97 c && nat_le c 102 then Some (c - 87) else None

-- a byte of two digits, the high one first
abbrev pub byte_of : Option ℕ → Option ℕ → Option ℕ
byte_of None low = None
byte_of (Some high) None = None
byte_of (Some high) (Some low) = Some (16 * high + low)

-- a byte before others
abbrev pub byte_before : Option ℕ → Option (List ℕ) → Option (List ℕ)
byte_before None bytes = None
byte_before (Some b) bytes = option_map (λ bs. b ∷ bs) bytes

-- the bytes that pairs of digits spell
abbrev pub bytes_of : List ℕ → Option (List ℕ)
bytes_of [] = Some []
bytes_of (c ∷ []) = None
bytes_of (c ∷ d ∷ word) = byte_before (byte_of (digit_of c) (digit_of d)) (bytes_of word)

-- a session number: sixteen digits
abbrev pub session_of : List ℕ → Option (List ℕ)
session_of word = if length word == 16 then bytes_of word else None

-- an id: the byte of two digits
abbrev pub id_of : List ℕ → Option ℕ
id_of (c ∷ d ∷ []) = byte_of (digit_of c) (digit_of d)
id_of _ = None

-- a decimal number below 2^64, without leading zeros
abbrev pub plain_number : List ℕ → Option ℕ
plain_number word = if is_plain word then number_up_to 18446744073709551615 word else None

-- a file at this end is another than this one
abbrev pub other_end : List ℕ → End → Bool
other_end file (File name) = not (bytes_eq name file)
other_end file (Udp address) = true

-- and than each of two
abbrev pub send_apart : List ℕ → List ℕ → End → Bool
send_apart stream priority to = other_end stream to && other_end priority to

-- two files that are written, each another than the other, and than a file that is read
abbrev pub receive_apart : End → List ℕ → List ℕ → Bool
receive_apart from layers store = other_end layers from && (other_end store from && not (bytes_eq layers store))

-- and both have names
abbrev pub receive_files : End → List ℕ → List ℕ → Bool
receive_files from layers store = (is_name layers && is_name store) && receive_apart from layers store

-- a file that is read, and another that is written; or one of the two, and an address
abbrev pub relay_apart : End → End → Bool
relay_apart (File from) (File to) = not (bytes_eq from to)
relay_apart (File from) (Udp address) = true
relay_apart (Udp address) (File to) = true
relay_apart (Udp address) (Udp other) = false

-- the files of a command have names; those behind `file:` have them by their words
abbrev pub has_names : Command → Bool
has_names (Plan stream priority) = is_name stream && is_name priority
has_names (Check stream priority plan) = is_name stream && (is_name priority && is_name plan)
has_names (Send stream priority to) = is_name stream && is_name priority
has_names (Bsend stream priority to) = is_name stream && is_name priority
has_names (Receive from session layers store) = is_name layers && is_name store
has_names (Merge first second out) = is_name first && (is_name second && is_name out)
has_names (Video store out) = is_name store && is_name out
has_names (Unwrap file id out) = is_name file && is_name out
has_names (Wrap file out) = is_name file && is_name out
has_names (Migrate store out) = is_name store && is_name out
has_names (Replay stream priority script) = is_name stream && (is_name priority && is_name script)
has_names (Sample seed groups) = true
has_names (Repair store to) = is_name store
has_names (Breceive from session layers) = is_name layers
has_names (Relay from session to) = true

-- A file that a command writes has another name than each other file of it; one that writes none has no case here. One
-- end of a relay is a file.
abbrev pub writes_others : Command → Bool
writes_others (Send stream priority to) = send_apart stream priority to
writes_others (Bsend stream priority to) = send_apart stream priority to
writes_others (Receive from session layers store) = receive_apart from layers store
writes_others (Merge first second out) = not (bytes_eq out first) && not (bytes_eq out second)
writes_others (Video store out) = not (bytes_eq out store)
writes_others (Unwrap file id out) = not (bytes_eq out file)
writes_others (Wrap file out) = not (bytes_eq out file)
writes_others (Migrate store out) = not (bytes_eq out store)
writes_others (Repair store to) = other_end store to
writes_others (Breceive from session layers) = other_end layers from
writes_others (Relay from session to) = relay_apart from to
writes_others _ = true

-- the id of `unwrap` is that of a video, from E0 to EF, and `sample` makes from 1 to 100 groups
abbrev pub has_numbers : Command → Bool
has_numbers (Unwrap file id out) = nat_le 0xE0 id && nat_le id 0xEF
has_numbers (Sample seed groups) = nat_le 1 groups && nat_le groups MAX_SAMPLE_GROUPS
has_numbers _ = true

-- all three
abbrev pub has_form : Command → Bool
has_form command = has_names command && (writes_others command && has_numbers command)

-- the command, where it is so
abbrev pub if_formed : Option Command → Option Command
if_formed None = None
if_formed (Some command) = if has_form command then Some command else None

-- `send STREAM PRIORITY TO`
abbrev pub send_of : List ℕ → List ℕ → Option End → Option Command
send_of stream priority None = None
send_of stream priority (Some to) = Some (Send stream priority to)

-- `bsend STREAM PRIORITY TO`
abbrev pub bsend_of : List ℕ → List ℕ → Option End → Option Command
bsend_of stream priority None = None
bsend_of stream priority (Some to) = Some (Bsend stream priority to)

-- `receive FROM SESSION LAYERS STORE`
abbrev pub receive_of : Option End → Option (List ℕ) → List ℕ → List ℕ → Option Command
receive_of None session layers store = None
receive_of (Some from) None layers store = None
receive_of (Some from) (Some session) layers store = Some (Receive from session layers store)

-- `breceive FROM SESSION LAYERS`
abbrev pub breceive_of : Option End → Option (List ℕ) → List ℕ → Option Command
breceive_of None session layers = None
breceive_of (Some from) None layers = None
breceive_of (Some from) (Some session) layers = Some (Breceive from session layers)

-- `relay FROM SESSION TO`
abbrev pub relay_of : Option End → Option (List ℕ) → Option End → Option Command
relay_of None session to = None
relay_of (Some from) None to = None
relay_of (Some from) (Some session) None = None
relay_of (Some from) (Some session) (Some to) = Some (Relay from session to)

-- `unwrap FILE ID OUT`
abbrev pub unwrap_of : List ℕ → Option ℕ → List ℕ → Option Command
unwrap_of file None out = None
unwrap_of file (Some id) out = Some (Unwrap file id out)

-- `sample SEED GROUPS`
abbrev pub sample_of : Option ℕ → Option ℕ → Option Command
sample_of None groups = None
sample_of (Some seed) None = None
sample_of (Some seed) (Some groups) = Some (Sample seed groups)

-- `repair STORE TO`
abbrev pub repair_of : List ℕ → Option End → Option Command
repair_of store None = None
repair_of store (Some to) = Some (Repair store to)

-- The command that words spell, before its names and numbers are looked at. Datagrams are received at any port, also at
-- one that is to be found, which is port 0; they are sent to a port of another number.
abbrev pub spelled : List (List ℕ) → Option Command
spelled (word ∷ first ∷ second ∷ []) =
    if bytes_eq word (codes "plan") then Some (Plan first second)
    else if bytes_eq word (codes "video") then Some (Video first second)
    else if bytes_eq word (codes "wrap") then Some (Wrap first second)
    else if bytes_eq word (codes "migrate") then Some (Migrate first second)
    else if bytes_eq word (codes "sample") then sample_of (plain_number first) (plain_number second)
    else if bytes_eq word (codes "repair") then repair_of first (end_of 1 second)
    else None
spelled (word ∷ first ∷ second ∷ third ∷ []) =
    if bytes_eq word (codes "check") then Some (Check first second third)
    else if bytes_eq word (codes "send") then send_of first second (end_of 1 third)
    else if bytes_eq word (codes "bsend") then bsend_of first second (end_of 1 third)
    else if bytes_eq word (codes "merge") then Some (Merge first second third)
    else if bytes_eq word (codes "unwrap") then unwrap_of first (id_of second) third
    else if bytes_eq word (codes "replay") then Some (Replay first second third)
    else if bytes_eq word (codes "breceive") then breceive_of (end_of 0 first) (session_of second) third
    else if bytes_eq word (codes "relay") then relay_of (end_of 0 first) (session_of second) (end_of 1 third)
    else None
spelled (word ∷ first ∷ second ∷ third ∷ fourth ∷ []) =
    if bytes_eq word (codes "receive") then receive_of (end_of 0 first) (session_of second) third fourth else None
spelled _ = None

-- the command of the words, where they have the form of one
abbrev pub command_of : List (List ℕ) → Option Command
command_of words = if_formed (spelled words)
