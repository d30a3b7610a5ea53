-- The script of `replay`: lines, each an event of a session with so many groups, and packets of each. This project's
-- own format.
use Rattle.std.specs.Prelude.{◌≡◌, ⊤, ℕ, ◌+◌, ◌-◌, ◌==◌, ◌&&◌, not, nat_le, nat_lt, Bool, true, false, if◌then◌else◌}
use Rattle.std.specs.Prelude.{List, [], ◌∷◌, ◌++◌, Option, None, Some, Result, Ok, Err, codes}
use Rattle.std.specs.List.{list_all}
use Rattle.std.specs.Str.{bytes_eq}
use Rattle.pet_base.specs.declared.event.Event.{Event}
use Rattle.pet_base.specs.declared.event.Event.TheVariants.{Give, Join, Reopen}
use Rattle.text_lines.specs.Digits.{is_digit, value_from}
use Rattle.text_cuts.specs.Cuts.{split_at, lines_of}
use Rattle.text_script.specs.declared.script.ScriptFault.{ScriptFault}
use Rattle.text_script.specs.declared.script.ScriptFault.TheVariants.{Line, NoMemory}

-- a letter from A to H is the receiver of its place
abbrev pub receiver_in : List ℕ → Option ℕ
receiver_in (c ∷ []) = if nat_le 65 c && nat_le c 72 then Some (c - 65) else None
receiver_in _ = None

-- there is a first digit, and no zero in front of others
abbrev pub is_plain : List ℕ → Bool
is_plain [] = false
is_plain (c ∷ []) = true
is_plain (c ∷ digits) = not (c == 48)

-- the number that these bytes are, where they are digits and it is below a limit
abbrev pub value_below : ℕ → List ℕ → Option ℕ
value_below limit digits =
    if list_all is_digit digits && nat_lt (value_from 0 digits) limit then Some (value_from 0 digits) else None

-- a number in decimal digits without leading zeros, below a limit
abbrev pub number_below : ℕ → List ℕ → Option ℕ
number_below limit word = if is_plain word then value_below limit word else None

abbrev pub give_of : Option ℕ → Option ℕ → Option ℕ → Option Event
give_of (Some receiver) (Some group) (Some number) = Some (Give receiver group number)
give_of _ _ _ = None

abbrev pub join_of : Option ℕ → Option ℕ → Option Event
join_of (Some receiver) (Some other) = Some (Join receiver other)
join_of _ _ = None

abbrev pub reopen_of : Option ℕ → Option Event
reopen_of (Some receiver) = Some (Reopen receiver)
reopen_of None = None

-- the words behind the first, in a session of so many groups and packets
abbrev pub give_in : ℕ → ℕ → List (List ℕ) → Option Event
give_in groups packets (receiver ∷ group ∷ number ∷ []) =
    give_of (receiver_in receiver) (number_below groups group) (number_below packets number)
give_in groups packets _ = None

abbrev pub join_in : List (List ℕ) → Option Event
join_in (receiver ∷ other ∷ []) = join_of (receiver_in receiver) (receiver_in other)
join_in _ = None

abbrev pub reopen_in : List (List ℕ) → Option Event
reopen_in (receiver ∷ []) = reopen_of (receiver_in receiver)
reopen_in _ = None

-- the event of a line, by its words
abbrev pub event_in : ℕ → ℕ → List (List ℕ) → Option Event
event_in groups packets [] = None
event_in groups packets (word ∷ words) =
    if bytes_eq word (codes "give") then give_in groups packets words
    else if bytes_eq word (codes "join") then join_in words
    else if bytes_eq word (codes "reopen") then reopen_in words
    else None

abbrev pub then_events : ℕ → Option Event → Result (List Event) ℕ → Result (List Event) ℕ
then_events number None later = Err number
then_events number (Some event) (Ok events) = Ok (event ∷ events)
then_events number (Some event) (Err line) = Err line

-- the events of these lines, the first of which has this number; or the number of the first that is no event
abbrev pub events_from : ℕ → ℕ → ℕ → List (List ℕ) → Result (List Event) ℕ
events_from groups packets number [] = Ok []
events_from groups packets number (line ∷ lines) =
    then_events number (event_in groups packets (split_at 32 line)) (events_from groups packets (number + 1) lines)

-- the events of a script, one for each line; or the first line that is no event, numbered from 1
unfoldable pub script_of : ℕ → ℕ → List ℕ → Result (List Event) ℕ
script_of groups packets bytes = events_from groups packets 1 (lines_of bytes)

-- events that were read in front of later ones
abbrev pub behind_events : List Event → Result (List Event) ℕ → Result (List Event) ℕ
behind_events events (Ok later) = Ok (events ++ later)
behind_events events (Err line) = Err line

-- what a refusal says of the bytes
abbrev pub IsScriptRefused : ℕ → ℕ → List ℕ → ScriptFault → Type 0
IsScriptRefused groups packets bytes (Line line) = script_of groups packets bytes ≡ Err line
IsScriptRefused groups packets bytes NoMemory = ⊤
