-- What callers know of the events of a script of a session: a world of eight receivers of the session refuses none.
use Rattle.std.proofs.Common.{◌≡◌, ℕ, ◌+◌, ◌-◌, ◌<◌, Bool, true, false, List, [], ◌∷◌, length, Option, None}
use Rattle.std.proofs.Common.{Some, refl, subst, ap, ◌∙◌, arith, All}
use Rattle.std.specs.Prelude.{not, ◌&&◌, nat_le, nat_lt, if◌then◌else◌, slice_get, codes, Result, Ok, Err}
use Rattle.std.specs.List.{list_all}
use Rattle.std.specs.Option.{option_map_or}
use Rattle.std.specs.Str.{bytes_eq}
use Rattle.std.proofs.lemmas.Bool.{and_parts, and_from, leb-true, ltb-true, lt-ltb}
use Rattle.std.proofs.lemmas.List.Elements.{All-cons, All-nil}
use Rattle.std.proofs.lemmas.Option.{none-some, same_Some, slice_get-get_or}
use Rattle.pet_base.specs.declared.event.Event.{Event}
use Rattle.pet_base.specs.declared.event.Event.TheVariants.{Give, Join, Reopen}
use Rattle.pet_base.specs.declared.limits.TheConstants.{MAX_SCRIPT}
use Rattle.packet_session.specs.Session.{Session, SessionGroup}
use Rattle.pet_world.specs.declared.fault.WorldFault.TheVariants.{UnknownReceiver, OutOfRange}
use Rattle.pet_world.specs.declared.world.TheConstants.{MAX_RECEIVERS}
use Rattle.pet_world.specs.ReceivedSets.{has_receivers, is_in_session, event_refusal}
use Rattle.text_cuts.specs.Cuts.{split_at, lines_of}
use Rattle.text_lines.specs.Digits.{is_digit, value_from}
use Rattle.text_script.specs.Script.{receiver_in, is_plain, value_below, number_below, give_of, join_of, reopen_of}
use Rattle.text_script.specs.Script.{give_in, join_in, reopen_in, event_in, then_events, events_from, script_of}
use Rattle.command_replay.specs.Scripts.{events_in}
use Rattle.command_replay.specs.inside.Held.{AreKnown}

-- what a test lets through
taken : {A : Type 0} (t : Bool) (x y : A) → (if t then Some x else None) ≡ Some y → (t ≡ true) × (x ≡ y)
taken true x y e = (refl, same_Some x y e)
taken false x y e = absurd (none-some y e)

receiver_known : (word : List ℕ) (r : ℕ) → receiver_in word ≡ Some r → r < MAX_RECEIVERS
receiver_known [] r e = absurd (none-some r e)
receiver_known (c ∷ []) r e =
    let t = taken (nat_le 65 c && nat_le c 72) (c - 65) r e in
    omega (arith, leb-true c 72 (and_parts (nat_le 65 c) (nat_le c 72) t.0).1, t.1)
receiver_known (c ∷ d ∷ word) r e = absurd (none-some r e)

value_known : (limit : ℕ) (word : List ℕ) (n : ℕ) → value_below limit word ≡ Some n → n < limit
value_known limit word n e =
    let t = taken (list_all is_digit word && nat_lt (value_from 0 word) limit) (value_from 0 word) n e in
    omega (
      arith,
      ltb-true (value_from 0 word) limit (and_parts (list_all is_digit word) (nat_lt (value_from 0 word) limit) t.0).1,
      t.1,
    )

number_known : (limit : ℕ) (word : List ℕ) (n : ℕ) → number_below limit word ≡ Some n → n < limit
number_known limit word n e = by (is_plain word) e
  where
    by : (t : Bool) → (if t then value_below limit word else None) ≡ Some n → n < limit
    by true e = value_known limit word n e
    by false e = absurd (none-some n e)

no_ok : {A B : Type 0} (x : A) (y : B) (r : Result A B) → r ≡ Err y → r ≡ Ok x → ⊥
no_ok x y r p q = cc

same_ok : {A B : Type 0} (x y : A) (r : Result A B) → r ≡ Ok x → r ≡ Ok y → x ≡ y
same_ok x y r p q = cc

module _ (s : Session) (groups packets : ℕ) (many : length s.groups ≡ groups)
    (same : All (λ g. g.packets ≡ packets) s.groups) where
  abbrev IsKnown : Event → Type 0
  IsKnown event = event_refusal MAX_RECEIVERS s event ≡ None

  known : (event : Event) → has_receivers MAX_RECEIVERS event ≡ true → is_in_session s event ≡ true → IsKnown event
  unfolding event_refusal
  known event there its = by (has_receivers MAX_RECEIVERS event) (is_in_session s event) there its
    where
      by : (a b : Bool) → a ≡ true → b ≡ true
          → (if not a then Some UnknownReceiver else if not b then Some OutOfRange else None) ≡ None
      by true true p q = refl
      by true false p q = absurd (cc)
      by false b p q = absurd (cc)

  abbrev nothing : SessionGroup
  nothing = record { packets = 0; layers = []; message = [] }

  packet_there : (group number : ℕ) → group < groups → number < packets
      → option_map_or (λ g. nat_lt number g.packets) (slice_get s.groups group) false ≡ true
  packet_there group number below inside =
      let lt : group < length s.groups = omega (arith, below, many) in
      ap (λ (o : Option SessionGroup). option_map_or (λ g. nat_lt number g.packets) o false)
      (slice_get-get_or s.groups group nothing lt)
      ∙ ap (nat_lt number) (same group nothing lt) ∙ lt-ltb number packets inside

  given : (r g n : Option ℕ) (event : Event) → give_of r g n ≡ Some event
      → ((x : ℕ) → r ≡ Some x → x < MAX_RECEIVERS) → ((x : ℕ) → g ≡ Some x → x < groups)
      → ((x : ℕ) → n ≡ Some x → x < packets) → IsKnown event
  given (Some r) (Some g) (Some n) event e there below inside =
      subst IsKnown (same_Some (Give r g n) event e)
      (known (Give r g n) (lt-ltb r MAX_RECEIVERS (there r refl)) (packet_there g n (below g refl) (inside n refl)))
  given (Some r) (Some g) None event e there below inside = absurd (none-some event e)
  given (Some r) None n event e there below inside = absurd (none-some event e)
  given None g n event e there below inside = absurd (none-some event e)

  joined : (r o : Option ℕ) (event : Event) → join_of r o ≡ Some event
      → ((x : ℕ) → r ≡ Some x → x < MAX_RECEIVERS) → ((x : ℕ) → o ≡ Some x → x < MAX_RECEIVERS) → IsKnown event
  joined (Some r) (Some o) event e there other =
      subst IsKnown (same_Some (Join r o) event e)
      (known (Join r o)
      (and_from (nat_lt r MAX_RECEIVERS) (nat_lt o MAX_RECEIVERS) (lt-ltb r MAX_RECEIVERS (there r refl))
      (lt-ltb o MAX_RECEIVERS (other o refl))) refl)
  joined (Some r) None event e there other = absurd (none-some event e)
  joined None o event e there other = absurd (none-some event e)

  reopened : (r : Option ℕ) (event : Event) → reopen_of r ≡ Some event
      → ((x : ℕ) → r ≡ Some x → x < MAX_RECEIVERS) → IsKnown event
  reopened (Some r) event e there =
      subst IsKnown (same_Some (Reopen r) event e) (known (Reopen r) (lt-ltb r MAX_RECEIVERS (there r refl)) refl)
  reopened None event e there = absurd (none-some event e)

  -- by the words behind the first
  give_known : (words : List (List ℕ)) (event : Event) → give_in groups packets words ≡ Some event → IsKnown event
  give_known (r ∷ g ∷ n ∷ []) event e =
      given (receiver_in r) (number_below groups g) (number_below packets n) event e (receiver_known r)
      (number_known groups g) (number_known packets n)
  give_known [] event e = absurd (none-some event e)
  give_known (r ∷ []) event e = absurd (none-some event e)
  give_known (r ∷ g ∷ []) event e = absurd (none-some event e)
  give_known (r ∷ g ∷ n ∷ more ∷ words) event e = absurd (none-some event e)

  join_known : (words : List (List ℕ)) (event : Event) → join_in words ≡ Some event → IsKnown event
  join_known (r ∷ o ∷ []) event e =
      joined (receiver_in r) (receiver_in o) event e (receiver_known r) (receiver_known o)
  join_known [] event e = absurd (none-some event e)
  join_known (r ∷ []) event e = absurd (none-some event e)
  join_known (r ∷ o ∷ more ∷ words) event e = absurd (none-some event e)

  reopen_known : (words : List (List ℕ)) (event : Event) → reopen_in words ≡ Some event → IsKnown event
  reopen_known (r ∷ []) event e = reopened (receiver_in r) event e (receiver_known r)
  reopen_known [] event e = absurd (none-some event e)
  reopen_known (r ∷ more ∷ words) event e = absurd (none-some event e)

  event_known : (words : List (List ℕ)) (event : Event) → event_in groups packets words ≡ Some event → IsKnown event
  event_known [] event e = absurd (none-some event e)
  event_known (word ∷ words) event e =
      by (bytes_eq word (codes "give")) (bytes_eq word (codes "join")) (bytes_eq word (codes "reopen")) e
    where
      by : (a b c : Bool)
          → (if a then give_in groups packets words
          else if b then join_in words
          else if c then reopen_in words
          else None) ≡ Some event
          → IsKnown event
      by true b c e = give_known words event e
      by false true c e = join_known words event e
      by false false true e = reopen_known words event e
      by false false false e = absurd (none-some event e)

  lines_known : (number : ℕ) (lines : List (List ℕ)) (events : List Event)
      → events_from groups packets number lines ≡ Ok events → AreKnown s events
  lines_known number [] events e =
      subst (λ (xs : List Event). AreKnown s xs) (same_ok [] events (events_from groups packets number []) refl e)
      (All-nil IsKnown)
  lines_known number (line ∷ lines) events e =
      by (event_in groups packets (split_at 32 line)) (events_from groups packets (number + 1) lines) refl refl e
      (λ later is. lines_known (number + 1) lines later is)
    where
      by : (o : Option Event) (r : Result (List Event) ℕ) → event_in groups packets (split_at 32 line) ≡ o
          → events_from groups packets (number + 1) lines ≡ r → then_events number o r ≡ Ok events
          → ((later : List Event) → events_from groups packets (number + 1) lines ≡ Ok later → AreKnown s later)
          → AreKnown s events
      by None r p q e rest = absurd (no_ok events number (Err number) refl e)
      by (Some event) (Err at) p q e rest = absurd (no_ok events at (Err at) refl e)
      by (Some event) (Ok later) p q e rest =
          subst (λ (xs : List Event). AreKnown s xs) (same_ok (event ∷ later) events (Ok (event ∷ later)) refl e)
          (All-cons IsKnown event later (event_known (split_at 32 line) event p) (rest later q))

  -- all of them
  pub script_known : (bytes : List ℕ) (events : List Event) → events_in groups packets bytes ≡ Ok events
      → AreKnown s events
  unfolding script_of
  script_known bytes events e = by (nat_lt MAX_SCRIPT (length bytes)) e
    where
      by : (t : Bool) → (if t then Err 0 else events_from groups packets 1 (lines_of bytes)) ≡ Ok events
          → AreKnown s events
      by true e = absurd (no_ok events 0 (Err 0) refl e)
      by false e = lines_known 1 (lines_of bytes) events e
