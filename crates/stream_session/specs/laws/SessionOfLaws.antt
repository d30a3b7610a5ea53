-- What callers know of the session that an accepted priority file and an accepted stream are: it is a session, and its
-- packets have at most the bytes of one. This project's own.
use Rattle.std.proofs.Common.{◌≡◌, ℕ, zero, suc, ◌+◌, ◌-◌, ◌<◌, ◌≤◌, Bool, true, false, not, ◌&&◌, ◌||◌, nat_lt, nat_le}
use Rattle.std.proofs.Common.{List, [], ◌∷◌, ◌++◌, length, map, drop, None, refl, sym, ◌∙◌, ap, subst, arith, inl, inr}
use Rattle.std.specs.Prelude.{◌==◌, All, sum, slice_index}
use Rattle.std.specs.List.{sum_by}
use Rattle.std.specs.List.{filter, range_with_len}
use Rattle.std.specs.Int.{to_be_bytes, w32}
use Rattle.std.proofs.lemmas.Bool.{cond-true, cond-false, cases_Bool, cases_eq, both_ways, and_parts, and_from, eq-eqb}
use Rattle.std.proofs.lemmas.Bool.Decides.{nat_tests}
use Rattle.std.proofs.lemmas.List.{length-map, length-take-le}
use Rattle.std.proofs.lemmas.List.Sums.{sum_by-cons}
use Rattle.std.proofs.lemmas.List.Elements.{All-append, All-cons, All-head, All-nil, All-tail, All-take}
use Rattle.std.proofs.lemmas.List.FromFn.{length-map-range_with_len}
use Rattle.pet_base.specs.declared.limits.TheConstants.{MAX_LAYERS}
use Rattle.sha2.proofs.Facts256.{length-sha256}
use Rattle.sha2.specs.Sha256.{sha256, digest_bytes}
use Rattle.mpeg_scan.specs.declared.piece.Piece.{Piece}
use Rattle.mpeg_scan.specs.declared.refusal.Scan.TheVariants.{Empty, NoHead, System}
use Rattle.mpeg_scan.specs.laws.OpenerLaws.{opener_within}
use Rattle.mpeg_scan.specs.Pieces.{openers, pieces_of, pieces_from, pieces_at}
use Rattle.mpeg_scan.specs.Refusals.{IsAccepted, zeros, has_head}
use Rattle.mpeg_scan.specs.StartCodes.{is_start_code, is_opener, is_head_code, is_system_code, is_opener_code, code_at}
use Rattle.stripe_plan.specs.Sizes.{IsTableIn, cost_by, planned}
use Rattle.packet_frame.specs.declared.format.Format.{Format}
use Rattle.packet_frame.specs.declared.format.TheConstants.{FORMAT}
use Rattle.packet_frame.specs.laws.PlannedLaws.{planned_back}
use Rattle.priority_file.proofs.Accepted.{accepted}
use Rattle.priority_file.specs.Draft.{text_in}
use Rattle.priority_file.specs.Priority.{Priorities, layer_of, is_priority}
use Rattle.priority_file.specs.laws.PriorityLaws.{layer_of-within}
use Rattle.priority_file.specs.Refusals.{Row, rows, first_of, refusal_of, priorities_of}
use Rattle.layer_split.specs.laws.CutLaws.{StandsIn, runs_lie}
use Rattle.layer_split.specs.laws.RunLaws.{runs_layers}
use Rattle.layer_split.specs.declared.cut.Run.{Run}
use Rattle.layer_split.specs.Groups.{groups_of, groups_from, begins_group}
use Rattle.layer_split.specs.Layers.{Cut, cut_of, lengths_of, layer_length, message_by}
use Rattle.layer_split.specs.Runs.{runs_of}
use Rattle.layer_split.specs.Splitting.{cuts_of}
use Rattle.packet_session.specs.Session.{SessionGroup, IsMessage, IsSession, IsSessionIn, IsSessionGroupIn, Fits, FitsIn}
use Rattle.stream_session.specs.Accepted.{IsAcceptedIn, IsAcceptedWithin, group_of_in, session_of_in, session_of}
use Rattle.stream_groups.specs.CutGroups.{CutGroup}
use Rattle.stream_session.specs.laws.FitLaws.{few_groups_in, tables_stand_in, costs_fit_in}
use Rattle.stream_session.specs.laws.FormatLaws.{today_is}
use Rattle.stream_session.specs.laws.MessageLaws.{IsByte, word_bytes, message_words_in, message_bytes_by}
use Rattle.stream_session.specs.Number.{hashed, session_number}
use Rattle.stream_session.specs.Refusals.{group_cost_in}
use Rattle.stream_session.specs.laws.SessionLaws.{layers_named, none_here, from_not}
use Rattle.stream_groups.specs.laws.StandingLaws.{groups_stand}
use Rattle.stream_session.specs.Tables.{sizes_of, cuts_of_stream, IsSessionFormat}

-- the rows behind the first that do not hold
behind : (n : ℕ) (tests : List Row) → first_of tests ≡ None → first_of (drop n tests) ≡ None
behind zero tests e = e
behind (suc n) [] e = e
behind (suc n) (row ∷ later) e = behind n later (none_here row.0 row.1 (first_of later) e).1

-- an accepted priority file keeps the bounds of a priority
pub accepted_lawful : (bytes : List ℕ) → refusal_of bytes ≡ None → is_priority (priorities_of bytes) ≡ true
unfolding refusal_of priorities_of
accepted_lawful bytes e = accepted (text_in bytes) (behind 5 (rows bytes) e)

-- ---- the number

pub number_length : (priority stream : List ℕ) → length (session_number priority stream) ≡ 8
unfolding session_number
number_length priority stream =
    length-take-le 8 (sha256 (hashed priority stream)) (omega (arith, length-sha256 (hashed priority stream)))

words_small : (hash : List ℕ) (n : ℕ) → All IsByte (digest_bytes hash n)
unfolding digest_bytes
words_small hash zero = All-nil IsByte
words_small hash (suc n) =
    All-append IsByte (digest_bytes hash n) (to_be_bytes w32 (slice_index hash n)) (words_small hash n)
    (word_bytes (slice_index hash n))

digest_small : (message : List ℕ) → All IsByte (sha256 message)
unfolding sha256
digest_small message = words_small _ 8

pub number_bytes : (priority stream : List ℕ) → All (λ b. b < 256) (session_number priority stream)
unfolding session_number
number_bytes priority stream =
    All-take IsByte 8 (sha256 (hashed priority stream)) (digest_small (hashed priority stream))

-- ---- at least one group

-- an opener that stands among these places is found
some_opener : (s : List ℕ) (p k n : ℕ) → is_opener s p ≡ true → k ≤ p → p < k + n
    → 0 < length (filter (is_opener s) (range_with_len k n))
some_opener s p k zero opens from to = absurd (omega arith)
some_opener s p k (suc n) opens from to =
    let later : List ℕ = filter (is_opener s) (range_with_len (k + 1) n) in
    elim (cases_Bool (is_opener s k)) [
      | inl here ↦ subst (λ os. 0 < length os) (sym (cond-true (is_opener s k) (k ∷ later) later here)) (omega arith)
      | inr other ↦
          subst (λ os. 0 < length os) (sym (cond-false (is_opener s k) (k ∷ later) later other))
          (elim (cases_eq p k) [
            | inl same ↦ absurd (both_ways (is_opener s k) other (ap (is_opener s) (sym same) ∙ opens))
            | inr apart ↦ some_opener s p (k + 1) n opens (omega arith) (omega arith)
          ])
    ]

and_false : (a b : Bool) → a ≡ true → (a && b) ≡ false → b ≡ false
and_false true b is e = e
and_false false b is e = absurd (cc)

or_left : (a b : Bool) → (a || b) ≡ true → b ≡ false → a ≡ true
or_left true b e is = refl
or_left false b e is = absurd (both_ways b is e)

-- a code that a stream may begin with is an opener's
one_of_four : (zero_code first third second : Bool) → (first || second) ≡ true
    → (zero_code || (first || (third || second))) ≡ true
one_of_four true first third second e = refl
one_of_four false true third second e = refl
one_of_four false false true second e = refl
one_of_four false false false second e = e

-- so an accepted stream begins with one
head_opens : (s : List ℕ) → IsAccepted s → is_opener s (zeros s - 2) ≡ true
head_opens s is =
    let p : ℕ = zeros s - 2 in
    let c : ℕ = code_at s p in
    let empty : (length s == 0) ≡ false = is Empty in
    let some : nat_lt 0 (length s) ≡ true = grind (arith, nat_tests) in
    let no_head = and_false (zeros s == zeros s) (nat_lt 0 (length s) && not (has_head s)) (eq-eqb _ _ refl)
    (is (NoHead (zeros s))) in
    let head = from_not (has_head s) (and_false (nat_lt 0 (length s)) (not (has_head s)) some no_head) in
    let code = and_parts (is_start_code s p) (is_head_code c || is_system_code c)
    (and_parts (nat_le 2 (zeros s)) _ head).1 in
    let plain : is_system_code c ≡ false = and_false (is_start_code s p) (is_system_code c) code.0 (is (System p)) in
    and_from (is_start_code s p) (is_opener_code c) code.0
    (one_of_four (c == 0x00) (c == 0xB3) (c == 0xB7) (c == 0xB8)
    (or_left (is_head_code c) (is_system_code c) code.1 plain))

pieces_more : (s : List ℕ) (p from : ℕ) (later : List ℕ) → 0 < length (pieces_from s p from later)
pieces_more s p from [] = omega arith
pieces_more s p from (next ∷ later) = omega arith

some_pieces : (s places : List ℕ) → 0 < length places → 0 < length (pieces_at s places)
some_pieces s [] some = absurd (omega arith)
some_pieces s (p ∷ later) some = pieces_more s p 0 later

groups_more : (current later : List Piece) → 0 < length (groups_from current later)
groups_more current [] = omega arith
groups_more current (p ∷ later) = elim (cases_Bool (begins_group current p)) [
  | inl e ↦
      subst (λ (gs : List (List Piece)). 0 < length gs)
      (sym (cond-true (begins_group current p) (current ∷ groups_from (p ∷ []) later)
      (groups_from (current ++ p ∷ []) later) e))
      (omega arith)
  | inr e ↦
      subst (λ (gs : List (List Piece)). 0 < length gs)
      (sym (cond-false (begins_group current p) (current ∷ groups_from (p ∷ []) later)
      (groups_from (current ++ p ∷ []) later) e))
      (groups_more (current ++ p ∷ []) later)
]

some_groups_of : (pieces : List Piece) → 0 < length pieces → 0 < length (groups_of pieces)
some_groups_of [] some = absurd (omega arith)
some_groups_of (p ∷ later) some = groups_more (p ∷ []) later

-- an accepted stream has a group
pub some_groups : (s : List ℕ) → IsAccepted s → 0 < length (groups_of (pieces_of s))
some_groups s is =
    let p : ℕ = zeros s - 2 in
    let opens = head_opens s is in
    let within = opener_within s p opens in
    some_groups_of (pieces_of s)
    (some_pieces s (openers s) (some_opener s p 0 (length s) opens (omega arith) (omega arith)))

-- ---- the groups

-- the message of a group that stands in a stream of bytes
is_message : (t : Format) → IsSessionFormat t → (priority : Priorities) (s : List ℕ) → All (λ b. b < 256) s
    → is_priority priority ≡ true
    → length priority.layers ≤ MAX_LAYERS → (group : List Piece) → StandsIn (length s) group
    → IsMessage t.word (planned t.bounds (sizes_of priority (cut_of (layer_of priority) (length priority.layers) group)))
    (message_by t.word s (runs_of (layer_of priority) group) (length priority.layers))
is_message t format priority s small lawful few group stands =
    let n : ℕ = length priority.layers in
    let runs : List Run = runs_of (layer_of priority) group in
    let cut : CutGroup = record { cut = cut_of (layer_of priority) n group; bytes = s } in
    let lie = runs_lie (layer_of priority) stands.from stands.to group stands.stand in
    let within = stands.within in
    let count : length (lengths_of runs n) ≡ n = length-map-range_with_len (layer_length runs) 0 n in
    let layers = runs_layers (layer_of priority) n (layer_of-within priority lawful) group in
    record {
      whole = sym (ap (λ k. length (message_by t.word s runs k)) count)
          ∙ message_words_in t format.word priority cut (record {
            inside = λ k d lt. (let here = lie k d lt in let to = here.1 in omega arith);
            lengths = ap (lengths_of runs) (sym count);
            count = count;
          });
      bytes = message_bytes_by t.word s runs n small (λ k d lt. (let here = layers k d lt in omega arith));
    }

all_groups : (t : Format) → IsSessionFormat t → (priority : Priorities) (s : List ℕ) → All (λ b. b < 256) s
    → is_priority priority ≡ true
    → length priority.layers ≤ MAX_LAYERS → (groups : List (List Piece)) → All (StandsIn (length s)) groups
    → All (λ cut. IsTableIn t.bounds priority.packets (sizes_of priority cut)) (cuts_of priority groups)
    → All (IsSessionGroupIn t) (map (group_of_in t priority s) (cuts_of priority groups))
all_groups t format priority s small lawful few [] stand tables = All-nil (IsSessionGroupIn t)
all_groups t format priority s small lawful few (group ∷ groups) stand tables =
    let cut : Cut = cut_of (layer_of priority) (length priority.layers) group in
    let later : List Cut = cuts_of priority groups in
    let HasTable : Cut → Type 0 = λ c. IsTableIn t.bounds priority.packets (sizes_of priority c) in
    let back = planned_back t.bounds (sizes_of priority cut) in
    All-cons (IsSessionGroupIn t) (group_of_in t priority s cut) (map (group_of_in t priority s) (cuts_of priority groups))
    (record {
      table = subst (IsTableIn t.bounds priority.packets) (sym back) (All-head HasTable cut later tables);
      whole = ap (planned t.bounds) back;
      message = is_message t format priority s small lawful few group (All-head (StandsIn (length s)) group groups stand);
    })
    (all_groups t format priority s small lawful few groups (All-tail (StandsIn (length s)) group groups stand)
    (All-tail HasTable cut later tables))

-- ---- the session

-- as many groups as the stream has
groups_count : (t : Format) (priority stream : List ℕ)
    → length (session_of_in t priority stream).groups ≡ length (groups_of (pieces_of stream))
groups_count t priority stream =
    let p : Priorities = priorities_of priority in
    length-map (cuts_of_stream p stream) (group_of_in t p stream)
    ∙ length-map (groups_of (pieces_of stream)) (cut_of (layer_of p) (length p.layers))

-- an accepted session of a stream of bytes in a format is a session of that format
pub is_session_in : (t : Format) → IsSessionFormat t → {limit : ℕ} (priority stream : List ℕ)
    → All (λ b. b < 256) stream → IsAcceptedIn t limit priority stream
    → IsSessionIn t (session_of_in t priority stream)
is_session_in t format {limit} priority stream small is =
    let p : Priorities = priorities_of priority in
    let lawful = accepted_lawful priority is.priority_read in
    let named = layers_named priority is.priority_read in
    let count = groups_count t priority stream in
    let some = some_groups stream is.stream_read in
    let few = few_groups_in t limit p (pieces_of stream) is.fits in
    record {
      number = number_length priority stream;
      bytes = number_bytes priority stream;
      some = omega arith;
      few = omega arith;
      groups =
          all_groups t format p stream small lawful named.few (groups_of (pieces_of stream)) (groups_stand stream)
          (tables_stand_in t limit p (pieces_of stream) format.layers lawful named.few is.fits);
    }

abbrev cost : Format → SessionGroup → ℕ
cost t g = cost_by t.word g.packets g.layers

costs_are : (t : Format) (priority : Priorities) (s : List ℕ) (cuts : List Cut)
    → sum_by (cost t) (map (group_of_in t priority s) cuts) ≡ sum (map (group_cost_in t priority) cuts)
costs_are t priority s [] = refl
costs_are t priority s (cut ∷ cuts) =
    let later = costs_are t priority s cuts in
    let groups : sum_by (cost t) (group_of_in t priority s cut ∷ map (group_of_in t priority s) cuts)
    ≡ group_cost_in t priority cut + sum_by (cost t) (map (group_of_in t priority s) cuts) =
    sum_by-cons (cost t) (group_of_in t priority s cut) (map (group_of_in t priority s) cuts) in
    let costs : sum (group_cost_in t priority cut ∷ map (group_cost_in t priority) cuts)
    ≡ group_cost_in t priority cut + sum (map (group_cost_in t priority) cuts) =
    sum_by-cons (λ (n : ℕ). n) (group_cost_in t priority cut) (map (group_cost_in t priority) cuts) in
    groups ∙ ap (λ n. group_cost_in t priority cut + n) later ∙ sym costs

-- its packets have at most the bytes of a session
pub session_fits_in : (t : Format) {limit : ℕ} (priority stream : List ℕ) → IsAcceptedIn t limit priority stream
    → FitsIn t (session_of_in t priority stream) limit
session_fits_in t {limit} priority stream is =
    let p : Priorities = priorities_of priority in
    subst (λ n. n ≤ limit) (sym (costs_are t p stream (cuts_of_stream p stream)))
    (costs_fit_in t p (pieces_of stream) is.fits)

-- so it is in the format that is written today
pub is_session : {limit : ℕ} (priority stream : List ℕ) → All (λ b. b < 256) stream
    → IsAcceptedWithin limit priority stream
    → IsSession 2 (session_of priority stream)
is_session priority stream small is = is_session_in FORMAT today_is priority stream small is

pub session_fits : {limit : ℕ} (priority stream : List ℕ) → IsAcceptedWithin limit priority stream
    → Fits (session_of priority stream) limit
session_fits priority stream is = session_fits_in FORMAT priority stream is
