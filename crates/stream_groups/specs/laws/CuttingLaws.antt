-- What callers know of the groups that a cutter gives: they are the first of the stream, their messages are those of
-- the stream, and their layers have the lengths of its cuts. This project's own.
use Rattle.std.proofs.Common.{◌≡◌, ℕ, suc, ◌+◌, ◌-◌, ◌≤◌, List, [], ◌∷◌, ◌++◌, length, take, drop, map, refl, sym, ◌∙◌}
use Rattle.std.proofs.Common.{ap, arith, inl, inr, drop-drop}
use Rattle.std.specs.Prelude.{◌==◌, All, if◌then◌else◌}
use Rattle.std.specs.List.{flat_map, range_with_len}
use Rattle.std.specs.Int.{to_be_bytes, w32}
use Rattle.std.proofs.lemmas.Bool.{cond-true, cond-false, cases_Bool}
use Rattle.std.proofs.lemmas.List.{append-nil, length-map, take-take, drop-take}
use Rattle.mpeg_scan.specs.declared.piece.Piece.{Piece}
use Rattle.mpeg_scan.specs.Pieces.{pieces_of, StandOnEnd}
use Rattle.priority_file.specs.Priority.{Priorities, layer_of}
use Rattle.layer_split.specs.declared.cut.Run.{Run}
use Rattle.layer_split.specs.Groups.{groups_of}
use Rattle.layer_split.specs.Runs.{runs_of}
use Rattle.layer_split.specs.Layers.{Cut, cut_of, run_table, run_entry, runs_in, bytes_of_run, layer_bytes, padded_by}
use Rattle.layer_split.specs.Layers.{message, message_by}
use Rattle.layer_split.specs.Splitting.{rebased, cuts_of}
use Rattle.stream_groups.specs.CutGroups.{CutGroup}
use Rattle.stream_groups.specs.declared.groups.GroupCutter.{GroupCutter}
use Rattle.stream_groups.specs.Cutting.{HasCut, AreFirstGroups, cut_group, cut_groups, bytes_of_pieces}
use Rattle.layer_split.specs.laws.CutLaws.{LiesIn, StandsIn, runs_lie}
use Rattle.stream_groups.specs.laws.StandingLaws.{stand_bytes, groups_stand}
use Rattle.stream_groups.specs.laws.EndedLaws.{given_ended, ended_first}

-- the groups that were given are the first of the stream
pub given_front : (cutter : GroupCutter) (priority : Priorities) (stream : List ℕ) (given : List CutGroup)
    → HasCut cutter priority stream given → AreFirstGroups priority stream given
given_front cutter priority stream given h =
    ended_first priority stream given (given_ended cutter priority stream given h)

-- a run in the bytes from a to b of a stream
run_bytes : (s : List ℕ) (a b : ℕ) (run : Run) → LiesIn a b run
    → bytes_of_run (take (b - a) (drop a s)) (rebased a run) ≡ bytes_of_run s run
run_bytes s a b run lies =
    let from = lies.0 in
    let to = lies.1 in
    let k : ℕ = run.at - a in
    let m : ℕ = (b - a) - k in
    ap (λ n. take run.len (drop k (take n (drop a s)))) (let e : b - a ≡ k + m = omega arith in e)
    ∙ (ap (take run.len) (drop-take k m (drop a s))
    ∙ (take-take run.len m (drop k (drop a s)) (omega arith)
    ∙ (ap (take run.len) (drop-drop k a s)
    ∙ ap (λ n. take run.len (drop n s)) (let e : a + k ≡ run.at = omega arith in e))))

runs_bytes : (s : List ℕ) (a b layer : ℕ) (runs : List Run) → All (LiesIn a b) runs
    → flat_map (bytes_of_run (take (b - a) (drop a s))) (runs_in layer (map (rebased a) runs))
    ≡ flat_map (bytes_of_run s) (runs_in layer runs)
runs_bytes s a b layer [] lie = refl
runs_bytes s a b layer (r ∷ rs) lie =
    let part : List ℕ = take (b - a) (drop a s) in
    let new : List Run = runs_in layer (map (rebased a) rs) in
    let old : List Run = runs_in layer rs in
    let later : flat_map (bytes_of_run part) new ≡ flat_map (bytes_of_run s) old =
    runs_bytes s a b layer rs (λ k d lt. lie (suc k) d (omega arith)) in
    elim (cases_Bool (r.layer == layer)) [
      | inl e ↦
          ap (flat_map (bytes_of_run part)) (cond-true (r.layer == layer) (rebased a r ∷ new) new e)
          ∙ (ap (λ l. l ++ flat_map (bytes_of_run part) new) (run_bytes s a b r (lie 0 r (omega arith)))
          ∙ (ap (λ l. bytes_of_run s r ++ l) later
          ∙ sym (ap (flat_map (bytes_of_run s)) (cond-true (r.layer == layer) (r ∷ old) old e))))
      | inr e ↦
          ap (flat_map (bytes_of_run part)) (cond-false (r.layer == layer) (rebased a r ∷ new) new e)
          ∙ (later ∙ sym (ap (flat_map (bytes_of_run s)) (cond-false (r.layer == layer) (r ∷ old) old e)))
    ]

entries_stay : (a : ℕ) (runs : List Run) → flat_map run_entry (map (rebased a) runs) ≡ flat_map run_entry runs
entries_stay a [] = refl
entries_stay a (r ∷ rs) = ap (λ l. run_entry r ++ l) (entries_stay a rs)

table_stays : (a : ℕ) (runs : List Run) → run_table (map (rebased a) runs) ≡ run_table runs
table_stays a runs =
    ap (λ n. to_be_bytes w32 n ++ flat_map run_entry (map (rebased a) runs)) (length-map runs (rebased a))
    ∙ ap (λ l. to_be_bytes w32 (length runs) ++ l) (entries_stay a runs)

layer_rebased : (s : List ℕ) (a b layer : ℕ) (runs : List Run) → All (LiesIn a b) runs
    → layer_bytes (take (b - a) (drop a s)) (map (rebased a) runs) layer ≡ layer_bytes s runs layer
layer_rebased s a b layer runs lie =
    ap (λ t. (if layer == 0 then t else [])
    ++ flat_map (bytes_of_run (take (b - a) (drop a s))) (runs_in layer (map (rebased a) runs))) (table_stays a runs)
    ∙ ap (λ l. (if layer == 0 then run_table runs else []) ++ l) (runs_bytes s a b layer runs lie)

layers_same : (word : ℕ) (f g : ℕ → List ℕ) → ((k : ℕ) → f k ≡ g k) → (xs : List ℕ)
    → flat_map (λ k. padded_by word (f k)) xs ≡ flat_map (λ k. padded_by word (g k)) xs
layers_same word f g e [] = refl
layers_same word f g e (x ∷ xs) =
    ap (λ l. padded_by word l ++ flat_map (λ k. padded_by word (f k)) xs) (e x)
    ∙ ap (λ l. padded_by word (g x) ++ l) (layers_same word f g e xs)

-- the message of a group's own bytes is that of the stream, in words of any length
pub message_rebased_by : (word : ℕ) (priority : Priorities) (s : List ℕ) (n a b : ℕ) (group : List Piece) → StandOnEnd a group b
    → b ≤ length s
    → message_by word (cut_group priority s group).bytes (cut_group priority s group).cut.runs n
    ≡ message_by word s (runs_of (layer_of priority) group) n
message_rebased_by word priority s n a b [] h le = refl
message_rebased_by word priority s n a b (p ∷ ps) h le =
    let runs : List Run = runs_of (layer_of priority) (p ∷ ps) in
    let bytes : bytes_of_pieces s (p ∷ ps) ≡ take (b - a) (drop a s) =
    ap (λ w. bytes_of_pieces w (p ∷ ps)) (sym (append-nil s)) ∙ stand_bytes s [] a b (p ∷ ps) h le in
    ap (λ bs. message_by word bs (map (rebased p.at) runs) n) bytes
    ∙ (ap (λ k. message_by word (take (b - a) (drop a s)) (map (rebased k) runs) n) h.0
    ∙ layers_same word (layer_bytes (take (b - a) (drop a s)) (map (rebased a) runs)) (layer_bytes s runs)
    (λ layer. layer_rebased s a b layer runs (runs_lie (layer_of priority) a b (p ∷ ps) h)) (range_with_len 0 n))

each_rebased_by : (word : ℕ) (priority : Priorities) (s : List ℕ) (n : ℕ) (groups : List (List Piece))
    → All (StandsIn (length s)) groups
    → map (λ (g : CutGroup). message_by word g.bytes g.cut.runs n) (map (cut_group priority s) groups)
    ≡ map (λ (c : Cut). message_by word s c.runs n) (cuts_of priority groups)
each_rebased_by word priority s n [] stand = refl
each_rebased_by word priority s n (g ∷ gs) stand =
    let here = stand 0 g (omega arith) in
    ap (λ l. l ∷ map (λ (k : CutGroup). message_by word k.bytes k.cut.runs n) (map (cut_group priority s) gs))
    (message_rebased_by word priority s n here.from here.to g here.stand here.within)
    ∙ ap (λ ls. message_by word s (runs_of (layer_of priority) g) n ∷ ls)
    (each_rebased_by word priority s n gs (λ k d lt. stand (suc k) d (omega arith)))

-- the messages of all groups of a stream
pub messages_rebased_by : (word : ℕ) (priority : Priorities) (s : List ℕ) (n : ℕ)
    → map (λ (g : CutGroup). message_by word g.bytes g.cut.runs n) (cut_groups priority s)
    ≡ map (λ (c : Cut). message_by word s c.runs n) (cuts_of priority (groups_of (pieces_of s)))
messages_rebased_by word priority s n = each_rebased_by word priority s n (groups_of (pieces_of s)) (groups_stand s)

-- the same in words of two bytes
pub message_rebased : (priority : Priorities) (s : List ℕ) (n a b : ℕ) (group : List Piece) → StandOnEnd a group b
    → b ≤ length s
    → message (cut_group priority s group).bytes (cut_group priority s group).cut.runs n
    ≡ message s (runs_of (layer_of priority) group) n
message_rebased priority s n a b group h le = message_rebased_by 2 priority s n a b group h le

pub messages_rebased : (priority : Priorities) (s : List ℕ) (n : ℕ)
    → map (λ (g : CutGroup). message g.bytes g.cut.runs n) (cut_groups priority s)
    ≡ map (λ (c : Cut). message s c.runs n) (cuts_of priority (groups_of (pieces_of s)))
messages_rebased priority s n = messages_rebased_by 2 priority s n

lengths_in : (priority : Priorities) (s : List ℕ) (groups : List (List Piece))
    → map (λ (g : CutGroup). g.cut.lengths) (map (cut_group priority s) groups)
    ≡ map (λ (c : Cut). c.lengths) (cuts_of priority groups)
lengths_in priority s [] = refl
lengths_in priority s (g ∷ gs) =
    ap (λ l. (cut_of (layer_of priority) (length priority.layers) g).lengths ∷ l) (lengths_in priority s gs)

-- the lengths of their layers
pub lengths_rebased : (priority : Priorities) (s : List ℕ)
    → map (λ (g : CutGroup). g.cut.lengths) (cut_groups priority s)
    ≡ map (λ (c : Cut). c.lengths) (cuts_of priority (groups_of (pieces_of s)))
lengths_rebased priority s = lengths_in priority s (groups_of (pieces_of s))
