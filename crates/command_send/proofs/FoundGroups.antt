-- Which groups of a stream a pass finds, and that these are all of them.
use Rattle.std.proofs.Common.{◌≡◌, ℕ, List, [], ◌∷◌, ◌++◌, length, sym, ◌∙◌, ap, arith, inl, inr, append_assoc}
use Rattle.std.proofs.lemmas.List.{append-nil, length-append}
use Rattle.priority_file.specs.Priority.{Priorities}
use Rattle.stream_groups.specs.CutGroups.{CutGroup}
use Rattle.stream_groups.specs.Cutting.{HaveEnded, NoneFurther, IsCuttable, AreAll, cut_groups}
use Rattle.stream_groups.specs.laws.EndedLaws.{ended_before, ended_first}
use Rattle.command_send.specs.Sending.{IsFront, AreFound, AreAllFound}

-- groups that had ended are the first of the stream
ended_front : (priority : Priorities) (stream : List ℕ) (groups : List CutGroup) → HaveEnded priority stream groups
    → IsFront priority stream groups
ended_front priority stream groups h =
    let f = ended_first priority stream groups h [] in (f.0, ap (cut_groups priority) (sym (append-nil stream)) ∙ f.1)

-- and so are those that were found
pub found_front : (priority : Priorities) (stream : List ℕ) (groups : List CutGroup) → AreFound priority stream groups
    → IsFront priority stream groups
found_front priority stream groups (inl ended) = ended_front priority stream groups ended
found_front priority stream groups (inr all) = all.1

-- the groups before them were found too
pub found_before : (priority : Priorities) (stream : List ℕ) (groups more : List CutGroup)
    → AreFound priority stream (groups ++ more) → AreFound priority stream groups
found_before priority stream groups more (inl ended) = inl (ended_before priority stream groups more ended)
found_before priority stream groups more (inr all) =
    inr (all.0, (more ++ all.1.0, all.1.1 ∙ append_assoc groups more all.1.0))

-- first groups of a stream of which nothing is refused
pub found_of_all : (priority : Priorities) (stream : List ℕ) (groups later : List CutGroup)
    → AreAll priority stream (groups ++ later) → AreFound priority stream groups
found_of_all priority stream groups later h = inr (h.cuttable, (later, sym h.all))

none_behind : (priority : Priorities) (stream : List ℕ) (groups : List CutGroup) → cut_groups priority stream ≡ groups
    → NoneFurther priority stream groups
none_behind priority stream groups all next ended =
    let front = ended_front priority stream (groups ++ next ∷ []) ended in
    omega (
      arith,
      ap length (sym all ∙ front.1),
      length-append (groups ++ next ∷ []) front.0,
      length-append groups (next ∷ []),
    )

-- all groups of it
pub all_found : (priority : Priorities) (stream : List ℕ) (groups : List CutGroup) → AreAll priority stream groups
    → AreAllFound priority stream groups
all_found priority stream groups h = record {
  found = inr (h.cuttable, ([], sym h.all ∙ sym (append-nil groups)));
  all = λ k. sym h.all;
  none_further = none_behind priority stream groups (sym h.all);
}

-- all groups that had ended before the stream or its groups were refused
pub all_refused : (priority : Priorities) (stream : List ℕ) (groups : List CutGroup) → HaveEnded priority stream groups
    → (IsCuttable priority stream → ⊥) → NoneFurther priority stream groups → AreAllFound priority stream groups
all_refused priority stream groups ended never none = record {
  found = inl ended;
  all = λ cuttable. absurd (never cuttable);
  none_further = none;
}
