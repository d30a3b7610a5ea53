-- What the second pass has read of the input.
use Rattle.std.proofs.Common.{◌≡◌, ℕ, List, [], ◌++◌, length, Option, Some, None, refl, sym, ◌∙◌, ap}
use Rattle.std.proofs.Common.{subst, arith, inl, inr}
use Rattle.std.specs.Prelude.{IfSome, MatchOption}
use Rattle.std.specs.Io.KnownBytes.{prepend_known, IsAtEnd}
use Rattle.std.proofs.lemmas.List.{append-nil}
use Rattle.pet_base.specs.declared.limits.TheConstants.{MAX_STREAM}
use Rattle.pet_base.specs.Seen.{Seen, OnlyReads}
use Rattle.pet_base.proofs.Filled.{prepend-prepend}
use Rattle.session_source.proofs.Sourced.{short_stream}
use Rattle.priority_file.specs.Priority.{Priorities}
use Rattle.stream_groups.specs.CutGroups.{CutGroup}
use Rattle.stream_groups.specs.Cutting.{HasCut, HaveEnded, cut_groups}
use Rattle.stream_groups.specs.laws.EndedLaws.{none_ended, ended_first}
use Rattle.command_send.specs.inside.Job.{Job}
use Rattle.command_send.specs.declared.sent_group.Change.{Change}
use Rattle.command_send.specs.declared.second.SentGroups.{SentGroups}
use Rattle.outside_files.specs.Outputs.{IsPrefix}
use Rattle.outside_files.specs.Portions.{IsReadOf, IsNoPortion}
use Rattle.outside_files.specs.laws.InputLaws.{read_few, read_whole}
use Rattle.command_send.specs.Sending.{sent_datagrams, IsFront, AreFound}
use Rattle.command_send.specs.inside.Sending.{HasSentSome, IsPart, IsTaken, SentPart, HasSentAll, HasSentToChange}
use Rattle.command_send.specs.inside.Second.{HasGone, HasReached, Ends}
use Rattle.outside_routes.specs.Sending.{Routes, Sends}
use Rattle.outside_routes.specs.laws.SendingLaws.{part_nothing, sends_nothing, sends_read}
use Rattle.command_send.proofs.GroupsSoFar.{text_none, part_stands}

prefix_at : (stream : List ℕ) (now : Option (List ℕ)) → IfSome (prepend_known stream now) (IsPrefix stream)
prefix_at stream None = tt
prefix_at stream (Some more) = (more, refl)

told_at : (priority : Priorities) (stream : List ℕ) (groups : List CutGroup) (now : Option (List ℕ))
    → HaveEnded priority stream groups → IfSome (prepend_known stream now) (λ bytes. IsFront priority bytes groups)
told_at priority stream groups None ended = tt
told_at priority stream groups (Some more) ended = ended_first priority stream groups ended more

-- what was read stands at the front of the input
pub part_read : {E : Type 0} (j : Job E) (stream : List ℕ) (known : Option (List ℕ))
    (first now : Routes) → first.place.rest ≡ prepend_known stream known
    → IsPart j (HaveEnded j.source.priority stream) first now → SentPart j first now
part_read j stream known first now rest part = record {
  stream = stream;
  read = subst (λ (o : Option (List ℕ)). IfSome o (IsPrefix stream)) (sym rest) (prefix_at stream known);
  part =
      record {
        groups = part.groups;
        first_groups = inl part.first_groups;
        agree = part.agree;
        tables = part.tables;
        sends = part.sends;
      };
  told =
      subst (λ (o : Option (List ℕ)). IfSome o (λ bytes. IsFront j.source.priority bytes part.groups)) (sym rest)
      (told_at j.source.priority stream part.groups known part.first_groups);
}

ended_at : (priority : Priorities) (stream : List ℕ) (groups : List CutGroup) (now : Option (List ℕ)) → IsAtEnd now
    → IsFront priority stream groups → IfSome (prepend_known stream now) (λ bytes. IsFront priority bytes groups)
ended_at priority stream groups None end front = tt
ended_at priority stream groups (Some more) end front =
    subst (λ (s : List ℕ). IsFront priority s groups)
    (sym (append-nil stream) ∙ ap (λ (m : List ℕ). stream ++ m) (sym end)) front

-- the same of all that was read
pub part_end : {E : Type 0} (j : Job E) (stream : List ℕ) (first mid now : Routes)
    → IsTaken stream first.place mid.place → IsPart j (AreFound j.source.priority stream) first now
    → SentPart j first now
part_end j stream first mid now taken part = record {
  stream = stream;
  read = subst (λ (o : Option (List ℕ)). IfSome o (IsPrefix stream)) (sym taken.rest) (prefix_at stream mid.place.rest);
  part = part;
  told = subst (λ (o : Option (List ℕ)). IfSome o (λ bytes. IsFront j.source.priority bytes part.groups)) (sym taken.rest)
      (elim part.first_groups [
        | inl ended ↦ told_at j.source.priority stream part.groups mid.place.rest ended
        | inr all ↦ ended_at j.source.priority stream part.groups mid.place.rest
            (taken.whole (short_stream stream all.0.0)) all.1
      ]);
}

pub rest_more : (stream portion : List ℕ) (first before after : Option (List ℕ)) → first ≡ prepend_known stream before
    → before ≡ prepend_known portion after → first ≡ prepend_known (stream ++ portion) after
rest_more stream portion first before after rest step =
    rest ∙ ap (prepend_known stream) step ∙ prepend-prepend stream portion after

some_read : {E : Type 0} (j : Job E) (groups : List CutGroup)
    (first before after : Routes) → OnlyReads before.place after.place → after.link ≡ before.link
    → HasSentSome j groups first before → HasSentSome j groups first after
some_read j groups first before after reads link h = record {
  agree = h.agree;
  tables = h.tables;
  target = reads.target ∙ h.target;
  sends = sends_read j.way (sent_datagrams j.format j.coding j.source groups) first before after reads.files link h.sends;
}

-- reading changes nothing that was sent
pub stands_read : {E : Type 0} (j : Job E) (stream : List ℕ) (change : Option Change)
    (pass : SentGroups) (first before after : Routes) → OnlyReads before.place after.place → after.link ≡ before.link
    → HasReached j stream change pass first before
    → HasReached j stream change pass first after
stands_read j stream None pass first before after reads link h = (
  record {
    groups = h.0.groups;
    cut = h.0.cut;
    number = h.0.number;
    sent = some_read j h.0.groups first before after reads link h.0.sent;
  },
  h.1,
)
stands_read j stream (Some c) pass first before after reads link h = (
  record {
    least = h.0.least;
    sent = some_read j h.0.least.before first before after reads link h.0.sent;
  },
  h.1,
  h.2,
)

-- a portion that could not be taken, and one that was taken and then not all sent
pub part_taken : {E : Type 0} (j : Job E) (stream : List ℕ) (change : Option Change)
    (pass : SentGroups) (first before after : Routes) → first.place.rest ≡ prepend_known stream before.place.rest
    → OnlyReads before.place after.place → after.link ≡ before.link
    → HasReached j stream change pass first before → SentPart j first after
part_taken j stream change pass first before after rest reads link h =
    part_read j stream before.place.rest first after rest
    (part_stands j stream change pass first after
    (stands_read j stream change pass first before after reads link h))

pub part_fed : {E : Type 0} (j : Job E) (stream portion : List ℕ)
    (change : Option Change) (pass : SentGroups) (first before after now : Routes)
    → first.place.rest ≡ prepend_known stream before.place.rest
    → before.place.rest ≡ prepend_known portion after.place.rest → OnlyReads before.place after.place
    → after.link ≡ before.link → HasReached j stream change pass first before
    → (HasReached j stream change pass first after
    → IsPart j (HaveEnded j.source.priority (stream ++ portion)) first now)
    → SentPart j first now
part_fed j stream portion change pass first before after now rest taken reads link h part =
    part_read j (stream ++ portion) after.place.rest first now
    (rest_more stream portion first.place.rest before.place.rest after.place.rest rest taken)
    (part (stands_read j stream change pass first before after reads link h))

-- where no portion came
pub taken_end : (stream : List ℕ) (left : Option ℕ) (first before after : Seen)
    → first.rest ≡ prepend_known stream before.rest → IsReadOf MAX_STREAM left (length stream)
    → IsNoPortion left before after → IsTaken stream first after
taken_end stream left first before after rest read none = record {
  rest = rest ∙ ap (prepend_known stream) none.same;
  few = read_few MAX_STREAM left (length stream) read;
  whole = read_whole MAX_STREAM stream left before after read none;
}

-- what is written changes nothing of that
pub taken_write : (stream : List ℕ) (first before after : Seen) → after.rest ≡ before.rest
    → IsTaken stream first before → IsTaken stream first after
taken_write stream first before after same h = record {
  rest = h.rest ∙ ap (prepend_known stream) (sym same);
  few = h.few;
  whole = λ le. subst IsAtEnd (sym same) (h.whole le);
}

prefix_none : (known : Option (List ℕ)) → IfSome known (IsPrefix [])
prefix_none None = tt
prefix_none (Some bytes) = (bytes, refl)

front_none : (priority : Priorities) (known : Option (List ℕ)) → IfSome known (λ bytes. IsFront priority bytes [])
front_none priority None = tt
front_none priority (Some bytes) = (cut_groups priority bytes, refl)

-- nothing was read yet
pub part_start : {E : Type 0} (j : Job E) (s : Routes) → SentPart j s s
part_start j s = record {
  stream = [];
  read = prefix_none s.place.rest;
  part = record {
    groups = [];
    first_groups = inl (none_ended j.source.priority []);
    agree = λ k lt. absurd (omega (arith, lt));
    tables = (j.source.tables.items, refl);
    sends = part_nothing j.way (sent_datagrams j.format j.coding j.source []) s s refl refl;
  };
  told = front_none j.source.priority s.place.rest;
}

pub gone_start : {E : Type 0} (j : Job E) (pass : SentGroups) (s : Routes)
    → HasCut pass.cutter j.source.priority [] [] → pass.sent ≡ 0 → HasGone j [] pass s s
gone_start j pass s cut none = record {
  groups = [];
  cut = cut;
  number = none;
  sent = record {
    agree = λ k lt. absurd (omega (arith, lt));
    tables = (j.source.tables.items, refl);
    target = refl;
    sends = subst (λ (t : List (List ℕ)). Sends j.way t s s) (sym (text_none j.format j.coding j.source)) (sends_nothing j.way s s refl refl);
  };
}

pub sent_end : {E : Type 0} (j : Job E) (stream : List ℕ) (after : Option Change)
    (first now : Routes) → IsTaken stream first.place now.place → Ends j stream after first now
    → MatchOption after (HasSentAll j first now) (λ c. HasSentToChange j c first now)
sent_end j stream None first now taken h = record { stream = stream; taken = taken; all = h }
sent_end j stream (Some c) first now taken h = record { stream = stream; taken = taken; change_is = h }
