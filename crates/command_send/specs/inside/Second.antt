-- Where the second pass of `send` stands between its steps. This project's own.
use Rattle.std.specs.Prelude.{◌≡◌, ◌≢◌, ◌⊎◌, ℕ, ◌<◌, ◌≤◌, List, [], ◌∷◌, ◌++◌, length, drop, Option, None, Some}
use Rattle.std.specs.Prelude.{slice_get, sum_by, MatchOption}
use Rattle.pet_base.specs.LinkSeen.{OnlySends}
use Rattle.pet_base.specs.Seen.{KeepsNames}
use Rattle.stripe_plan.specs.Sizes.{Sizes}
use Rattle.priority_file.specs.Priority.{Priorities}
use Rattle.stream_groups.specs.declared.groups.GroupCutter.{GroupCutter}
use Rattle.stream_session.specs.declared.mark.GroupMark.{GroupMark}
use Rattle.stream_groups.specs.CutGroups.{CutGroup}
use Rattle.stream_groups.specs.Cutting.{HasCut, HaveEnded, pieces_left}
use Rattle.stream_session.specs.Marks.{mark_of, no_mark, mark_at}
use Rattle.stream_session.specs.Tables.{table_of_in}
use Rattle.command_send.specs.declared.sent_group.Change.{Change}
use Rattle.command_send.specs.declared.second.SentGroups.{SentGroups}
use Rattle.outside_routes.specs.Sending.{Routes, Sends, SendsPart}
use Rattle.packet_session.specs.Datagrams.{group_datagrams_in}
use Rattle.command_send.specs.Sending.{encoding_of, words_cost, IsNext}
use Rattle.command_send.specs.inside.Job.{Job}
use Rattle.command_send.specs.inside.Sending.{HasSentSome, IsChange, IsAllSent}

-- the cutter stands somewhere in a stream
pub record Knows (cutter : GroupCutter) (priority : Priorities) : Type 0 where
  pub stream : List ℕ
  pub given : List CutGroup
  pub cut : HasCut cutter priority stream given

-- of what was read, the groups that have ended were sent
pub record HasGone {E : Type 0} (job : Job E) (stream : List ℕ) (pass : SentGroups) (old new : Routes) : Type 0 where
  pub groups : List CutGroup
  pub cut : HasCut pass.cutter job.source.priority stream groups
  pub number : pass.sent ≡ length groups
  pub sent : HasSentSome job groups old new

-- the group at which the marks differ has ended
abbrev pub HasMetChange : {E : Type 0} → Job E → List ℕ → Routes → Routes → Change → Type 0
HasMetChange job stream old new change =
    (h : IsChange job stream change old new)
    × (next : IsNext job.format job.source.priority job.source.tables.items job.marks stream h.least.before change.group
    change.second)
    × HaveEnded job.source.priority stream (h.least.before ++ next.next ∷ [])

-- so far, where all that was read was looked at, or to a change
abbrev pub HasReached : {E : Type 0} → Job E → List ℕ → Option Change → SentGroups → Routes → Routes → Type 0
HasReached job stream change pass old new =
    MatchOption change (HasGone job stream pass old new × (pieces_left pass.cutter ≡ 0))
    (HasMetChange job stream old new)

-- all of the stream, or to a change
abbrev pub Ends : {E : Type 0} → Job E → List ℕ → Option Change → Routes → Routes → Type 0
Ends job stream change old new =
    MatchOption change (IsAllSent job stream old new) (λ c. IsChange job stream c old new)

-- the steps that a group may take, and those of the groups from this one on
abbrev pub cost_at : Option Sizes → ℕ
cost_at None = 0
cost_at (Some table) = words_cost table

unfoldable pub cost_left : List Sizes → ℕ → ℕ
cost_left tables sent = sum_by words_cost (drop sent tables)

-- the group under this number has the mark and the table of the first pass
pub record IsSame {E : Type 0} (job : Job E) (number : ℕ) (g : CutGroup) : Type 0 where
  pub mark : mark_at job.marks number ≡ mark_of g.bytes
  pub table : slice_get job.source.tables.items number ≡ Some (table_of_in job.format job.source.priority g.cut)

-- the datagrams of its packets
abbrev pub datagrams_of : {E : Type 0} → Job E → ℕ → CutGroup → List (List ℕ)
datagrams_of job number g = group_datagrams_in job.format job.coding (encoding_of job.format job.source number g)

-- and they were sent
abbrev pub SendsGroup : {E : Type 0} → Job E → ℕ → CutGroup → Routes → Routes → Type 0
SendsGroup job number g old new = IsSame job number g × Sends job.way (datagrams_of job number g) old new

abbrev pub SendsGroupPart : {E : Type 0} → Job E → ℕ → CutGroup → Routes → Routes → Type 0
SendsGroupPart job number g old new = IsSame job number g × SendsPart job.way (datagrams_of job number g) old new

-- the group is another, or its layers have other lengths; nothing was sent
pub record Differs {E : Type 0} (job : Job E) (number : ℕ) (g : CutGroup) (old new : Routes) (change : Change) : Type 0 where
  pub group : change.group ≡ number
  pub first_is : change.first ≡ mark_at job.marks number
  pub marked : (change.second ≡ mark_of g.bytes)
      ⊎ ((change.second ≡ no_mark) × (mark_at job.marks number ≡ mark_of g.bytes)
      × (slice_get job.source.tables.items number ≢ Some (table_of_in job.format job.source.priority g.cut)))
  pub differ : change.first ≢ change.second
  pub still : new ≡ old

-- the first mark from this one on that is of a group that the second pass did not find
pub record IsFirstLost (marks : List GroupMark) (sent : ℕ) (change : Change) : Type 0 where
  pub beyond : sent ≤ change.group
  pub first_is : change.first ≡ mark_at marks change.group
  pub none : change.second ≡ no_mark
  pub differ : change.first ≢ change.second
  pub before : (k : ℕ) → sent ≤ k → k < change.group → mark_at marks k ≡ no_mark

abbrev pub NoneLost : List GroupMark → ℕ → Type 0
NoneLost marks sent = (k : ℕ) → sent ≤ k → mark_at marks k ≡ no_mark

-- the input, the output and the addresses are those that they were, and faults do not fall
pub record OnlyPasses (old new : Routes) : Type 0 where
  pub names : KeepsNames old.place new.place
  pub link : OnlySends old.link new.link
  pub place_later : old.place.faults ≤ new.place.faults
  pub link_later : old.link.faults ≤ new.link.faults
