-- The groups that the second pass of a command over a stream finds, their packets in a format and a coding, and the least
-- group at which it finds a change. This project's own.
use Rattle.std.specs.Prelude.{◌≡◌, ◌≢◌, ◌⊎◌, ℕ, ◌+◌, ◌*◌, ◌<◌, ◌≤◌, List, [], ◌∷◌, ◌++◌, length, map, Some, slice_get}
use Rattle.std.specs.List.{flat_map}
use Rattle.field_elements.specs.Field.{Coding}
use Rattle.pet_base.specs.declared.limits.TheConstants.{MAX_SESSION}
use Rattle.stripe_plan.specs.Sizes.{Sizes}
use Rattle.stripe_plan.specs.Layers.{needs_of}
use Rattle.layer_split.specs.Layers.{message_by}
use Rattle.packet_frame.specs.declared.format.Format.{Format}
use Rattle.packet_session.specs.Encoding.{Encoding}
use Rattle.stream_session.specs.declared.mark.GroupMark.{GroupMark}
use Rattle.session_source.specs.declared.source.Source.{Source}
use Rattle.stream_groups.specs.CutGroups.{CutGroup}
use Rattle.stream_groups.specs.Cutting.{HaveEnded, NoneFurther, IsCuttable, cut_groups}
use Rattle.stream_session.specs.Marks.{mark_of, no_mark, mark_at, group_marks, marks_of}
use Rattle.stream_session.specs.Tables.{table_of_in, tables_of_in, cuts_of_stream}
use Rattle.stream_session.specs.Number.{session_number}
use Rattle.stream_session.specs.Accepted.{IsAcceptedIn}
use Rattle.priority_file.specs.Priority.{Priorities}
use Rattle.priority_file.specs.Refusals.{priorities_of}
use Rattle.command_send.specs.declared.sent_group.Change.{Change}
use Rattle.packet_session.specs.Datagrams.{group_datagrams_in}

-- a group of the second pass as its packets are made in a format: under this number, of the first pass's session
abbrev pub encoding_of : Format → Source → ℕ → CutGroup → Encoding
encoding_of t source group g = record {
  header =
      record {
        session = source.number;
        groups = length source.tables.items;
        group = group;
        table = table_of_in t source.priority g.cut;
      };
  message = message_by t.word g.bytes g.cut.runs (length source.priority.layers);
}

-- groups on end, the first of which has this number
abbrev pub encodings_from : Format → Source → ℕ → List CutGroup → List Encoding
encodings_from t source first [] = []
encodings_from t source first (g ∷ groups) = encoding_of t source first g ∷ encodings_from t source (first + 1) groups

-- the packets of these groups as datagrams, from group 0 on
unfoldable pub sent_datagrams : {E : Type 0} → Format → Coding E → Source → List CutGroup → List (List ℕ)
sent_datagrams t c source groups = flat_map (group_datagrams_in t c) (encodings_from t source 0 groups)

-- packets times words
abbrev pub words_cost : Sizes → ℕ
words_cost table = table.packets * length (needs_of table.layers)

-- the marks of these groups are those of the first pass, up to this group
abbrev pub AgreeBelow : List GroupMark → List CutGroup → ℕ → Type 0
AgreeBelow marks groups limit = (k : ℕ) → k < limit → mark_at marks k ≡ mark_at (group_marks groups) k

-- these are the first groups of the stream, which ends here
abbrev pub IsFront : Priorities → List ℕ → List CutGroup → Type 0
IsFront priority stream groups = (later : List CutGroup) × (cut_groups priority stream ≡ groups ++ later)

-- A pass finds these groups first: they ended before the stream or its groups were refused, or nothing of it is
-- refused.
abbrev pub AreFound : Priorities → List ℕ → List CutGroup → Type 0
AreFound priority stream groups =
    HaveEnded priority stream groups ⊎ (IsCuttable priority stream × IsFront priority stream groups)

-- and it finds no further one
pub record AreAllFound (priority : Priorities) (stream : List ℕ) (groups : List CutGroup) : Type 0 where
  pub found : AreFound priority stream groups
  pub all : IsCuttable priority stream → cut_groups priority stream ≡ groups
  pub none_further : NoneFurther priority stream groups

-- The group after these in the stream, as the second pass marks it: it has no mark where its mark is the first
-- pass's and its table is not.
pub record IsNext (t : Format) (priority : Priorities) (tables : List Sizes) (marks : List GroupMark) (stream : List ℕ)
    (before : List CutGroup) (group : ℕ) (second : GroupMark) : Type 0 where
  pub next : CutGroup
  pub at : group ≡ length before
  pub found : AreFound priority stream (before ++ next ∷ [])
  pub marked : (second ≡ mark_of next.bytes)
      ⊎ ((second ≡ no_mark) × (mark_at marks group ≡ mark_of next.bytes)
      × (slice_get tables group ≢ Some (table_of_in t priority next.cut)))

-- The group was not found: these are all that were.
pub record IsLost (priority : Priorities) (stream : List ℕ) (before : List CutGroup) (group : ℕ)
    (second : GroupMark) : Type 0 where
  pub beyond : length before ≤ group
  pub all : AreAllFound priority stream before
  pub none : second ≡ no_mark

-- The least group of the stream whose mark is not that of the first pass, which found these tables and marks: the
-- groups
-- before it have its marks.
pub record IsLeastChange (t : Format) (priority : Priorities) (tables : List Sizes) (marks : List GroupMark)
    (stream : List ℕ) (change : Change) : Type 0 where
  pub before : List CutGroup
  pub found : AreFound priority stream before
  pub agree : AgreeBelow marks before change.group
  pub first_is : change.first ≡ mark_at marks change.group
  pub second_is : IsNext t priority tables marks stream before change.group change.second
      ⊎ IsLost priority stream before change.group change.second
  pub differ : change.first ≢ change.second

-- the tables of these groups in a format are the first of the first pass
abbrev pub HaveTables : Format → Source → List CutGroup → Type 0
HaveTables t source groups =
    (later : List Sizes)
    × (source.tables.items ≡ map (λ (g : CutGroup). table_of_in t source.priority g.cut) groups ++ later)

-- The source and the marks are those of an accepted session of a format.
pub record IsFirstPass (t : Format) (p b : List ℕ) (source : Source) (marks : List GroupMark) : Type 0 where
  pub accepted : IsAcceptedIn t MAX_SESSION p b
  pub rules : source.priority ≡ priorities_of p
  pub number : source.number ≡ session_number p b
  pub tables : source.tables.items ≡ tables_of_in t (priorities_of p) (cuts_of_stream (priorities_of p) b)
  pub marks_are : marks ≡ marks_of (priorities_of p) b
