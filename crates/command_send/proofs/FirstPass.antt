-- What the first pass has found: as many marks as tables, no more than a session may have, and the tables are those whose words
-- the plans of the format cut.
use Rattle.std.proofs.Common.{◌≡◌, List, ℕ, length, Option, sym, ◌∙◌, ap, subst}
use Rattle.std.specs.Prelude.{All, get_or}
use Rattle.std.proofs.lemmas.List.Elements.{All-map}
use Rattle.pet_base.specs.declared.limits.TheConstants.{MAX_SESSION}
use Rattle.pet_base.specs.Seen.{Files}
use Rattle.mpeg_scan.specs.Pieces.{pieces_of}
use Rattle.layer_split.specs.Layers.{Cut}
use Rattle.layer_split.specs.Groups.{groups_of}
use Rattle.stripe_plan.specs.Sizes.{IsTableIn, Sizes, planned}
use Rattle.packet_frame.specs.declared.format.Format.{Format}
use Rattle.packet_frame.specs.Planned.{IsPlanTableIn}
use Rattle.packet_frame.specs.laws.PlannedLaws.{planned_back}
use Rattle.priority_file.specs.Refusals.{priorities_of}
use Rattle.stream_session.specs.declared.mark.GroupMark.{GroupMark}
use Rattle.session_source.specs.declared.source.Source.{Source}
use Rattle.session_source.specs.Sources.{IsSourceIn}
use Rattle.stream_session.specs.Marks.{marks_of}
use Rattle.stream_session.specs.Tables.{sizes_of, table_of_in, cuts_of_stream, IsSessionFormat}
use Rattle.stream_session.specs.laws.FitLaws.{tables_stand_in}
use Rattle.stream_session.specs.laws.MarkLaws.{length-marks}
use Rattle.stream_session.specs.laws.SessionLaws.{layers_named, length-tables, length-tables_in}
use Rattle.stream_session.specs.laws.SessionOfLaws.{accepted_lawful}
use Rattle.command_send.specs.inside.Coded.{ArePlanTables}

-- as many marks as tables
pub as_many : (t : Format) (files : Option Files) (stream priority : List ℕ) (source : Source) (marks : List GroupMark)
    (s : IsSourceIn t MAX_SESSION files stream priority source) → marks ≡ marks_of (priorities_of s.file) s.bytes
    → length marks ≡ length source.tables.items
as_many t files stream priority source marks s are =
    let rules = priorities_of s.file in
    ap length are ∙ length-marks rules s.bytes ∙ length-tables rules (groups_of (pieces_of s.bytes))
    ∙ sym (length-tables_in t rules (groups_of (pieces_of s.bytes))) ∙ sym (ap length s.tables)

-- and the tables are those of the plans
pub plan_tables : (t : Format) → IsSessionFormat t → (files : Option Files) (stream priority : List ℕ) (source : Source)
    → IsSourceIn t MAX_SESSION files stream priority source → ArePlanTables t source.tables.items
plan_tables t format files stream priority source s =
    let rules = priorities_of s.file in
    subst (ArePlanTables t) (sym s.tables)
    (All-map IsPlanned (table_of_in t rules) (cuts_of_stream rules s.bytes)
    (λ k d lt. planned_at (get_or (cuts_of_stream rules s.bytes) k d) (tables k d lt)))
  where
    IsPlanned : Sizes → Type 0
    IsPlanned table = IsPlanTableIn t.bounds table.packets table.layers

    tables : All (λ cut. IsTableIn t.bounds (priorities_of s.file).packets (sizes_of (priorities_of s.file) cut))
        (cuts_of_stream (priorities_of s.file) s.bytes)
    tables =
        tables_stand_in t MAX_SESSION (priorities_of s.file) (pieces_of s.bytes) format.layers
        (accepted_lawful s.file s.accepted.priority_read) (layers_named s.file s.accepted.priority_read).few
        s.accepted.fits

    planned_at : (cut : Cut) → IsTableIn t.bounds (priorities_of s.file).packets (sizes_of (priorities_of s.file) cut)
        → IsPlanned (table_of_in t (priorities_of s.file) cut)
    planned_at cut is =
        let back = planned_back t.bounds (sizes_of (priorities_of s.file) cut) in
        record {
          table = subst (IsTableIn t.bounds (priorities_of s.file).packets) (sym back) is;
          whole = ap (planned t.bounds) back;
        }
