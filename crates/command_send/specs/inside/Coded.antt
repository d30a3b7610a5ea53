-- A group of the second pass as the encoder that makes its packets is seen, and what is asked of a format, a coding and the
-- tables of a session for it. This project's own.
use Rattle.std.specs.Prelude.{◌≡◌, ℕ, ◌≤◌, List, All}
use Rattle.field_elements.specs.Field.{Coding}
use Rattle.packet_frame.specs.declared.format.Format.{Format}
use Rattle.packet_frame.specs.Planned.{IsPlanTableIn}
use Rattle.packet_encoder.specs.CodedGroup.{CodedGroup}
use Rattle.stream_groups.specs.CutGroups.{CutGroup}
use Rattle.stream_session.specs.Tables.{IsSessionFormat}
use Rattle.session_source.specs.declared.source.Source.{Source}
use Rattle.stripe_plan.specs.Sizes.{Sizes}
use Rattle.command_send.specs.Sending.{encoding_of}

abbrev pub coded_of : Format → Source → ℕ → CutGroup → CodedGroup
coded_of t source number g = record { format = t; encoding = encoding_of t source number g }

-- the format is one of sessions, its words are those of the coding, and there is a point for each packet that it allows
pub record IsCodedIn {E : Type 0} (count : ℕ) (c : Coding E) (t : Format) : Type 0 where
  pub format : IsSessionFormat t
  pub word : t.word ≡ c.width
  pub points : t.bounds.packets ≤ count

-- the tables are those whose words the plans of the format cut
abbrev pub ArePlanTables : Format → List Sizes → Type 0
ArePlanTables t tables = All (λ table. IsPlanTableIn t.bounds table.packets table.layers) tables
