-- The session of a stream that is held: it is that of the two files.
use Rattle.std.proofs.Common.{◌≡◌, ℕ, ◌<◌, ◌≤◌, List, length, map, Option, None, refl, sym, ap, ap₂, subst, ◌∙◌, All}
use Rattle.std.proofs.lemmas.List.{length-map}
use Rattle.std.proofs.lemmas.List.Elements.{All-map}
use Rattle.pet_base.specs.declared.event.Event.{Event}
use Rattle.pet_base.specs.declared.limits.TheConstants.{MAX_GROUPS, MAX_REPLAY_SESSION}
use Rattle.pet_base.specs.Seen.{Seen, Files}
use Rattle.stripe_plan.specs.Sizes.{Sizes}
use Rattle.mpeg_scan.specs.Pieces.{pieces_of}
use Rattle.priority_file.specs.Priority.{Priorities, layer_of}
use Rattle.priority_file.specs.Refusals.{priorities_of}
use Rattle.layer_split.specs.Faults.{fault_of}
use Rattle.layer_split.specs.Groups.{groups_of}
use Rattle.layer_split.specs.Layers.{Cut}
use Rattle.packet_session.specs.Session.{Session, SessionGroup, IsSession, Fits}
use Rattle.stream_session.specs.Accepted.{IsAcceptedWithin, group_of, session_of}
use Rattle.stream_session.specs.Number.{session_number}
use Rattle.session_source.specs.Sources.{IsSourceWithin}
use Rattle.stream_session.specs.Tables.{table_of, tables_of, cuts_of_stream}
use Rattle.session_source.specs.declared.whole.WholeSource.{WholeSource}
use Rattle.stream_session.specs.laws.FitLaws.{no_cause_within}
use Rattle.stream_session.specs.laws.SessionLaws.{tables_few_within}
use Rattle.stream_session.specs.laws.SessionOfLaws.{is_session, session_fits}
use Rattle.command_replay.specs.Replays.{HasSession}
use Rattle.command_replay.specs.inside.Held.{IsHeld, AreKnown, held_session}
use Rattle.command_replay.specs.laws.ScriptLaws.{script_known}
use Rattle.command_replay.specs.Scripts.{events_in}
use Rattle.std.specs.Prelude.{Ok}

-- what was read is held
abbrev pub held : (files : Option Files) (stream priority : List ℕ) (whole : WholeSource)
    (s : IsSourceWithin MAX_REPLAY_SESSION files stream priority whole.source) → whole.bytes.items ≡ s.bytes
    → IsHeld whole
held files stream priority whole s e = record {
  file = s.file;
  accepted = subst (λ (b : List ℕ). IsAcceptedWithin MAX_REPLAY_SESSION s.file b) (sym e) s.accepted;
  rules = s.rules;
  number = s.number ∙ ap (session_number s.file) (sym e);
  tables =
      s.tables
      ∙ ap (λ (b : List ℕ). tables_of (priorities_of s.file) (cuts_of_stream (priorities_of s.file) b)) (sym e);
}

abbrev pub has_session : (old : Seen) (stream priority : List ℕ) (whole : WholeSource)
    → IsSourceWithin MAX_REPLAY_SESSION old.files stream priority whole.source → HasSession old stream priority
has_session old stream priority whole s = record {
  priority_bytes = s.file;
  stream_bytes = s.bytes;
  priority_file = s.priority_is;
  stream_file = s.stream_is;
  session = s.accepted;
}

module _ (whole : WholeSource) (h : IsHeld whole) where
  pub session_is : held_session whole ≡ session_of h.file whole.bytes.items
  session_is =
      ap₂ (λ (n : List ℕ) (p : Priorities). record {
        number = n;
        groups = map (group_of p whole.bytes.items) (cuts_of_stream p whole.bytes.items);
      }) h.number h.rules

  pub lawful : All (λ b. b < 256) whole.bytes.items → IsSession 2 (held_session whole)
  lawful small =
      subst (λ (s : Session). IsSession 2 s) (sym session_is)
      (is_session h.file whole.bytes.items small h.accepted)

  pub fits : Fits (held_session whole) MAX_REPLAY_SESSION
  fits =
      subst (λ (s : Session). Fits s MAX_REPLAY_SESSION) (sym session_is)
      (session_fits h.file whole.bytes.items h.accepted)

  -- its groups are not refused
  pub no_split_fault : fault_of (layer_of whole.source.priority) (length whole.source.priority.layers)
      (groups_of (pieces_of whole.bytes.items)) ≡ None
  no_split_fault =
      subst (λ (p : Priorities). fault_of (layer_of p) (length p.layers) (groups_of (pieces_of whole.bytes.items)) ≡ None)
      (sym h.rules)
      (no_cause_within MAX_REPLAY_SESSION (priorities_of h.file) (pieces_of whole.bytes.items) h.accepted.fits).0

  -- its tables
  pub tables_are : whole.source.tables.items
      ≡ map (table_of whole.source.priority) (cuts_of_stream whole.source.priority whole.bytes.items)
  tables_are =
      h.tables
      ∙ ap (λ (p : Priorities). map (table_of p) (cuts_of_stream p whole.bytes.items)) (sym h.rules)

  pub tables_few : length whole.source.tables.items ≤ MAX_GROUPS
  tables_few =
      subst (λ (ts : List Sizes). length ts ≤ MAX_GROUPS) (sym h.tables)
      (tables_few_within MAX_REPLAY_SESSION (priorities_of h.file) (pieces_of whole.bytes.items) h.accepted.fits)

  pub many_groups : length (held_session whole).groups ≡ length whole.source.tables.items
  many_groups =
      let cuts : List Cut = cuts_of_stream whole.source.priority whole.bytes.items in
      length-map cuts (group_of whole.source.priority whole.bytes.items)
      ∙ sym (length-map cuts (table_of whole.source.priority)) ∙ ap (λ (ts : List Sizes). length ts) (sym tables_are)

  pub same_packets : All (λ g. g.packets ≡ whole.source.priority.packets) (held_session whole).groups
  same_packets =
      All-map (λ (g : SessionGroup). g.packets ≡ whole.source.priority.packets)
      (group_of whole.source.priority whole.bytes.items) (cuts_of_stream whole.source.priority whole.bytes.items)
      (λ k d lt. refl)

  -- the events of a script of it
  pub events_known : (bytes : List ℕ) (events : List Event)
      → events_in (length whole.source.tables.items) whole.source.priority.packets bytes ≡ Ok events
      → AreKnown (held_session whole) events
  events_known bytes events read =
      script_known (held_session whole) (length whole.source.tables.items) whole.source.priority.packets many_groups
      same_packets bytes events read
