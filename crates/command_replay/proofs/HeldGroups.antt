-- The groups of a stream that is held, and their encoders.
use Rattle.std.proofs.Common.{◌≡◌, ℕ, zero, suc, ◌<◌, List, [], ◌∷◌, length, map, Some}
use Rattle.std.proofs.Common.{sym, ap, ap₂, subst, ◌∙◌, arith, All, get_or}
use Rattle.std.specs.Prelude.{slice_get, option_map}
use Rattle.std.proofs.lemmas.List.Elements.{All-map}
use Rattle.std.proofs.lemmas.List.FromFn.{length-map-range_with_len}
use Rattle.std.proofs.lemmas.Option.{none-some, slice_get-map, get_or_from_slice_get}
use Rattle.mpeg_scan.specs.declared.piece.Piece.{Piece}
use Rattle.mpeg_scan.specs.Pieces.{pieces_of}
use Rattle.priority_file.specs.Priority.{Priorities, layer_of}
use Rattle.stripe_plan.specs.Sizes.{Sizes}
use Rattle.layer_split.specs.Groups.{groups_of}
use Rattle.layer_split.specs.Layers.{Cut, cut_of, message, layer_length}
use Rattle.layer_split.specs.Runs.{runs_of}
use Rattle.layer_split.specs.laws.CutLaws.{runs_lie}
use Rattle.packet_frame.specs.declared.frame.Header.{Header}
use Rattle.packet_session.specs.Encoding.{Encoding}
use Rattle.stream_groups.specs.CutGroups.{CutGroup}
use Rattle.stream_groups.specs.laws.FittingLaws.{IsWhole}
use Rattle.stream_groups.specs.laws.StandingLaws.{groups_stand}
use Rattle.stream_session.specs.Accepted.{group_of}
use Rattle.stream_session.specs.Tables.{table_of, cuts_of_stream}
use Rattle.session_source.specs.declared.whole.WholeSource.{WholeSource}
use Rattle.command_replay.proofs.HeldSession.{tables_are, many_groups}
use Rattle.command_replay.specs.inside.Held.{IsHeld, IsEncoderAt, held_session}

pub within : {A : Type 0} (xs : List A) (k : ℕ) (x : A) → slice_get xs k ≡ Some x → k < length xs
within [] k x e = absurd (none-some x e)
within (y ∷ ys) zero x e = omega arith
within (y ∷ ys) (suc k) x e = omega (arith, within ys k x e)

-- a cut of the stream, in whose bytes its runs lie
abbrev pub placed : List ℕ → Cut → CutGroup
placed s cut = record { cut = cut; bytes = s }

whole_cuts : (priority : Priorities) (s : List ℕ)
    → All (λ cut. IsWhole (length priority.layers) (placed s cut)) (cuts_of_stream priority s)
whole_cuts priority s =
    let n : ℕ = length priority.layers in
    All-map (λ (cut : Cut). IsWhole n (placed s cut)) (cut_of (layer_of priority) n) (groups_of (pieces_of s))
    (λ k d lt.
    let group : List Piece = get_or (groups_of (pieces_of s)) k d in
    let stands = groups_stand s k d lt in
    let runs = runs_of (layer_of priority) group in
    let lie = runs_lie (layer_of priority) stands.from stands.to group stands.stand in
    let count : length (cut_of (layer_of priority) n group).lengths ≡ n =
    length-map-range_with_len (layer_length runs) 0 n in
    record {
      inside = λ i e below. omega (arith, (lie i e below).1, stands.within);
      lengths = ap (λ k. map (layer_length runs) (Rattle.std.specs.List.range_with_len 0 k)) (sym count);
      count = count;
    })

pub whole_cut : (priority : Priorities) (s : List ℕ) (group : ℕ) (cut : Cut)
    → slice_get (cuts_of_stream priority s) group ≡ Some cut → IsWhole (length priority.layers) (placed s cut)
whole_cut priority s group cut there =
    let cuts = cuts_of_stream priority s in
    subst (λ (c : Cut). IsWhole (length priority.layers) (placed s c)) (get_or_from_slice_get cuts group cut cut there)
    (whole_cuts priority s group cut (within cuts group cut there))

module _ (whole : WholeSource) (h : IsHeld whole) (group : ℕ) (cut : Cut)
    (there : slice_get (cuts_of_stream whole.source.priority whole.bytes.items) group ≡ Some cut) where
  pub table_there : slice_get whole.source.tables.items group ≡ Some (table_of whole.source.priority cut)
  table_there =
      ap (λ (ts : List Sizes). slice_get ts group) (tables_are whole h)
      ∙ slice_get-map (table_of whole.source.priority)
      (cuts_of_stream whole.source.priority whole.bytes.items) group
      ∙ ap (option_map (table_of whole.source.priority)) there

  pub group_below : group < length whole.source.tables.items
  group_below = within whole.source.tables.items group (table_of whole.source.priority cut) table_there

  group_there : slice_get (held_session whole).groups group
      ≡ Some (group_of whole.source.priority whole.bytes.items cut)
  group_there =
      slice_get-map (group_of whole.source.priority whole.bytes.items)
      (cuts_of_stream whole.source.priority whole.bytes.items) group
      ∙ ap (option_map (group_of whole.source.priority whole.bytes.items)) there

  -- an encoder of this header and this message
  pub encoder_is : (e : Encoding) (table : Sizes) (many : ℕ) → table ≡ table_of whole.source.priority cut
      → many ≡ length whole.source.tables.items
      → e.header ≡ record { session = whole.source.number; groups = many; group = group; table = table }
      → e.message ≡ message whole.bytes.items cut.runs (length whole.source.priority.layers)
      → IsEncoderAt (held_session whole) group e
  encoder_is e table many of_cut as_many header words = (
    record {
      number = ap (λ (x : Header). x.session) header;
      groups = ap (λ (x : Header). x.groups) header ∙ as_many ∙ sym (many_groups whole h);
      source =
          ap (slice_get (held_session whole).groups) (ap (λ (x : Header). x.group) header) ∙ group_there
          ∙ ap₂ (λ (t : Sizes) (m : List ℕ). Some (record { packets = t.packets; layers = t.layers; message = m }))
          (sym (ap (λ (x : Header). x.table) header ∙ of_cut)) (sym words);
    },
    ap (λ (x : Header). x.group) header,
  )
